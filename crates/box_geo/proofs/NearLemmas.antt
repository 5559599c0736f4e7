-- What the crates above cite of the box: sound sides, the nearest image, lengths, volumes.
use Rattle.std.proofs.Common.{◌≡◌, ◌+◌, ◌*◌, ◌^◌, ◌<◌, ◌≤◌, ◌==◌, ◌≢◌, Bool, true, false, cond, ℕ, ℤ, zero, suc, pos, negsuc, neg_ℤ, ◌-ℤ◌, ◌*ℤ◌, ◌+ℤ◌, ◌<ℤ◌, int_lt, unsigned_abs, List, [], ◌∷◌, length, map, Option, Some, None, FitsSigned, w64, arith, refl, ap, ◌∙◌, eq-eqb}
use Rattle.std.specs.Option.{option_or}
use Rattle.std.proofs.lemmas.Int.{ints, fits_signed_from_abs}
use Rattle.std.proofs.lemmas.Nat.{mul-le}
use Rattle.std.proofs.lemmas.Bool.Decides.{nat_tests}
use Rattle.fx_num.specs.Rounding.{nearest_of, RoundsTo}
use Rattle.fx_num.proofs.RoundingLemmas.{nearest_rounds, nearest_of-le}
use Rattle.box_geo.specs.declared.sim_box.Axis.{Axis}
use Rattle.box_geo.specs.declared.sim_box.Axis.TheVariants.{X, Y, Z}
use Rattle.box_geo.specs.declared.sim_box.BoxRefusal.{BoxRefusal}
use Rattle.box_geo.specs.declared.sim_box.Extent.{Extent}
use Rattle.box_geo.specs.declared.sim_box.Sides.{Sides}
use Rattle.box_geo.specs.Sides.{x_of, y_of, z_of, edge, extent_of, sides_of, extent_refusal, box_refusal, IsSoundExtent, IsSound, Holds, IsInside, z_wraps, near_along, near_image, length2, volume_of, whole_edges, image_displacement, HasEdges, IsOpposite}

-- bounds without a refusal make a sound box
extent_sound : (axis : Axis) (lo hi : ℤ) → extent_refusal axis lo hi ≡ None → IsSoundExtent (extent_of lo hi false)
extent_sound axis lo hi fine = grind (arith, ints, nat_tests)

both_none : (o p : Option BoxRefusal) → option_or o p ≡ None → (o ≡ None) × (p ≡ None)
both_none None p e = (refl, e)
both_none (Some w) p e = cc

pub sides_sound : (lo hi : List ℤ) (periodic : List Bool) (dim : ℕ) → 2 ≤ dim → dim ≤ 3 → box_refusal lo hi ≡ None → IsSound (sides_of lo hi periodic dim)
unfolding box_refusal
sides_sound lo hi periodic dim least most fine =
    let xy = both_none _ _ fine in
    let x = both_none _ _ xy.0 in
    (extent_sound X (x_of lo) (x_of hi) x.0, extent_sound Y (y_of lo) (y_of hi) x.1, extent_sound Z (z_of lo) (z_of hi) xy.1, least, most)

-- edges of a sound box
pub sound_edges : (s : Sides) → IsSound s → HasEdges s
sound_edges s h = (omega (arith, ints), omega (arith, ints), omega (arith, ints))

-- two places of an axis are less than an edge apart
pub apart : (e : Extent) (a b : ℤ) → Holds e a → Holds e b → unsigned_abs (a -ℤ b) < unsigned_abs (edge e)
apart e a b h k = omega (arith, ints)

pub has_edge : (e : Extent) (a : ℤ) → Holds e a → pos 0 <ℤ edge e
has_edge e a h = omega (arith, ints)

difference_small : (e : Extent) (a b : ℤ) → IsSoundExtent e → Holds e a → Holds e b → unsigned_abs (a -ℤ b) < 2 ^ 63
difference_small e a b s h k = omega (arith, ints, apart e a b h k)

pub difference_fits : (e : Extent) (a b : ℤ) → IsSoundExtent e → Holds e a → Holds e b → FitsSigned w64 (a -ℤ b)
difference_fits e a b s h k = fits_signed_from_abs w64 (a -ℤ b) (difference_small e a b s h k)

-- three components
three : (x y z u v w : ℤ) → x ≡ u → y ≡ v → z ≡ w → x ∷ y ∷ z ∷ [] ≡ u ∷ v ∷ w ∷ []
three x y z u v w f g h = cc

pub length-near_image : (s : Sides) (a b : List ℤ) → length (near_image s a b) ≡ 3
unfolding near_image
length-near_image s a b = refl

-- the nearest image by its components
pub near_image_from : (s : Sides) (a b : List ℤ) (x y z : ℤ) (wraps : Bool) → wraps ≡ z_wraps s
    → x ≡ near_along s.x.periodic (edge s.x) (x_of a -ℤ x_of b)
    → y ≡ near_along s.y.periodic (edge s.y) (y_of a -ℤ y_of b)
    → z ≡ near_along wraps (edge s.z) (z_of a -ℤ z_of b)
    → x ∷ y ∷ z ∷ [] ≡ near_image s a b
unfolding near_image
near_image_from s a b x y z wraps e f g h =
    three x y z _ _ (near_along (z_wraps s) (edge s.z) (z_of a -ℤ z_of b)) f g
    (h ∙ ap (λ (w : Bool). near_along w (edge s.z) (z_of a -ℤ z_of b)) e)

-- it is odd
near_along-neg : (wraps : Bool) (length d : ℤ) → pos 0 <ℤ length → near_along wraps length (neg_ℤ d) ≡ neg_ℤ (near_along wraps length d)
near_along-neg false length d some = refl
near_along-neg true length d some = grind (arith, ints)

exchanged : (p q : ℤ) → q -ℤ p ≡ neg_ℤ (p -ℤ q)
exchanged p q = omega (arith, ints)

near_along-exchanged : (wraps : Bool) (length p q : ℤ) → pos 0 <ℤ length → near_along wraps length (q -ℤ p) ≡ neg_ℤ (near_along wraps length (p -ℤ q))
near_along-exchanged wraps length p q some = ap (near_along wraps length) (exchanged p q) ∙ near_along-neg wraps length (p -ℤ q) some

pub near_image-exchanged : (s : Sides) (a b : List ℤ) → HasEdges s → near_image s b a ≡ map neg_ℤ (near_image s a b)
unfolding near_image
near_image-exchanged s a b h =
    three _ _ _ _ _ _
    (near_along-exchanged s.x.periodic (edge s.x) (x_of a) (x_of b) h.0)
    (near_along-exchanged s.y.periodic (edge s.y) (y_of a) (y_of b) h.1)
    (near_along-exchanged (z_wraps s) (edge s.z) (z_of a) (z_of b) h.2)

pub near_image-opposite : (s : Sides) (a b : List ℤ) → HasEdges s → IsOpposite (near_image s a b) (near_image s b a)
unfolding near_image
near_image-opposite s a b h = (
  near_along-exchanged s.x.periodic (edge s.x) (x_of a) (x_of b) h.0,
  near_along-exchanged s.y.periodic (edge s.y) (y_of a) (y_of b) h.1,
  near_along-exchanged (z_wraps s) (edge s.z) (z_of a) (z_of b) h.2,
)

-- opposite displacements are of one length
unsigned_abs-neg : (a : ℤ) → unsigned_abs (neg_ℤ a) ≡ unsigned_abs a
unsigned_abs-neg a = omega (arith, ints)

same_magnitude : (u v : ℤ) → v ≡ neg_ℤ u → unsigned_abs v ≡ unsigned_abs u
same_magnitude u v e = ap unsigned_abs e ∙ unsigned_abs-neg u

same_square : (m n : ℕ) → m ≡ n → m * m ≡ n * n
same_square m n e = ap (λ (k : ℕ). k * k) e

pub length2-opposite : (d e : List ℤ) → IsOpposite d e → length2 e ≡ length2 d
length2-opposite d e h =
    let x = same_square _ _ (same_magnitude (x_of d) (x_of e) h.0) in
    let y = same_square _ _ (same_magnitude (y_of d) (y_of e) h.1) in
    let z = same_square _ _ (same_magnitude (z_of d) (z_of e) h.2) in
    cc

-- it is the displacement to an image
one_edge : (length : ℤ) → pos 1 *ℤ length ≡ length
one_edge (pos n) = ap pos (omega arith)
one_edge (negsuc n) = omega (arith, ints)

edge_back : (length : ℤ) → negsuc 0 *ℤ length ≡ neg_ℤ length
edge_back (pos n) = ap (λ (m : ℕ). neg_ℤ (pos m)) (omega arith)
edge_back (negsuc n) = omega (arith, ints)

pub no_edge : (length : ℤ) → pos 0 *ℤ length ≡ pos 0
no_edge (pos n) = ap pos (omega arith)
no_edge (negsuc n) = omega (arith, ints)

by_tests : (above below : Bool) (length d : ℤ) → (k : ℤ) × (cond above (d -ℤ length) (cond below (d +ℤ length) d) ≡ d +ℤ k *ℤ length)
by_tests true below length d = (negsuc 0, omega (arith, ints, edge_back length))
by_tests false true length d = (pos 1, omega (arith, ints, one_edge length))
by_tests false false length d = (pos 0, omega (arith, ints, no_edge length))

near_along_image : (wraps : Bool) (length d : ℤ) → (k : ℤ) × (near_along wraps length d ≡ d +ℤ whole_edges wraps length k)
near_along_image false length d = (pos 0, omega (arith, ints))
near_along_image true length d = by_tests (int_lt length (pos 2 *ℤ d)) (int_lt (pos 2 *ℤ d) (neg_ℤ length)) length d

pub near_image_image : (s : Sides) (a b : List ℤ) → (i : ℤ) × (j : ℤ) × (k : ℤ) × (near_image s a b ≡ image_displacement s a b i j k)
unfolding near_image image_displacement
near_image_image s a b =
    let x = near_along_image s.x.periodic (edge s.x) (x_of a -ℤ x_of b) in
    let y = near_along_image s.y.periodic (edge s.y) (y_of a -ℤ y_of b) in
    let z = near_along_image (z_wraps s) (edge s.z) (z_of a -ℤ z_of b) in
    (x.0, y.0, z.0, three _ _ _ _ _ _ x.1 y.1 z.1)

-- and no displacement to an image is shorter
stays : (e : ℕ) (d : ℤ) → unsigned_abs d < e → unsigned_abs (near_along true (pos e) d) ≤ unsigned_abs d
stays e d within = grind (arith, ints)

upward : (e m : ℕ) (d : ℤ) → unsigned_abs d < e → e ≤ m → unsigned_abs (near_along true (pos e) d) ≤ unsigned_abs (d +ℤ pos m)
upward e m d within far = grind (arith, ints)

downward : (e m : ℕ) (d : ℤ) → unsigned_abs d < e → e ≤ m → unsigned_abs (near_along true (pos e) d) ≤ unsigned_abs (d +ℤ neg_ℤ (pos m))
downward e m d within far = grind (arith, ints)

near_wrapped-le : (e : ℕ) (d k : ℤ) → unsigned_abs d < e → unsigned_abs (near_along true (pos e) d) ≤ unsigned_abs (d +ℤ k *ℤ pos e)
near_wrapped-le e d (pos zero) within = omega (arith, ints, stays e d within, no_edge (pos e))
near_wrapped-le e d (pos (suc n)) within = upward e (suc n * e) d within (omega arith)
near_wrapped-le e d (negsuc n) within = downward e (suc n * e) d within (omega arith)

near_along-le : (wraps : Bool) (length d k : ℤ) → pos 0 <ℤ length → unsigned_abs d < unsigned_abs length → unsigned_abs (near_along wraps length d) ≤ unsigned_abs (d +ℤ whole_edges wraps length k)
near_along-le false length d k some within = omega (arith, ints)
near_along-le true (pos e) d k some within = near_wrapped-le e d k within
near_along-le true (negsuc e) d k some within = absurd (omega (arith, ints))

square-le : (m n : ℕ) → m ≤ n → m * m ≤ n * n
square-le m n h = mul-le m m n n h h

sum_le : (l m n u v w : ℕ) → l ≤ u → m ≤ v → n ≤ w → l + m + n ≤ u + v + w
sum_le l m n u v w f g h = omega arith

pub near_image_shortest : (s : Sides) (a b : List ℤ) (i j k : ℤ) → IsInside s a → IsInside s b → length2 (near_image s a b) ≤ length2 (image_displacement s a b i j k)
unfolding near_image image_displacement
near_image_shortest s a b i j k h g =
    let x = square-le _ _ (near_along-le s.x.periodic (edge s.x) (x_of a -ℤ x_of b) i (has_edge s.x (x_of a) h.0) (apart s.x (x_of a) (x_of b) h.0 g.0)) in
    let y = square-le _ _ (near_along-le s.y.periodic (edge s.y) (y_of a -ℤ y_of b) j (has_edge s.y (y_of a) h.1) (apart s.y (y_of a) (y_of b) h.1 g.1)) in
    let z = square-le _ _ (near_along-le (z_wraps s) (edge s.z) (z_of a -ℤ z_of b) k (has_edge s.z (z_of a) h.2) (apart s.z (z_of a) (z_of b) h.2 g.2)) in
    sum_le _ _ _ _ _ _ x y z

-- the volume of a sound box
above : (n d q : ℕ) → d ≤ n → RoundsTo n d q → 0 < d → 0 < q
above n d zero least r some = absurd (omega (arith, r.at_least))
above n d (suc q) least r some = omega arith

some_units : (n d : ℕ) → 0 < d → d ≤ n → 0 < nearest_of n d
some_units n d some least = above n d (nearest_of n d) least (nearest_rounds n d some) some

between : (n d : ℕ) → 0 < d → d ≤ n → n ≤ 2 ^ 54 * d → (0 < nearest_of n d) × (nearest_of n d ≤ 2 ^ 54)
between n d some least most = (some_units n d some least, nearest_of-le n d (2 ^ 54) some most)

product : (x y : ℕ) → 2 ^ 18 ≤ x → 2 ^ 18 ≤ y → x ≤ 2 ^ 34 → y ≤ 2 ^ 34 → (2 ^ 36 ≤ x * y) × (x * y ≤ 2 ^ 68)
product x y f g h k =
    let low : 2 ^ 18 * 2 ^ 18 ≤ x * y = mul-le (2 ^ 18) (2 ^ 18) x y f g in
    let high : x * y ≤ 2 ^ 34 * 2 ^ 34 = mul-le x y (2 ^ 34) (2 ^ 34) h k in
    (low, high)

cube : (x y z : ℕ) → 2 ^ 36 ≤ x * y → x * y ≤ 2 ^ 68 → 2 ^ 18 ≤ z → z ≤ 2 ^ 34 → (2 ^ 48 ≤ x * y * z) × (x * y * z ≤ 2 ^ 54 * 2 ^ 48)
cube x y z f g h k =
    let low : 2 ^ 36 * 2 ^ 18 ≤ x * y * z = mul-le (2 ^ 36) (2 ^ 18) (x * y) z f h in
    let high : x * y * z ≤ 2 ^ 68 * 2 ^ 34 = mul-le (x * y) z (2 ^ 68) (2 ^ 34) g k in
    (omega arith, omega arith)

long : (e : Extent) → IsSoundExtent e → 2 ^ 18 ≤ unsigned_abs (edge e)
long e h = omega (arith, ints)

short : (e : Extent) → IsSoundExtent e → unsigned_abs (edge e) ≤ 2 ^ 34
short e h = omega (arith, ints)

volume_by : (space : Bool) (x y z : ℕ) → 2 ^ 18 ≤ x → 2 ^ 18 ≤ y → 2 ^ 18 ≤ z → x ≤ 2 ^ 34 → y ≤ 2 ^ 34 → z ≤ 2 ^ 34
    → let v = cond space (nearest_of (x * y * z) (2 ^ 48)) (nearest_of (x * y) (2 ^ 24)) in (0 < v) × (v ≤ 2 ^ 54)
volume_by true x y z a b c f g h =
    let p = product x y a b f g in
    let q = cube x y z p.0 p.1 c h in
    between (x * y * z) (2 ^ 48) (omega arith) q.0 q.1
volume_by false x y z a b c f g h =
    let p = product x y a b f g in
    between (x * y) (2 ^ 24) (omega arith) (omega (arith, p.0)) (omega (arith, p.1))

pub volume_bounds : (s : Sides) → IsSound s → (0 < volume_of s) × (volume_of s ≤ 2 ^ 54)
unfolding volume_of
volume_bounds s h =
    volume_by (s.dim == 3) (unsigned_abs (edge s.x)) (unsigned_abs (edge s.y)) (unsigned_abs (edge s.z))
    (long s.x h.0) (long s.y h.1) (long s.z h.2) (short s.x h.0) (short s.y h.1) (short s.z h.2)

-- the volume by its edges
product3 : (x y z u v w : ℕ) → x ≡ u → y ≡ v → z ≡ w → x * y * z ≡ u * v * w
product3 x y z u v w f g h = cc

product2 : (x y u v : ℕ) → x ≡ u → y ≡ v → x * y ≡ u * v
product2 x y u v f g = cc

no_equality : (m n : ℕ) → m ≢ n → (m == n) ≡ false
no_equality m n differ = grind (arith, nat_tests)

pub volume_of-space : (s : Sides) (x y z : ℕ) → s.dim ≡ 3 → x ≡ unsigned_abs (edge s.x) → y ≡ unsigned_abs (edge s.y) → z ≡ unsigned_abs (edge s.z)
    → nearest_of (x * y * z) (2 ^ 48) ≡ volume_of s
unfolding volume_of
volume_of-space s x y z e f g h =
    let t : (s.dim == 3) ≡ true = eq-eqb s.dim 3 e in
    ap (λ (n : ℕ). nearest_of n (2 ^ 48)) (product3 x y z _ _ _ f g h) ∙ rw t refl

pub volume_of-plane : (s : Sides) (x y : ℕ) → s.dim ≢ 3 → x ≡ unsigned_abs (edge s.x) → y ≡ unsigned_abs (edge s.y)
    → nearest_of (x * y) (2 ^ 24) ≡ volume_of s
unfolding volume_of
volume_of-plane s x y differ f g =
    let t : (s.dim == 3) ≡ false = no_equality s.dim 3 differ in
    ap (λ (n : ℕ). nearest_of n (2 ^ 24)) (product2 x y _ _ f g) ∙ rw t refl
