-- A pair nearer than the reach has one image within reach, where the edges have room.
use Rattle.std.proofs.Common.{◌≡◌, ◌++◌, ◌<◌, ◌≤◌, ◌*◌, ◌==◌, ◌&&◌, ◌⊎◌, inl, inr, Bool, true, false, cond, ℕ, ℤ, pos, neg_ℤ, ◌+ℤ◌, ◌-ℤ◌, ◌*ℤ◌, ◌<ℤ◌, ◌≤ℤ◌, int_lt, unsigned_abs, List, [], ◌∷◌, map, filter, flat_map, refl, sym, ap, ◌∙◌, arith}
use Rattle.std.specs.List.{All}
use Rattle.std.proofs.lemmas.Int.{ints}
use Rattle.std.proofs.lemmas.Nat.{mul-le}
use Rattle.std.proofs.lemmas.Bool.{cases_lt}
use Rattle.std.proofs.lemmas.Bool.Decides.{nat_tests}
use Rattle.std.proofs.lemmas.List.{append-nil}
use Rattle.std.proofs.lemmas.List.Concat.{flat_map_single}
use Rattle.std.proofs.lemmas.List.Elements.{All-cons, All-map, All-nil, All-weaker}
use Rattle.box_geo.specs.declared.sim_box.Extent.{Extent}
use Rattle.box_geo.specs.declared.sim_box.Sides.{Sides}
use Rattle.box_geo.specs.Sides.{HasEdges, Holds, IsInside, edge, length2, near_along, near_image, x_of, y_of, z_of, z_wraps}
use Rattle.box_geo.proofs.NearLemmas.{apart}
use Rattle.ghost_shell.specs.Images.{moved, shifts, shifts_along, stays}
use Rattle.ghost_shell.specs.Lists.{HasRoom, HasRoomAlong, difference, is_short, nearest_along, nearest_shift}
use Rattle.sums.proofs.Lists.{All-flat_map, filter_none, filter-flat_map}

-- a length is among those of an axis
abbrev pub IsAmong : Bool → ℤ → ℤ → Type 0
IsAmong true e i = (i ≡ neg_ℤ e) ⊎ ((i ≡ pos 0) ⊎ (i ≡ e))
IsAmong false e i = i ≡ pos 0

all_among : (wraps : Bool) (e : ℤ) → All (IsAmong wraps e) (shifts_along wraps e)
all_among true e =
    All-cons (IsAmong true e) (neg_ℤ e) (pos 0 ∷ e ∷ []) (inl refl)
    (All-cons (IsAmong true e) (pos 0) (e ∷ []) (inr (inl refl))
    (All-cons (IsAmong true e) e [] (inr (inr refl)) (All-nil (IsAmong true e))))
all_among false e = All-cons (IsAmong false e) (pos 0) [] refl (All-nil (IsAmong false e))

module _ {Y : Type 0} (e best : ℤ) (g : ℤ → List Y) (long : pos 0 <ℤ e) (none : (i : ℤ) → IsAmong true e i → (i ≡ best → ⊥) → g i ≡ []) where
  at_down : best ≡ neg_ℤ e → g (neg_ℤ e) ++ (g (pos 0) ++ (g e ++ [])) ≡ g best
  at_down is =
      let a : g (pos 0) ≡ [] = none (pos 0) (inr (inl refl)) (λ q. absurd (omega (arith, ints))) in
      let b : g e ≡ [] = none e (inr (inr refl)) (λ q. absurd (omega (arith, ints))) in
      rw (a, b) (append-nil (g (neg_ℤ e)) ∙ ap g (sym is))

  at_stay : best ≡ pos 0 → g (neg_ℤ e) ++ (g (pos 0) ++ (g e ++ [])) ≡ g best
  at_stay is =
      let a : g (neg_ℤ e) ≡ [] = none (neg_ℤ e) (inl refl) (λ q. absurd (omega (arith, ints))) in
      let b : g e ≡ [] = none e (inr (inr refl)) (λ q. absurd (omega (arith, ints))) in
      rw (a, b) (append-nil (g (pos 0)) ∙ ap g (sym is))

  at_up : best ≡ e → g (neg_ℤ e) ++ (g (pos 0) ++ (g e ++ [])) ≡ g best
  at_up is =
      let a : g (neg_ℤ e) ≡ [] = none (neg_ℤ e) (inl refl) (λ q. absurd (omega (arith, ints))) in
      let b : g (pos 0) ≡ [] = none (pos 0) (inr (inl refl)) (λ q. absurd (omega (arith, ints))) in
      rw (a, b) (append-nil (g e) ∙ ap g (sym is))

-- of the lengths of an axis only one counts
collapse : {Y : Type 0} (wraps : Bool) (e best : ℤ) (g : ℤ → List Y) → pos 0 <ℤ e → IsAmong wraps e best → ((i : ℤ) → IsAmong wraps e i → (i ≡ best → ⊥) → g i ≡ [])
    → flat_map g (shifts_along wraps e) ≡ g best
collapse true e best g long (inl is) none = at_down e best g long none is
collapse true e best g long (inr (inl is)) none = at_stay e best g long none is
collapse true e best g long (inr (inr is)) none = at_up e best g long none is
collapse false e best g long is none = append-nil (g (pos 0)) ∙ ap g (sym is)

not_true : (b : Bool) → (b ≡ true → ⊥) → b ≡ false
not_true true h = absurd (h refl)
not_true false h = refl

module _ (p : List ℤ → Bool) (s : Sides) (bx by bz : ℤ) (long : HasEdges s)
    (ax : IsAmong s.x.periodic (edge s.x) bx) (ay : IsAmong s.y.periodic (edge s.y) by) (az : IsAmong (z_wraps s) (edge s.z) bz)
    (only : (i j k : ℤ) → IsAmong s.x.periodic (edge s.x) i → IsAmong s.y.periodic (edge s.y) j → IsAmong (z_wraps s) (edge s.z) k → p (i ∷ j ∷ k ∷ []) ≡ true → (i ≡ bx) × (j ≡ by) × (k ≡ bz)) where
  abbrev xs : List ℤ
  xs = shifts_along s.x.periodic (edge s.x)

  abbrev ys : List ℤ
  ys = shifts_along s.y.periodic (edge s.y)

  abbrev zs : List ℤ
  zs = shifts_along (z_wraps s) (edge s.z)

  abbrev line : ℤ → ℤ → List (List ℤ)
  line i j = map (λ k. i ∷ j ∷ k ∷ []) zs

  abbrev plane : ℤ → List (List ℤ)
  plane i = flat_map (line i) ys

  line_none : (i j : ℤ) → IsAmong s.x.periodic (edge s.x) i → IsAmong s.y.periodic (edge s.y) j → ((i ≡ bx) × (j ≡ by) → ⊥) → All (λ v. p v ≡ false) (line i j)
  line_none i j f g out =
      All-map (λ v. p v ≡ false) (λ k. i ∷ j ∷ k ∷ []) zs
      (All-weaker (IsAmong (z_wraps s) (edge s.z)) (λ k. p (i ∷ j ∷ k ∷ []) ≡ false)
      (λ k h. not_true (p (i ∷ j ∷ k ∷ [])) (λ t. let r = only i j k f g h t in out (r.0, r.1))) zs (all_among (z_wraps s) (edge s.z)))

  plane_none : (i : ℤ) → IsAmong s.x.periodic (edge s.x) i → (i ≡ bx → ⊥) → filter p (plane i) ≡ []
  plane_none i f out =
      filter_none p (plane i)
      (All-flat_map (λ v. p v ≡ false) (line i) ys
      (All-weaker (IsAmong s.y.periodic (edge s.y)) (λ j. All (λ v. p v ≡ false) (line i j)) (λ j g. line_none i j f g (λ r. out r.0)) ys (all_among s.y.periodic (edge s.y))))

  point_none : (k : ℤ) → IsAmong (z_wraps s) (edge s.z) k → (k ≡ bz → ⊥) → filter p ((bx ∷ by ∷ k ∷ []) ∷ []) ≡ []
  point_none k h out =
      let t : p (bx ∷ by ∷ k ∷ []) ≡ false = not_true (p (bx ∷ by ∷ k ∷ [])) (λ t. out (only bx by k ax ay h t).2) in
      rw t refl

  line_one : filter p (line bx by) ≡ filter p ((bx ∷ by ∷ bz ∷ []) ∷ [])
  line_one =
      ap (filter p) (sym (flat_map_single (λ k. bx ∷ by ∷ k ∷ []) zs))
      ∙ filter-flat_map p (λ k. (bx ∷ by ∷ k ∷ []) ∷ []) zs
      ∙ collapse (z_wraps s) (edge s.z) bz (λ k. filter p ((bx ∷ by ∷ k ∷ []) ∷ [])) long.2 az point_none

  plane_one : filter p (plane bx) ≡ filter p (line bx by)
  plane_one =
      filter-flat_map p (line bx) ys
      ∙ collapse s.y.periodic (edge s.y) by (λ j. filter p (line bx j)) long.1 ay
      (λ j g out. filter_none p (line bx j) (line_none bx j ax g (λ r. out r.1)))

  -- where a test finds no shift but one, it finds that one alone
  pub collapsed : filter p (shifts s) ≡ cond (p (bx ∷ by ∷ bz ∷ [])) ((bx ∷ by ∷ bz ∷ []) ∷ []) []
  unfolding shifts
  collapsed =
      filter-flat_map p plane xs
      ∙ collapse s.x.periodic (edge s.x) bx (λ i. filter p (plane i)) long.0 ax plane_none
      ∙ plane_one
      ∙ line_one

-- the nearest image along an axis
among_by : (a b : Bool) (e : ℤ) → IsAmong true e (cond a e (cond b (neg_ℤ e) (pos 0)))
among_by true b e = inr (inr refl)
among_by false true e = inl refl
among_by false false e = inr (inl refl)

nearest_among : (wraps : Bool) (e d : ℤ) → IsAmong wraps e (nearest_along wraps e d)
nearest_among true e d = among_by (int_lt e (pos 2 *ℤ d)) (int_lt (pos 2 *ℤ d) (neg_ℤ e)) e
nearest_among false e d = refl

only_down : (e d i : ℤ) (reach : ℕ) → pos 0 <ℤ e → pos (2 * reach) ≤ℤ e → unsigned_abs d < unsigned_abs e → i ≡ neg_ℤ e → unsigned_abs (d -ℤ i) < reach → i ≡ nearest_along true e d
only_down e d i reach long room within is near = grind (arith, ints)

only_stay : (e d i : ℤ) (reach : ℕ) → pos 0 <ℤ e → pos (2 * reach) ≤ℤ e → unsigned_abs d < unsigned_abs e → i ≡ pos 0 → unsigned_abs (d -ℤ i) < reach → i ≡ nearest_along true e d
only_stay e d i reach long room within is near = grind (arith, ints)

only_up : (e d i : ℤ) (reach : ℕ) → pos 0 <ℤ e → pos (2 * reach) ≤ℤ e → unsigned_abs d < unsigned_abs e → i ≡ e → unsigned_abs (d -ℤ i) < reach → i ≡ nearest_along true e d
only_up e d i reach long room within is near = grind (arith, ints)

nearest_only : (wraps : Bool) (e d i : ℤ) (reach : ℕ) → pos 0 <ℤ e → HasRoomAlong wraps e reach → unsigned_abs d < unsigned_abs e → IsAmong wraps e i → unsigned_abs (d -ℤ i) < reach → i ≡ nearest_along wraps e d
nearest_only true e d i reach long room within (inl is) near = only_down e d i reach long room within is near
nearest_only true e d i reach long room within (inr (inl is)) near = only_stay e d i reach long room within is near
nearest_only true e d i reach long room within (inr (inr is)) near = only_up e d i reach long room within is near
nearest_only false e d i reach long room within is near = is

is_by : (a b : Bool) (e d : ℤ) → d -ℤ cond a e (cond b (neg_ℤ e) (pos 0)) ≡ cond a (d -ℤ e) (cond b (d +ℤ e) d)
is_by true b e d = refl
is_by false true e d = omega (arith, ints)
is_by false false e d = omega (arith, ints)

nearest_is : (wraps : Bool) (e d : ℤ) → d -ℤ nearest_along wraps e d ≡ near_along wraps e d
nearest_is true e d = is_by (int_lt e (pos 2 *ℤ d)) (int_lt (pos 2 *ℤ d) (neg_ℤ e)) e d
nearest_is false e d = omega (arith, ints)

-- from an image's position to its shift
pub less_shift : (p q i : ℤ) → p -ℤ (q +ℤ i) ≡ (p -ℤ q) -ℤ i
less_shift p q i = omega (arith, ints)

three : (x y z u v w : ℤ) → x ≡ u → y ≡ v → z ≡ w → x ∷ y ∷ z ∷ [] ≡ u ∷ v ∷ w ∷ []
three x y z u v w f g h = cc

pub nearest_displacement : (s : Sides) (p q : List ℤ) → difference p (moved q (nearest_shift s p q)) ≡ near_image s p q
unfolding nearest_shift near_image
nearest_displacement s p q =
    three _ _ _ _ _ _
    (less_shift (x_of p) (x_of q) _ ∙ nearest_is s.x.periodic (edge s.x) (x_of p -ℤ x_of q))
    (less_shift (y_of p) (y_of q) _ ∙ nearest_is s.y.periodic (edge s.y) (y_of p -ℤ y_of q))
    (less_shift (z_of p) (z_of q) _ ∙ nearest_is (z_wraps s) (edge s.z) (z_of p -ℤ z_of q))

-- a short displacement has short components
root_below : (a r : ℕ) → a * a < r * r → a < r
root_below a r lt = by_cases (cases_lt a r)
  where
    by_cases : (a < r) ⊎ (r ≤ a) → a < r
    by_cases (inl h) = h
    by_cases (inr h) = absurd (omega (arith, mul-le r r a a h h))

pub short_parts : (reach : ℕ) (d : List ℤ) → is_short reach d ≡ true → (unsigned_abs (x_of d) < reach) × (unsigned_abs (y_of d) < reach) × (unsigned_abs (z_of d) < reach)
short_parts reach d short =
    let x : ℕ = unsigned_abs (x_of d) * unsigned_abs (x_of d) in
    let y : ℕ = unsigned_abs (y_of d) * unsigned_abs (y_of d) in
    let z : ℕ = unsigned_abs (z_of d) * unsigned_abs (z_of d) in
    let below : length2 d < reach * reach = grind (arith, nat_tests) in
    (root_below _ reach (omega arith), root_below _ reach (omega arith), root_below _ reach (omega arith))

near_shift : (wraps : Bool) (e : Extent) (p q i : ℤ) (reach : ℕ) → pos 0 <ℤ edge e → HasRoomAlong wraps (edge e) reach → Holds e p → Holds e q → IsAmong wraps (edge e) i
    → unsigned_abs (p -ℤ (q +ℤ i)) < reach → i ≡ nearest_along wraps (edge e) (p -ℤ q)
near_shift wraps e p q i reach long room f g among near =
    nearest_only wraps (edge e) (p -ℤ q) i reach long room (apart e p q f g) among (omega (arith, ap unsigned_abs (less_shift p q i)))

pub one_image : (s : Sides) (reach : ℕ) (p q : List ℤ) → HasEdges s → HasRoom s reach → IsInside s p → IsInside s q
    → filter (λ shift. is_short reach (difference p (moved q shift))) (shifts s) ≡ cond (is_short reach (near_image s p q)) (nearest_shift s p q ∷ []) []
unfolding nearest_shift
one_image s reach p q long room f g =
    collapsed (λ shift. is_short reach (difference p (moved q shift))) s
    (nearest_along s.x.periodic (edge s.x) (x_of p -ℤ x_of q))
    (nearest_along s.y.periodic (edge s.y) (y_of p -ℤ y_of q))
    (nearest_along (z_wraps s) (edge s.z) (z_of p -ℤ z_of q))
    long (nearest_among s.x.periodic (edge s.x) _) (nearest_among s.y.periodic (edge s.y) _) (nearest_among (z_wraps s) (edge s.z) _)
    (λ i j k a b c short.
    let r = short_parts reach (difference p (moved q (i ∷ j ∷ k ∷ []))) short in (
      near_shift s.x.periodic s.x (x_of p) (x_of q) i reach long.0 room.0 f.0 g.0 a r.0,
      near_shift s.y.periodic s.y (y_of p) (y_of q) j reach long.1 room.1 f.1 g.1 b r.1,
      near_shift (z_wraps s) s.z (z_of p) (z_of q) k reach long.2 room.2 f.2 g.2 c r.2,
    ))
    ∙ ap (λ (d : List ℤ). cond (is_short reach d) (nearest_shift s p q ∷ []) []) (nearest_displacement s p q)

-- one shift moves nothing
pub three_true : (a b c : Bool) → (a && (b && c)) ≡ true → (a ≡ true) × (b ≡ true) × (c ≡ true)
three_true true true true t = (refl, refl, refl)
three_true true true false t = cc
three_true true false c t = cc
three_true false b c t = cc

stays_only : (i j k : ℤ) → stays (i ∷ j ∷ k ∷ []) ≡ true → (i ≡ pos 0) × (j ≡ pos 0) × (k ≡ pos 0)
stays_only i j k t = stays_by (unsigned_abs i) (unsigned_abs j) (unsigned_abs k) i j k refl refl refl t
  where
    zero_of : (n : ℕ) (x : ℤ) → n ≡ unsigned_abs x → (n == 0) ≡ true → x ≡ pos 0
    zero_of n x e t = let z : n ≡ 0 = grind (arith, nat_tests) in omega (arith, ints)

    stays_by : (a b c : ℕ) (x y z : ℤ) → a ≡ unsigned_abs x → b ≡ unsigned_abs y → c ≡ unsigned_abs z → ((a == 0) && ((b == 0) && (c == 0))) ≡ true → (x ≡ pos 0) × (y ≡ pos 0) × (z ≡ pos 0)
    stays_by a b c x y z e f g t = let r = three_true (a == 0) (b == 0) (c == 0) t in (zero_of a x e r.0, zero_of b y f r.1, zero_of c z g r.2)

zero_among : (wraps : Bool) (e : ℤ) → IsAmong wraps e (pos 0)
zero_among true e = inr (inl refl)
zero_among false e = refl

pub one_stays : (s : Sides) → HasEdges s → filter stays (shifts s) ≡ (pos 0 ∷ pos 0 ∷ pos 0 ∷ []) ∷ []
one_stays s long =
    collapsed stays s (pos 0) (pos 0) (pos 0) long (zero_among s.x.periodic (edge s.x)) (zero_among s.y.periodic (edge s.y)) (zero_among (z_wraps s) (edge s.z))
    (λ i j k a b c t. stays_only i j k t)
