-- What the crates above cite of wrapping: it is by whole edges, in one way only.
use Rattle.std.proofs.Common.{◌≡◌, ◌+◌, ◌-◌, ◌*◌, ◌/◌, ◌%◌, ◌^◌, ◌<◌, ◌≤◌, ◌↔◌, Bool, true, false, cond, ℕ, ℤ, pos, negsuc, ◌+ℤ◌, ◌-ℤ◌, ◌*ℤ◌, ◌<ℤ◌, ◌≤ℤ◌, unsigned_abs, List, [], ◌∷◌, length, Result, Ok, Err, FitsSigned, w64, arith, refl, sym, ap, subst, ◌∙◌}
use Rattle.std.proofs.lemmas.Int.{ints, fits_signed_from_abs, fits_signed_mul, unsigned_abs-mul}
use Rattle.std.proofs.lemmas.Nat.{div-mul-add, div-add-mod', div_below, mod_below, mul-le}
use Rattle.std.proofs.lemmas.Bool.Decides.{nat_tests}
use Rattle.box_geo.specs.declared.sim_box.Axis.{Axis}
use Rattle.box_geo.specs.declared.sim_box.Axis.TheVariants.{X, Y, Z}
use Rattle.box_geo.specs.declared.sim_box.Extent.{Extent}
use Rattle.box_geo.specs.declared.sim_box.Sides.{Sides}
use Rattle.box_geo.specs.Sides.{x_of, y_of, z_of, edge, Holds, IsInside, z_wraps, HasEdges}
use Rattle.box_geo.specs.Wrap.{floor_div, edges_beyond, is_lost, taken_off, wrapped, wrap, Wrapped, IsWrappedAlong, IsWrapped, Loses, LosesFirst}
use Rattle.box_geo.proofs.NearLemmas.{no_edge}

-- numbers of edges are few, and so is their length
pub few_edges : (distance edge : ℕ) → distance < 2 ^ 41 → 2 ^ 18 ≤ edge → distance / edge < 2 ^ 24 - 1
few_edges distance edge short long = div_below distance edge (2 ^ 24 - 1) (omega arith) (omega arith)

pub length_small : (edges edge : ℤ) → unsigned_abs edges < 2 ^ 24 → unsigned_abs edge ≤ 2 ^ 34 → unsigned_abs (edges *ℤ edge) ≤ 2 ^ 58
length_small edges edge few short =
    let m : unsigned_abs edges * unsigned_abs edge ≤ 2 ^ 24 * 2 ^ 34 = mul-le (unsigned_abs edges) (unsigned_abs edge) (2 ^ 24) (2 ^ 34) (omega arith) short in
    omega (arith, m, unsigned_abs-mul edges edge)

pub length_fits : (edges edge : ℤ) → unsigned_abs edges < 2 ^ 24 → unsigned_abs edge ≤ 2 ^ 34 → FitsSigned w64 (edges *ℤ edge)
length_fits edges edge few short = fits_signed_mul w64 edges edge (2 ^ 24) (2 ^ 34) (omega arith) short (omega arith)

less_small : (x p : ℤ) → unsigned_abs x ≤ 2 ^ 40 → unsigned_abs p ≤ 2 ^ 58 → unsigned_abs (x -ℤ p) < 2 ^ 63
less_small x p f g = omega (arith, ints)

pub less_fits : (x p : ℤ) → unsigned_abs x ≤ 2 ^ 40 → unsigned_abs p ≤ 2 ^ 58 → FitsSigned w64 (x -ℤ p)
less_fits x p f g = fits_signed_from_abs w64 (x -ℤ p) (less_small x p f g)

-- what is left beside whole edges
abbrev rest : ℤ → ℕ → ℕ
rest (pos n) b = n % b
rest (negsuc n) b = b - 1 - n % b

rest_below : (a : ℤ) (b : ℕ) → 0 < b → rest a b < b
rest_below (pos n) b some = mod_below n b some
rest_below (negsuc n) b some = omega arith

floor_div-whole : (a : ℤ) (b : ℕ) → 0 < b → a ≡ floor_div a b *ℤ pos b +ℤ pos (rest a b)
floor_div-whole (pos n) b some = ap pos (sym (div-add-mod' n b))
floor_div-whole (negsuc n) b some = omega (arith, ints, div-add-mod' n b, mod_below n b some)

-- and the number of edges is the only one
floor_div-is : (k : ℤ) (r b : ℕ) → r < b → floor_div (k *ℤ pos b +ℤ pos r) b ≡ k
floor_div-is (pos n) r b below = ap pos (div-mul-add n b r below)
floor_div-is (negsuc n) r b below =
    let e : negsuc n *ℤ pos b +ℤ pos r ≡ negsuc (n * b + (b - 1 - r)) = omega (arith, ints) in
    ap (λ (a : ℤ). floor_div a b) e ∙ ap negsuc (div-mul-add n b (b - 1 - r) (omega arith))

edge_is : (a : ℤ) → pos 0 <ℤ a → a ≡ pos (unsigned_abs a)
edge_is a some = omega (arith, ints)

some_edge : (a : ℤ) → pos 0 <ℤ a → 0 < unsigned_abs a
some_edge a some = omega (arith, ints)

inside_by : (lo hi x p : ℤ) (r b : ℕ) → hi -ℤ lo ≡ pos b → x -ℤ lo ≡ p +ℤ pos r → r < b → (lo ≤ℤ (x -ℤ p)) × ((x -ℤ p) <ℤ hi)
inside_by lo hi x p r b e f below = (omega (arith, ints), omega (arith, ints))

back : (x p : ℤ) → x ≡ x -ℤ p +ℤ p
back x p = omega (arith, ints)

less_nothing : (x p : ℤ) → p ≡ pos 0 → x -ℤ p ≡ x
less_nothing x p e = omega (arith, ints)

kept : (e : Extent) (x : ℤ) → is_lost false e x ≡ false → Holds e x
kept e x h = grind (arith, ints, nat_tests)

holds_same : (e : Extent) (x y : ℤ) → y ≡ x → Holds e x → Holds e y
holds_same e x y is h = (omega (arith, ints, h.0), omega (arith, ints, h.1))

pub along_axis : (wraps : Bool) (e : Extent) (x : ℤ) → pos 0 <ℤ edge e → is_lost wraps e x ≡ false → IsWrappedAlong wraps e x (wrapped wraps e x) (taken_off wraps e x)
along_axis true e x some fine =
    let b : ℕ = unsigned_abs (edge e) in
    let k : ℤ = edges_beyond e x in
    let whole = floor_div-whole (x -ℤ e.lo) b (some_edge (edge e) some) in
    let same : x -ℤ e.lo ≡ k *ℤ edge e +ℤ pos (rest (x -ℤ e.lo) b) = whole ∙ ap (λ (l : ℤ). k *ℤ l +ℤ pos (rest (x -ℤ e.lo) b)) (sym (edge_is (edge e) some)) in
    record {
      inside = inside_by e.lo e.hi x (k *ℤ edge e) (rest (x -ℤ e.lo) b) b (edge_is (edge e) some) same (rest_below (x -ℤ e.lo) b (some_edge (edge e) some));
      whole = back x (k *ℤ edge e);
      fixed = λ no. cc;
    }
along_axis false e x some fine =
    record {
      inside = holds_same e x (x -ℤ pos 0 *ℤ edge e) (less_nothing x _ (no_edge (edge e))) (kept e x fine);
      whole = back x (pos 0 *ℤ edge e);
      fixed = λ no. refl;
    }

-- the other way: what is inside and whole edges away is what wrapping gives
from_place : (lo hi x new p : ℤ) → hi -ℤ lo ≡ pos (unsigned_abs (hi -ℤ lo)) → lo ≤ℤ new → new <ℤ hi → x ≡ new +ℤ p
    → (x -ℤ lo ≡ p +ℤ pos (unsigned_abs (new -ℤ lo))) × (unsigned_abs (new -ℤ lo) < unsigned_abs (hi -ℤ lo))
from_place lo hi x new p e low high is = (omega (arith, ints), omega (arith, ints))

edges_are : (e : Extent) (x new k : ℤ) → pos 0 <ℤ edge e → Holds e new → x ≡ new +ℤ k *ℤ edge e → edges_beyond e x ≡ k
edges_are e x new k some inside is =
    let b : ℕ = unsigned_abs (edge e) in
    let f = from_place e.lo e.hi x new (k *ℤ edge e) (edge_is (edge e) some) inside.0 inside.1 is in
    ap (λ (a : ℤ). floor_div a b) (f.0 ∙ ap (λ (l : ℤ). k *ℤ l +ℤ pos (unsigned_abs (new -ℤ e.lo))) (edge_is (edge e) some))
    ∙ floor_div-is k (unsigned_abs (new -ℤ e.lo)) b f.1

less_is : (x new p q : ℤ) → q ≡ p → x ≡ new +ℤ p → x -ℤ q ≡ new
less_is x new p q e is = omega (arith, ints)

no_length : (k length : ℤ) → k ≡ pos 0 → k *ℤ length ≡ pos 0
no_length k length e = ap (λ (j : ℤ). j *ℤ length) e ∙ no_edge length

inside_kept : (e : Extent) (x : ℤ) → Holds e x → is_lost false e x ≡ false
inside_kept e x h = grind (arith, ints, nat_tests)

plus_nothing : (x new p : ℤ) → p ≡ pos 0 → x ≡ new +ℤ p → x ≡ new
plus_nothing x new p e is = omega (arith, ints)

pub only_along : (wraps : Bool) (e : Extent) (x new k : ℤ) → pos 0 <ℤ edge e → IsWrappedAlong wraps e x new k
    → (is_lost wraps e x ≡ false) × (wrapped wraps e x ≡ new) × (taken_off wraps e x ≡ k)
only_along true e x new k some h =
    let are = edges_are e x new k some h.inside h.whole in
    (refl, less_is x new (k *ℤ edge e) (edges_beyond e x *ℤ edge e) (ap (λ (j : ℤ). j *ℤ edge e) are) h.whole, are)
only_along false e x new k some h =
    let none = no_length k (edge e) (h.fixed refl) in
    let same = plus_nothing x new (k *ℤ edge e) none h.whole in
    (inside_kept e x (holds_same e new x same h.inside), less_nothing x _ (no_edge (edge e)) ∙ same, sym (h.fixed refl))

-- a box takes its three axes
abbrev pub lost_along : Sides → List ℤ → Axis → Bool
lost_along s p X = is_lost s.x.periodic s.x (x_of p)
lost_along s p Y = is_lost s.y.periodic s.y (y_of p)
lost_along s p Z = is_lost (z_wraps s) s.z (z_of p)

abbrev pub places_of : Sides → List ℤ → List ℤ
places_of s p = wrapped s.x.periodic s.x (x_of p) ∷ wrapped s.y.periodic s.y (y_of p) ∷ wrapped (z_wraps s) s.z (z_of p) ∷ []

abbrev pub edges_of : Sides → List ℤ → List ℤ
edges_of s p = taken_off s.x.periodic s.x (x_of p) ∷ taken_off s.y.periodic s.y (y_of p) ∷ taken_off (z_wraps s) s.z (z_of p) ∷ []

abbrev wrapped_of : Sides → List ℤ → Wrapped
wrapped_of s p = record { x = places_of s p; edges = edges_of s p }

abbrev chosen : Bool → Bool → Bool → Wrapped → Result Wrapped Axis
chosen a b c w = cond a (Err X) (cond b (Err Y) (cond c (Err Z) (Ok w)))

wrap-chosen : (s : Sides) (p : List ℤ) → wrap s p ≡ chosen (lost_along s p X) (lost_along s p Y) (lost_along s p Z) (wrapped_of s p)
unfolding wrap
wrap-chosen s p = refl

chosen-ok : (a b c : Bool) (w u : Wrapped) → chosen a b c w ≡ Ok u → (a ≡ false) × (b ≡ false) × (c ≡ false) × (w ≡ u)
chosen-ok false false false w u e = (refl, refl, refl, cc)
chosen-ok false false true w u e = cc
chosen-ok false true c w u e = cc
chosen-ok true b c w u e = cc

chosen-x : (a b c : Bool) (w : Wrapped) → chosen a b c w ≡ Err X → a ≡ true
chosen-x true b c w e = refl
chosen-x false true c w e = cc
chosen-x false false true w e = cc
chosen-x false false false w e = cc

chosen-y : (a b c : Bool) (w : Wrapped) → chosen a b c w ≡ Err Y → (a ≡ false) × (b ≡ true)
chosen-y true b c w e = cc
chosen-y false true c w e = (refl, refl)
chosen-y false false true w e = cc
chosen-y false false false w e = cc

chosen-z : (a b c : Bool) (w : Wrapped) → chosen a b c w ≡ Err Z → (a ≡ false) × (b ≡ false) × (c ≡ true)
chosen-z true b c w e = cc
chosen-z false true c w e = cc
chosen-z false false true w e = (refl, refl, refl)
chosen-z false false false w e = cc

lost_from : (wraps : Bool) (e : Extent) (x : ℤ) → is_lost wraps e x ≡ true → Loses wraps e x
lost_from true e x h = cc
lost_from false e x h = (refl, λ inside. absurd (true_false (sym h ∙ inside_kept e x inside)))
  where
    true_false : true ≡ false → ⊥
    true_false e = cc

pub lost_by : (wraps : Bool) (e : Extent) (x : ℤ) → Loses wraps e x → is_lost wraps e x ≡ true
lost_by true e x h = cc
lost_by false e x h = grind (arith, ints, nat_tests)

pub kept_from : (wraps : Bool) (e : Extent) (x : ℤ) → is_lost wraps e x ≡ false → ¬ Loses wraps e x
kept_from wraps e x h = λ l. let t = lost_by wraps e x l in cc

kept_by : (wraps : Bool) (e : Extent) (x : ℤ) → (¬ Loses wraps e x) → is_lost wraps e x ≡ false
kept_by wraps e x h = by_test (is_lost wraps e x) (lost_from wraps e x)
  where
    by_test : (b : Bool) → (b ≡ true → Loses wraps e x) → b ≡ false
    by_test true lost = absurd (h (lost refl))
    by_test false lost = refl

abbrev wrapped_with : List ℤ → List ℤ → Wrapped
wrapped_with x edges = record { x = x; edges = edges }

same_wrapped : (u w : Wrapped) → u.x ≡ w.x → u.edges ≡ w.edges → u ≡ w
same_wrapped u w e f = ap (λ (l : List ℤ). wrapped_with l u.edges) e ∙ ap (λ (l : List ℤ). wrapped_with w.x l) f

-- the first axis that loses the position
pub wrap-x : (s : Sides) (p : List ℤ) → lost_along s p X ≡ true → wrap s p ≡ Err X
wrap-x s p a = wrap-chosen s p ∙ rw a refl

pub wrap-y : (s : Sides) (p : List ℤ) → lost_along s p X ≡ false → lost_along s p Y ≡ true → wrap s p ≡ Err Y
wrap-y s p a b = wrap-chosen s p ∙ rw (a, b) refl

pub wrap-z : (s : Sides) (p : List ℤ) → lost_along s p X ≡ false → lost_along s p Y ≡ false → lost_along s p Z ≡ true → wrap s p ≡ Err Z
wrap-z s p a b c = wrap-chosen s p ∙ rw (a, b, c) refl

pub wrap-ok : (s : Sides) (p : List ℤ) → lost_along s p X ≡ false → lost_along s p Y ≡ false → lost_along s p Z ≡ false → wrap s p ≡ Ok record { x = places_of s p; edges = edges_of s p }
wrap-ok s p a b c = wrap-chosen s p ∙ rw (a, b, c) refl

abbrev pub less_edges : Sides → List ℤ → List ℤ → List ℤ
less_edges s p edges = (x_of p -ℤ x_of edges *ℤ edge s.x) ∷ (y_of p -ℤ y_of edges *ℤ edge s.y) ∷ (z_of p -ℤ z_of edges *ℤ edge s.z) ∷ []

pub wrap-by : (s : Sides) (p x edges : List ℤ) → lost_along s p X ≡ false → lost_along s p Y ≡ false → lost_along s p Z ≡ false → edges ≡ edges_of s p → x ≡ less_edges s p edges → wrap s p ≡ Ok record { x = x; edges = edges }
wrap-by s p x edges a b c e f = wrap-ok s p a b c ∙ ap Ok (sym (same_wrapped record { x = x; edges = edges } (wrapped_of s p) (f ∙ ap (less_edges s p) e) e))

pub lost_along-z : (s : Sides) (p : List ℤ) (wraps lost : Bool) → wraps ≡ z_wraps s → lost ≡ is_lost wraps s.z (z_of p) → lost_along s p Z ≡ lost
lost_along-z s p wraps lost e f = sym (f ∙ ap (λ (w : Bool). is_lost w s.z (z_of p)) e)

pub wrap-lost : (s : Sides) (p : List ℤ) (axis : Axis) → (wrap s p ≡ Err axis) ↔ LosesFirst s p axis
wrap-lost s p X = (
  λ e. lost_from s.x.periodic s.x (x_of p) (chosen-x _ _ _ _ (sym (wrap-chosen s p) ∙ e)),
  λ h. wrap-x s p (lost_by s.x.periodic s.x (x_of p) h),
)
wrap-lost s p Y = (
  λ e. let t = chosen-y _ _ _ _ (sym (wrap-chosen s p) ∙ e) in (kept_from s.x.periodic s.x (x_of p) t.0, lost_from s.y.periodic s.y (y_of p) t.1),
  λ h. wrap-y s p (kept_by s.x.periodic s.x (x_of p) h.0) (lost_by s.y.periodic s.y (y_of p) h.1),
)
wrap-lost s p Z = (
  λ e. let t = chosen-z _ _ _ _ (sym (wrap-chosen s p) ∙ e) in (kept_from s.x.periodic s.x (x_of p) t.0, kept_from s.y.periodic s.y (y_of p) t.1, lost_from (z_wraps s) s.z (z_of p) t.2),
  λ h. wrap-z s p (kept_by s.x.periodic s.x (x_of p) h.0) (kept_by s.y.periodic s.y (y_of p) h.1) (lost_by (z_wraps s) s.z (z_of p) h.2),
)

-- a position wraps to just what is inside and whole edges away
made : (s : Sides) (p : List ℤ) → HasEdges s → lost_along s p X ≡ false → lost_along s p Y ≡ false → lost_along s p Z ≡ false → IsWrapped s p (wrapped_of s p)
made s p some a b c = record {
  x = along_axis s.x.periodic s.x (x_of p) some.0 a;
  y = along_axis s.y.periodic s.y (y_of p) some.1 b;
  z = along_axis (z_wraps s) s.z (z_of p) some.2 c;
  places = refl;
  counts = refl;
}

pub wrap-made : (s : Sides) (p : List ℤ) (w : Wrapped) → HasEdges s → wrap s p ≡ Ok w → IsWrapped s p w
wrap-made s p w some e =
    let t = chosen-ok _ _ _ _ w (sym (wrap-chosen s p) ∙ e) in
    subst (IsWrapped s p) t.3 (made s p some t.0 t.1 t.2)

three : (x y z u v w : ℤ) → x ≡ u → y ≡ v → z ≡ w → x ∷ y ∷ z ∷ [] ≡ u ∷ v ∷ w ∷ []
three x y z u v w f g h = cc

three_of : (v : List ℤ) → length v ≡ 3 → x_of v ∷ y_of v ∷ z_of v ∷ [] ≡ v
three_of [] e = absurd (omega arith)
three_of (x ∷ []) e = absurd (omega arith)
three_of (x ∷ y ∷ []) e = absurd (omega arith)
three_of (x ∷ y ∷ z ∷ []) e = refl
three_of (x ∷ y ∷ z ∷ u ∷ v) e = absurd (omega arith)

pub wrap-only : (s : Sides) (p : List ℤ) (w : Wrapped) → HasEdges s → IsWrapped s p w → wrap s p ≡ Ok w
wrap-only s p w some h =
    let x = only_along s.x.periodic s.x (x_of p) (x_of w.x) (x_of w.edges) some.0 h.x in
    let y = only_along s.y.periodic s.y (y_of p) (y_of w.x) (y_of w.edges) some.1 h.y in
    let z = only_along (z_wraps s) s.z (z_of p) (z_of w.x) (z_of w.edges) some.2 h.z in
    wrap-ok s p x.0 y.0 z.0
    ∙ ap Ok (same_wrapped (wrapped_of s p) w
    (three _ _ _ _ _ _ x.1 y.1 z.1 ∙ three_of w.x h.places)
    (three _ _ _ _ _ _ x.2 y.2 z.2 ∙ three_of w.edges h.counts))

pub one_way : (s : Sides) (p : List ℤ) (w u : Wrapped) → HasEdges s → IsWrapped s p w → IsWrapped s p u → u ≡ w
one_way s p w u some h k = same_ok u w (wrap s p) (wrap-only s p u some k) (wrap-only s p w some h)
  where
    same_ok : (u w : Wrapped) (r : Result Wrapped Axis) → r ≡ Ok u → r ≡ Ok w → u ≡ w
    same_ok u w r e f = cc

pub wrap-inside : (s : Sides) (p : List ℤ) (w : Wrapped) → HasEdges s → wrap s p ≡ Ok w → IsInside s w.x
wrap-inside s p w some e = let h = wrap-made s p w some e in (h.x.inside, h.y.inside, h.z.inside)
