-- A position whose lost components are put to the least of their axes wraps, and as many edges are taken off.
use Rattle.std.proofs.Common.{◌≡◌, ◌∙◌, ◌<ℤ◌, Bool, true, false, not, cond, ℤ, pos, Ok, Err, List, [], ◌∷◌, refl, ap, arith}
use Rattle.std.proofs.lemmas.Bool.Decides.{nat_tests}
use Rattle.std.proofs.lemmas.Int.{ints}
use Rattle.box_geo.specs.declared.sim_box.Axis.{Axis}
use Rattle.box_geo.specs.declared.sim_box.Axis.TheVariants.{X, Y, Z}
use Rattle.box_geo.specs.declared.sim_box.Extent.{Extent}
use Rattle.box_geo.specs.declared.sim_box.Sides.{Sides}
use Rattle.box_geo.specs.Sides.{edge, x_of, y_of, z_of, z_wraps, HasEdges}
use Rattle.box_geo.specs.Wrap.{holds, is_lost, taken_off, wrap, wrapped, Wrapped}
use Rattle.data_file.specs.Rows.{edges_off, kept, kept_at}

holds_least : (e : Extent) → pos 0 <ℤ edge e → holds e e.lo ≡ true
holds_least e some = grind (arith, ints, nat_tests)

held_by : (b : Bool) (e : Extent) (x : ℤ) → holds e x ≡ b → holds e e.lo ≡ true → not (holds e (cond (not b) e.lo x)) ≡ false
held_by true e x is least = ap not is
held_by false e x is least = ap not least

not_lost : (wraps : Bool) (e : Extent) (x : ℤ) → pos 0 <ℤ edge e → is_lost wraps e (kept_at wraps e x) ≡ false
not_lost true e x some = refl
not_lost false e x some = held_by (holds e x) e x refl (holds_least e some)

same_taken : (wraps : Bool) (e : Extent) (x : ℤ) → taken_off wraps e (kept_at wraps e x) ≡ taken_off wraps e x
same_taken true e x = refl
same_taken false e x = refl

none_lost : (a b c : Bool) (w : Wrapped) → a ≡ false → b ≡ false → c ≡ false → cond a (Err X) (cond b (Err Y) (cond c (Err Z) (Ok w))) ≡ Ok w
none_lost false false false w p q r = refl
none_lost true b c w p q r = absurd cc
none_lost false true c w p q r = absurd cc
none_lost false false true w p q r = absurd cc

-- what wrapping makes of a position that no axis loses
abbrev wrapped_from : Sides → List ℤ → Wrapped
wrapped_from s p = record {
  x = wrapped s.x.periodic s.x (x_of p) ∷ wrapped s.y.periodic s.y (y_of p) ∷ wrapped (z_wraps s) s.z (z_of p) ∷ [];
  edges = taken_off s.x.periodic s.x (x_of p) ∷ taken_off s.y.periodic s.y (y_of p) ∷ taken_off (z_wraps s) s.z (z_of p) ∷ [];
}

wrap_is : (s : Sides) (x : List ℤ) → HasEdges s → wrap s (kept s x) ≡ Ok (wrapped_from s (kept s x))
unfolding wrap
wrap_is s x some =
    none_lost (is_lost s.x.periodic s.x (kept_at s.x.periodic s.x (x_of x))) (is_lost s.y.periodic s.y (kept_at s.y.periodic s.y (y_of x))) (is_lost (z_wraps s) s.z (kept_at (z_wraps s) s.z (z_of x))) (wrapped_from s (kept s x))
    (not_lost s.x.periodic s.x (x_of x) some.0) (not_lost s.y.periodic s.y (y_of x) some.1) (not_lost (z_wraps s) s.z (z_of x) some.2)

three : (a b c d e f : ℤ) → a ≡ d → b ≡ e → c ≡ f → a ∷ b ∷ c ∷ [] ≡ d ∷ e ∷ f ∷ []
three a b c d e f p q r = cc

edges_are : (s : Sides) (x : List ℤ) → (wrapped_from s (kept s x)).edges ≡ edges_off s x
unfolding edges_off
edges_are s x = three _ _ _ _ _ _ (same_taken s.x.periodic s.x (x_of x)) (same_taken s.y.periodic s.y (y_of x)) (same_taken (z_wraps s) s.z (z_of x))

-- the edges that wrapping tells
pub kept_edges : (s : Sides) (x : List ℤ) (w : Wrapped) → HasEdges s → wrap s (kept s x) ≡ Ok w → w.edges ≡ edges_off s x
kept_edges s x w some e = let same : w ≡ wrapped_from s (kept s x) = cc (wrap_is s x some, e) in ap (λ (u : Wrapped). u.edges) same ∙ edges_are s x

pub kept_not_lost : (s : Sides) (x : List ℤ) (axis : Axis) → HasEdges s → wrap s (kept s x) ≡ Err axis → ⊥
kept_not_lost s x axis some e = cc (wrap_is s x some, e)
