-- What commands leave keeps to its limits.
use Rattle.std.proofs.Common.{arith, refl, sym, ap, subst, ◌≡◌, ◌∙◌, ◌+◌, ◌≤◌, ◌<ℤ◌, ◌≤ℤ◌, ◌*ℤ◌, ◌&&◌, inr, ℕ, zero, suc, ℤ, pos, int_le, Bool, true, false, cond, List, [], ◌∷◌, ◌++◌, length, map, not, Option, Some, None, unwrap_or, IfSome, OnOk, Result, Ok, Err}
use Rattle.std.proofs.lemmas.Bool.Decides.{nat_tests}
use Rattle.std.proofs.lemmas.Int.{ints}
use Rattle.std.proofs.lemmas.List.Elements.{All-from_recursion, All-map, All-push, All-weaker, recursion_from_All}
use Rattle.std.specs.List.{All, AllByRecursion}
use Rattle.box_geo.specs.declared.limits.TheConstants.{MAX_CUTOFF, MAX_EPSILON, MAX_KINDS, MAX_MASS, MAX_SIGMA, MIN_MASS}
use Rattle.box_geo.specs.declared.sim_box.Sides.{Sides}
use Rattle.command_words.specs.declared.masses_groups.MassSetting.{MassSetting}
use Rattle.command_words.specs.declared.pairs.PairCoeff.{PairCoeff}
use Rattle.command_words.specs.declared.ranges.KindRange.{KindRange}
use Rattle.command_words.specs.Limits.{IsCutoff}
use Rattle.meaning.specs.declared.code.Code.{Code}
use Rattle.meaning.specs.declared.code.Code.TheVariants.{BadValue}
use Rattle.meaning.specs.declared.refusal.SettingsRefusal.{SettingsRefusal}
use Rattle.meaning.specs.declared.settings.Body.{Body}
use Rattle.meaning.specs.declared.settings.Settings.{Settings}
use Rattle.meaning.specs.Answers.{Answers}
use Rattle.meaning.specs.MassesGroups.{is_beyond, mass_of_body, masses_from}
use Rattle.meaning.specs.Pairs.{given, is_uncovered, of_types, set_all, set_with, types_in}
use Rattle.meaning.specs.Sound.{IsOfSetup, IsSound, IsSoundAtom, IsSoundBody, IsSoundMass}
use Rattle.pair_lj.specs.declared.pair_settings.PairCoefficients.{PairCoefficients}
use Rattle.pair_lj.specs.Pairs.{IsSoundPair, are_covered, is_covered, set_pair, types_from, with_cutoff, with_cutoffs}
use Rattle.pair_lj.proofs.SetLemmas.{set_pair_sound}

cond_both : {X : Type 0} (P : X → Type 0) (b : Bool) (x y : X) → P x → P y → P (cond b x y)
cond_both P true x y h g = h
cond_both P false x y h g = g

-- types of a box
abbrev pub IsKind : ℕ → Type 0
IsKind i = (1 ≤ i) × (i ≤ MAX_KINDS)

of_types_sound : (p : PairCoefficients) (i j : ℕ) → IsSoundPair p → IsKind i → IsKind j → IsSoundPair (of_types p i j)
of_types_sound p i j h a b = record {
  low = omega arith;
  ordered = omega arith;
  high = omega arith;
  epsilon_low = h.epsilon_low;
  epsilon_high = h.epsilon_high;
  sigma_low = h.sigma_low;
  sigma_high = h.sigma_high;
  cutoff_low = h.cutoff_low;
  cutoff_high = h.cutoff_high;
  covered = h.covered;
}

set_with_sound : (p : PairCoefficients) (i : ℕ) (js : List ℕ) (pairs : List PairCoefficients) → IsSoundPair p → IsKind i → AllByRecursion IsKind js
    → All IsSoundPair pairs → All IsSoundPair (set_with p i js pairs)
set_with_sound p i [] pairs h a b g = g
set_with_sound p i (j ∷ js) pairs h a b g =
    set_with_sound p i js (set_pair (of_types p i j) pairs) h a b.1 (set_pair_sound (of_types p i j) pairs (of_types_sound p i j h a b.0) g)

set_all_sound : (p : PairCoefficients) (is js : List ℕ) (pairs : List PairCoefficients) → IsSoundPair p → AllByRecursion IsKind is → AllByRecursion IsKind js
    → All IsSoundPair pairs → All IsSoundPair (set_all p is js pairs)
set_all_sound p [] js pairs h a b g = g
set_all_sound p (i ∷ is) js pairs h a b g = set_all_sound p is js (set_with p i js pairs) h a.1 b (set_with_sound p i js pairs h a.0 b g)

types_from_kinds : (first n : ℕ) → 1 ≤ first → first + n ≤ MAX_KINDS + 1 → AllByRecursion IsKind (types_from first n)
types_from_kinds first zero low high = tt
types_from_kinds first (suc n) low high = ((low, omega arith), types_from_kinds (first + 1) n (omega arith) (omega arith))

types_in_kinds : (r : KindRange) (kinds : ℕ) → 1 ≤ r.first → is_beyond r kinds ≡ false → kinds ≤ MAX_KINDS → AllByRecursion IsKind (types_in r kinds)
types_in_kinds r kinds low within high = types_from_kinds r.first _ low (grind (arith, nat_tests))

-- coefficients that a command sets for types of a box
pub pairs_sound : (p : PairCoefficients) (first second : KindRange) (kinds : ℕ) (pairs : List PairCoefficients) → IsSoundPair p → 1 ≤ first.first → 1 ≤ second.first
    → is_beyond first kinds ≡ false → is_beyond second kinds ≡ false → kinds ≤ MAX_KINDS → All IsSoundPair pairs
    → All IsSoundPair (set_all p (types_in first kinds) (types_in second kinds) pairs)
pairs_sound p first second kinds pairs h a b c d high g =
    set_all_sound p (types_in first kinds) (types_in second kinds) pairs h (types_in_kinds first kinds a c high) (types_in_kinds second kinds b d high) g

-- the state with other pairs
with_pairs : (s : Settings) (style : Option ℤ) (pairs : List PairCoefficients) → IsSound s → IfSome style IsCutoff → All IsSoundPair pairs
    → IsSound (record s { force = record s.force { pair_style = style; pairs = pairs } })
with_pairs s style pairs h g each = record {
  setup = h.setup;
  force = record { style = g; pairs = each; comm_low = h.force.comm_low; comm_high = h.force.comm_high; skin_low = h.force.skin_low; skin_high = h.force.skin_high };
  body = h.body;
  dim = h.dim;
}

cutoff_or : (given : Option ℤ) (cutoff : ℤ) → IfSome given IsCutoff → IsCutoff cutoff → IsCutoff (unwrap_or given cutoff)
cutoff_or (Some given) cutoff h g = h
cutoff_or None cutoff h g = g

covered_from : (sigma cutoff : ℤ) → int_le sigma (pos 4 *ℤ cutoff) ≡ true → sigma ≤ℤ (pos 4 *ℤ cutoff)
covered_from sigma cutoff e = grind (arith, ints, nat_tests)

given_sound : (c : PairCoeff) (cutoff : ℤ) → (pos 0 ≤ℤ c.epsilon) × (c.epsilon ≤ℤ MAX_EPSILON) → (pos 0 <ℤ c.sigma) × (c.sigma ≤ℤ MAX_SIGMA) → IfSome c.cutoff IsCutoff
    → IsCutoff cutoff → is_covered (given c cutoff).cutoff (given c cutoff) ≡ true → IsSoundPair (given c cutoff)
given_sound c cutoff epsilon sigma own style covered =
    let within : IsCutoff (unwrap_or c.cutoff cutoff) = cutoff_or c.cutoff cutoff own style in
    record {
      low = omega arith;
      ordered = omega arith;
      high = omega arith;
      epsilon_low = epsilon.0;
      epsilon_high = epsilon.1;
      sigma_low = sigma.0;
      sigma_high = sigma.1;
      cutoff_low = within.low;
      cutoff_high = within.high;
      covered = covered_from c.sigma (unwrap_or c.cutoff cutoff) covered;
    }

from_not : (b : Bool) → not b ≡ false → b ≡ true
from_not true e = refl
from_not false e = absurd cc

pub covered_where : (c : PairCoeff) (style : Option ℤ) (cutoff : ℤ) → style ≡ Some cutoff → is_uncovered c style ≡ false → is_covered (given c cutoff).cutoff (given c cutoff) ≡ true
covered_where c style cutoff is e = from_not _ (subst (λ (o : Option ℤ). is_uncovered c o ≡ false) is e)

pub coefficients_sound : (c : PairCoeff) (cutoff : ℤ) (p : PairCoefficients) (kinds : ℕ) (s : Settings) (pairs : List PairCoefficients) → IsSound s → s.force.pair_style ≡ Some cutoff
    → 1 ≤ c.first.first → 1 ≤ c.second.first → (pos 0 ≤ℤ c.epsilon) × (c.epsilon ≤ℤ MAX_EPSILON) → (pos 0 <ℤ c.sigma) × (c.sigma ≤ℤ MAX_SIGMA) → IfSome c.cutoff IsCutoff
    → is_covered (given c cutoff).cutoff (given c cutoff) ≡ true → is_beyond c.first kinds ≡ false → is_beyond c.second kinds ≡ false → kinds ≤ MAX_KINDS
    → p ≡ given c cutoff → pairs ≡ set_all p (types_in c.first kinds) (types_in c.second kinds) s.force.pairs
    → IsSound (record s { force = record s.force { pairs = pairs } })
coefficients_sound c cutoff p kinds s pairs h style first second epsilon sigma own covered within also few same is =
    let set : IsCutoff cutoff = subst (λ (o : Option ℤ). IfSome o IsCutoff) style h.force.style in
    let sound : IsSoundPair p = subst IsSoundPair (sym same) (given_sound c cutoff epsilon sigma own set covered) in
    let each : All IsSoundPair (set_all p (types_in c.first kinds) (types_in c.second kinds) s.force.pairs) =
    pairs_sound p c.first c.second kinds s.force.pairs sound first second within also few h.force.pairs in
    with_pairs s s.force.pair_style pairs h h.force.style (subst (λ (l : List PairCoefficients). All IsSoundPair l) (sym is) each)

both : (a b : Bool) → (a && b) ≡ true → (a ≡ true) × (b ≡ true)
both true true e = (refl, refl)
both true false e = absurd cc
both false true e = absurd cc
both false false e = absurd cc

-- another cutoff for pairs that it covers
with_cutoff_sound : (cutoff : ℤ) (p : PairCoefficients) → IsCutoff cutoff → IsSoundPair p → is_covered cutoff p ≡ true → IsSoundPair (with_cutoff cutoff p)
with_cutoff_sound cutoff p h g e = record {
  low = g.low;
  ordered = g.ordered;
  high = g.high;
  epsilon_low = g.epsilon_low;
  epsilon_high = g.epsilon_high;
  sigma_low = g.sigma_low;
  sigma_high = g.sigma_high;
  cutoff_low = h.low;
  cutoff_high = h.high;
  covered = covered_from p.sigma cutoff e;
}

with_cutoffs_sound : (cutoff : ℤ) (pairs : List PairCoefficients) → IsCutoff cutoff → AllByRecursion IsSoundPair pairs → are_covered cutoff pairs ≡ true
    → AllByRecursion IsSoundPair (with_cutoffs cutoff pairs)
with_cutoffs_sound cutoff [] h g e = tt
with_cutoffs_sound cutoff (p ∷ pairs) h g e =
    let b = both (is_covered cutoff p) (are_covered cutoff pairs) e in
    (with_cutoff_sound cutoff p h g.0 b.0, with_cutoffs_sound cutoff pairs h g.1 b.1)

pub style_sound : (cutoff : ℤ) (s : Settings) (pairs : List PairCoefficients) → IsSound s → (pos 0 <ℤ cutoff) × (cutoff ≤ℤ MAX_CUTOFF) → are_covered cutoff s.force.pairs ≡ true
    → pairs ≡ with_cutoffs cutoff s.force.pairs → IsSound (record s { force = record s.force { pair_style = Some cutoff; pairs = pairs } })
style_sound cutoff s pairs h g covered is =
    let within : IsCutoff cutoff = record { low = g.0; high = g.1 } in
    let each : All IsSoundPair (with_cutoffs cutoff s.force.pairs) =
    All-from_recursion IsSoundPair _ (with_cutoffs_sound cutoff s.force.pairs within (recursion_from_All IsSoundPair s.force.pairs h.force.pairs) covered) in
    with_pairs s (Some cutoff) pairs h within (subst (λ (l : List PairCoefficients). All IsSoundPair l) (sym is) each)

-- masses
abbrev pub IsMass : ℤ → Type 0
IsMass m = (MIN_MASS ≤ℤ m) × (m ≤ℤ MAX_MASS)

masses_sound : (m : MassSetting) (kinds kind : ℕ) (masses : List ℤ) → IsMass m.mass → AllByRecursion IsSoundMass masses → AllByRecursion IsSoundMass (masses_from m kinds kind masses)
masses_sound m kinds kind [] h g = tt
masses_sound m kinds kind (old ∷ masses) h g = (cond_both IsSoundMass _ m.mass old (inr h) g.0, masses_sound m kinds (kind + 1) masses h g.1)

length-masses_from : (m : MassSetting) (kinds kind : ℕ) (masses : List ℤ) → length (masses_from m kinds kind masses) ≡ length masses
length-masses_from m kinds kind [] = refl
length-masses_from m kinds kind (old ∷ masses) = ap (λ (n : ℕ). suc n) (length-masses_from m kinds (kind + 1) masses)

abbrev with_mass : MassSetting → Body → Body
with_mass m b = record b { mass = masses_from m (length b.mass) 1 b.mass }

body_sound : (m : MassSetting) (b : Body) → IsSoundBody b → IsMass m.mass → IsSoundBody (with_mass m b)
body_sound m b h g =
    let same : length (masses_from m (length b.mass) 1 b.mass) ≡ length b.mass = length-masses_from m (length b.mass) 1 b.mass in
    record {
      step = h.step;
      sides = h.sides;
      some = subst (λ (n : ℕ). 1 ≤ n) (sym same) h.some;
      kinds = subst (λ (n : ℕ). n ≤ MAX_KINDS) (sym same) h.kinds;
      mass = All-from_recursion IsSoundMass _ (masses_sound m (length b.mass) 1 b.mass g (recursion_from_All IsSoundMass b.mass h.mass));
      few = h.few;
      atoms = subst (λ (n : ℕ). All (IsSoundAtom b.sides n) b.atoms) (sym same) h.atoms;
      rising = h.rising;
      bonds = h.bonds;
      angles = h.angles;
    }

-- what is in the box is as sound as before, and has the same sides
record IsKept (b new : Body) : Type 0 where
  pub sound : IsSoundBody new
  pub sides : new.sides ≡ b.sides

abbrev made : MassSetting → Body → Bool → Result Body Code
made m b beyond = cond beyond (Err BadValue) (Ok (with_mass m b))

mass_made : (m : MassSetting) (b new : Body) (beyond : Bool) → IsSoundBody b → IsMass m.mass
    → made m b beyond ≡ Ok new → IsKept b new
mass_made m b new true h g e = absurd cc
mass_made m b new false h g e =
    let same : with_mass m b ≡ new = cc in
    record { sound = subst IsSoundBody same (body_sound m b h g); sides = ap (λ (x : Body). x.sides) (sym same) }

pub mass_sound : (m : MassSetting) (s : Settings) (b new : Body) (result : Result Unit SettingsRefusal) → IsSound s → s.body ≡ Some b → IsMass m.mass
    → Answers (mass_of_body m b) result b new → OnOk result (IsSound (record s { body = Some new }))
mass_sound m s b new (Ok done) h e g a =
    let old : IsSoundBody b = subst (λ (o : Option Body). IfSome o IsSoundBody) e h.body in
    let of : IsOfSetup s.setup b = subst (λ (o : Option Body). IfSome o (IsOfSetup s.setup)) e h.dim in
    let kept : IsKept b new = mass_made m b new _ old g a in
    record { setup = h.setup; force = h.force; body = kept.sound; dim = ap (λ (t : Sides). t.dim) kept.sides ∙ of }
mass_sound m s b new (Err why) h e g a = tt
