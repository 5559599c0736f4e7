-- A step in its parts.
use Rattle.std.proofs.Common.{◌≡◌, ◌==◌, ◌<◌, ℕ, false, cond, List, [], ◌∷◌, map, length, refl, sym, ap, subst, ◌∙◌, arith}
use Rattle.std.proofs.lemmas.Bool.Decides.{nat_tests}
use Rattle.std.proofs.lemmas.Grind.{common_steps}
use Rattle.box_geo.specs.declared.atoms.Atom.{Atom}
use Rattle.box_geo.specs.declared.fault.FaultKey.{FaultKey}
use Rattle.box_geo.specs.Fault.{no_fault}
use Rattle.fix_list.specs.declared.fixes.NamedFix.{NamedFix}
use Rattle.serial_step.specs.Forces.{field_of, forces_fault, with_forces}
use Rattle.serial_step.specs.Step.{Setting, State, atoms_of, drifted, fault_of, first_fault, kicked_again, referenced, serial_step, sums_of}
use Rattle.serial_step.specs.Work.{step_pairs}
use Rattle.step_engine.specs.declared.tally.Tally.{Tally}
use Rattle.step_engine.specs.Engine.{IsKeyOf, World, setting_of, tally_of, with_atoms}
use Rattle.sums.specs.Totals.{half}

-- the world after each part
abbrev pub after_drift : List NamedFix → World → World
after_drift fixes w = record w { state = referenced (setting_of w.rules fixes) w.state (atoms_of (map (drifted (setting_of w.rules fixes)) w.state.atoms)) }

abbrev pub after_forces : World → World
after_forces w = with_atoms w (with_forces (field_of w.rules.field.pairs.pairs) w.rules.cell.sides w.state.atoms)

abbrev pub after_kick : List NamedFix → World → World
after_kick fixes w = with_atoms w (atoms_of (map (kicked_again (setting_of w.rules fixes)) w.state.atoms))

-- all parts are a step
pub step_is : (fixes : List NamedFix) (w d f k : World) → d ≡ after_drift fixes w → f ≡ after_forces d → k ≡ after_kick fixes f → k ≡ record w { state = (serial_step (setting_of w.rules fixes) w.state).state }
unfolding serial_step
step_is fixes w d f k ed ef ek = ek ∙ ap (after_kick fixes) (ef ∙ ap after_forces ed)

pub sums_are : (fixes : List NamedFix) (w d : World) (tally : Tally) → d ≡ after_drift fixes w → tally ≡ tally_of (sums_of (setting_of d.rules fixes) d.state.atoms) → tally ≡ tally_of (serial_step (setting_of w.rules fixes) w.state).sums
unfolding serial_step
sums_are fixes w d tally ed is = is ∙ ap (λ (u : World). tally_of (sums_of (setting_of u.rules fixes) u.state.atoms)) ed

-- the fault of a step is that of its first part that has one
later_is : (earlier later : ℕ) → earlier ≡ no_fault → first_fault earlier later ≡ later
later_is earlier later none = subst (λ (n : ℕ). first_fault n later ≡ later) (sym none) refl

earlier_is : (earlier later : ℕ) → earlier < no_fault → first_fault earlier later ≡ earlier
earlier_is earlier later some =
    let e : (earlier == no_fault) ≡ false = grind (arith, nat_tests) in
    ap (λ b. cond b later earlier) e

pub drift_fault : (t : Setting) (s : State) → fault_of (map (drifted t) s.atoms) < no_fault → (serial_step t s).fault ≡ fault_of (map (drifted t) s.atoms)
unfolding serial_step
drift_fault t s some = earlier_is (fault_of (map (drifted t) s.atoms)) _ some

pub force_fault : (fixes : List NamedFix) (w d : World) (word : ℕ) → d ≡ after_drift fixes w → fault_of (map (drifted (setting_of w.rules fixes)) w.state.atoms) ≡ no_fault → word ≡ forces_fault (field_of d.rules.field.pairs.pairs) d.rules.cell.sides d.state.atoms → word < no_fault → (serial_step (setting_of w.rules fixes) w.state).fault ≡ word
unfolding serial_step
force_fault fixes w d word ed none is some =
    let same : word ≡ forces_fault (field_of w.rules.field.pairs.pairs) w.rules.cell.sides (after_drift fixes w).state.atoms = is ∙ ap (λ (u : World). forces_fault (field_of u.rules.field.pairs.pairs) u.rules.cell.sides u.state.atoms) ed in
    later_is (fault_of (map (drifted (setting_of w.rules fixes)) w.state.atoms)) _ none
    ∙ earlier_is (forces_fault (field_of w.rules.field.pairs.pairs) w.rules.cell.sides (after_drift fixes w).state.atoms) _ (omega (arith, same))
    ∙ sym same

pub kick_fault : (fixes : List NamedFix) (w d f : World) (word : ℕ) → d ≡ after_drift fixes w → f ≡ after_forces d → fault_of (map (drifted (setting_of w.rules fixes)) w.state.atoms) ≡ no_fault → forces_fault (field_of d.rules.field.pairs.pairs) d.rules.cell.sides d.state.atoms ≡ no_fault → word ≡ fault_of (map (kicked_again (setting_of f.rules fixes)) f.state.atoms) → (serial_step (setting_of w.rules fixes) w.state).fault ≡ word
unfolding serial_step
kick_fault fixes w d f word ed ef none sound is =
    let same : forces_fault (field_of w.rules.field.pairs.pairs) w.rules.cell.sides (after_drift fixes w).state.atoms ≡ no_fault = sym (ap (λ (u : World). forces_fault (field_of u.rules.field.pairs.pairs) u.rules.cell.sides u.state.atoms) ed) ∙ sound in
    let kicked : word ≡ fault_of (map (kicked_again (setting_of w.rules fixes)) (after_forces (after_drift fixes w)).state.atoms) = is ∙ ap (λ (u : World). fault_of (map (kicked_again (setting_of u.rules fixes)) u.state.atoms)) (ef ∙ ap after_forces ed) in
    later_is (fault_of (map (drifted (setting_of w.rules fixes)) w.state.atoms)) _ none
    ∙ later_is (forces_fault (field_of w.rules.field.pairs.pairs) w.rules.cell.sides (after_drift fixes w).state.atoms) _ same
    ∙ sym kicked

-- how many pairs there are
pub length-half : (xs ys : List Atom) → length xs ≡ length ys → length (half xs) ≡ length (half ys)
length-half [] [] e = refl
length-half [] (y ∷ ys) e = absurd (omega arith)
length-half (x ∷ xs) [] e = absurd (omega arith)
length-half (x ∷ xs) (y ∷ ys) e = let rest = length-half xs ys (omega arith) in grind (arith, common_steps)

pub same_pairs : (fixes : List NamedFix) (w d : World) → d ≡ after_drift fixes w → length (half d.state.atoms) ≡ length (half w.state.atoms)
same_pairs fixes w d ed = length-half d.state.atoms w.state.atoms (ap (λ (u : World). length u.state.atoms) ed ∙ grind (arith, common_steps))

-- after a drift without a fault they are those that the step evaluates
pub pairs_are : (fixes : List NamedFix) (w d : World) → d ≡ after_drift fixes w → fault_of (map (drifted (setting_of w.rules fixes)) w.state.atoms) ≡ no_fault → length (half d.state.atoms) ≡ step_pairs (setting_of w.rules fixes) w.state
pairs_are fixes w d ed none =
    same_pairs fixes w d ed
    ∙ sym (ap (λ (n : ℕ). cond (n == no_fault) (length (half w.state.atoms)) 0) none)

-- the key of a part's fault is that of the step
pub key_of : (word fault : ℕ) (key other : FaultKey) → fault ≡ word → key ≡ other → IsKeyOf word other → IsKeyOf fault key
key_of word fault key other same is h =
    let P : FaultKey → Type 0 = λ k. IsKeyOf word k in
    subst (λ (n : ℕ). IsKeyOf n key) (sym same) (subst P (sym is) h)
