-- The sums over pairs are small: bounds for each pair, and how many pairs there are.
use Rattle.std.proofs.Common.{◌≡◌, ◌+◌, ◌*◌, ◌^◌, ◌≤◌, ℕ, pos, unsigned_abs, Result, Ok, Err, IfOk, List, length, ap, subst, ◌∙◌, arith}
use Rattle.std.proofs.lemmas.Grind.{common_steps}
use Rattle.fix_list.specs.declared.fixes.NamedFix.{NamedFix}
use Rattle.step_engine.specs.Engine.{World}
use Rattle.step_engine.proofs.StepLemmas.{after_drift}
use Rattle.std.specs.List.{All}
use Rattle.std.proofs.lemmas.List.Elements.{All-weaker}
use Rattle.std.proofs.lemmas.Nat.{mul-le}
use Rattle.box_geo.specs.declared.atoms.Atom.{Atom}
use Rattle.box_geo.specs.declared.sim_box.Sides.{Sides}
use Rattle.box_geo.specs.Sides.{IsInside, edge}
use Rattle.pair_lj.specs.Table.{IsFinished, Table}
use Rattle.serial_step.specs.Forces.{field_of, pair_energy, pair_virial}
use Rattle.serial_step.proofs.Bounds.{field_of-light, length-half, pair_energy-within, pair_virial-reached, pair_virial-within}
use Rattle.step_engine.specs.declared.tally.Tally.{Tally}
use Rattle.step_engine.specs.Ranges.{IsPlaced, IsSmall}
use Rattle.sums.specs.Totals.{half}

-- twice a sum of at most so much for each pair
twice : (sum bound h n : ℕ) → sum ≤ bound * h → 2 * h ≤ n * n → 2 * sum ≤ bound * (n * n)
twice sum bound h n within few =
    let low : bound * (2 * h) ≤ bound * (n * n) = mul-le bound (2 * h) bound (n * n) (omega arith) few in
    grind arith

pub sums_small : (table : Table) (s : Sides) (atoms : List Atom) (t : Tally) → t.pair ≡ pair_energy (field_of table.pairs) s atoms → t.virial ≡ pair_virial (field_of table.pairs) s atoms
    → IsFinished table → All (IsPlaced table s) atoms → IsSmall s (length atoms) t
sums_small table s atoms t pair virial finished placed =
    let inside : All (λ a. IsInside s a.x) atoms = All-weaker (IsPlaced table s) (λ a. IsInside s a.x) (λ a h. h.inside) atoms placed in
    record {
      pair = rw pair (twice (unsigned_abs (pair_energy (field_of table.pairs) s atoms)) (2 ^ 58) (length (half atoms)) (length atoms) (pair_energy-within table.pairs s atoms finished.sound) (length-half atoms));
      virial = rw virial (twice (unsigned_abs (pair_virial (field_of table.pairs) s atoms)) (2 ^ 42 * (unsigned_abs (edge s.x) + unsigned_abs (edge s.y) + unsigned_abs (edge s.z))) (length (half atoms)) (length atoms)
          (pair_virial-within (field_of table.pairs) s atoms (field_of-light table.pairs) inside) (length-half atoms));
      reached = rw virial (twice (unsigned_abs (pair_virial (field_of table.pairs) s atoms)) (3 * 2 ^ 70) (length (half atoms)) (length atoms) (pair_virial-reached table.pairs s atoms finished.sound) (length-half atoms));
    }

-- so are those of an evaluation of forces
pub tally_small : {E : Type 0} (result : Result Tally E) (table : Table) (s : Sides) (atoms : List Atom) → IfOk result (λ t. t ≡ record { pair = pair_energy (field_of table.pairs) s atoms; bond = pos 0; angle = pos 0; virial = pair_virial (field_of table.pairs) s atoms })
    → IsFinished table → All (IsPlaced table s) atoms → IfOk result (IsSmall s (length atoms))
tally_small (Err e) table s atoms is finished placed = tt
tally_small (Ok t) table s atoms is finished placed = sums_small table s atoms t (ap (λ (u : Tally). u.pair) is) (ap (λ (u : Tally). u.virial) is) finished placed

-- and those of a step: the drift leaves the box and the number of atoms
pub step_small : (fixes : List NamedFix) (w d : World) (tally : Tally) → d ≡ after_drift fixes w → IsSmall d.rules.cell.sides (length d.state.atoms) tally → IsSmall w.rules.cell.sides (length w.state.atoms) tally
step_small fixes w d tally ed h =
    let size : length d.state.atoms ≡ length w.state.atoms = ap (λ (u : World). length u.state.atoms) ed ∙ grind (arith, common_steps) in
    let sides : d.rules.cell.sides ≡ w.rules.cell.sides = ap (λ (u : World). u.rules.cell.sides) ed in
    subst (λ (s : Sides). IsSmall s (length w.state.atoms) tally) sides (subst (λ (n : ℕ). IsSmall d.rules.cell.sides n tally) size h)
