use Rattle.std.proofs.Common.{rules, ◌≡◌, ◌∙◌, ◌^◌, ◌≤◌, ℕ, ℤ, unsigned_abs, to_z, of_z, ap, sym, subst, length, arith}
use Rattle.std.specs.Int.{w64, w128}
use Rattle.std.proofs.lemmas.Int.{fits_signed_from_abs, to_z-of_z}
use Rattle.box_geo.specs.declared.sim_box.SimBox.{SimBox}
use Rattle.computes.specs.Quantities.{kinetic_sum, pressure, temperature}
use Rattle.script_runs.specs.Line.{AreEnergies}
use Rattle.script_runs.proofs.NumberLemmas.{stored}
use Rattle.script_runs.proofs.numbers.values_of.Goals as goal

pub returns-clause-are : goal.returns-clause-are
returns-clause-are c =
    let w = c.args.engine.now in
    let s : ℤ = kinetic_sum w.rules.mass w.state.atoms in
    let motion : to_z w128 (of_z w128 c.motion-motion.result) ≡ s = stored c.motion-motion.result (omega (arith, c.motion-motion.ensures.bound, c.requires.few)) ∙ c.motion-motion.ensures.is in
    let small : unsigned_abs c.pressure.result ≤ 2 ^ 121 = omega (arith, c.pressure.ensures.small) in
    record {
      step = search rules;
      atoms = search rules;
      dt = search rules;
      time = search rules;
      temp = to_z-of_z w64 c.temp.result (fits_signed_from_abs w64 c.temp.result (omega (arith, c.temp.ensures.bound))) ∙ c.temp.ensures.is ∙ ap (λ (x : ℤ). temperature x c.count-atoms.result c.cell.result.now.sides.dim) motion
          ∙ ap (λ (n : ℕ). temperature s n c.cell.result.now.sides.dim) c.count-atoms.ensures ∙ ap (λ (b : SimBox). temperature s (length w.state.atoms) b.sides.dim) c.cell.ensures;
      press = stored c.pressure.result small ∙ c.pressure.ensures.is ∙ ap (λ (x : ℤ). pressure x c.args.tally.now.virial w.rules.cell.sides) motion;
      energies = subst (λ (x : ℤ). AreEnergies c.args.tally.now.pair x (length w.state.atoms) c.energies_of.result) motion c.energies_of.ensures.are;
      size = c.size_of.ensures.is;
    }
