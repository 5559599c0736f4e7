use Rattle.std.proofs.Common.{◌≡◌, ◌≤◌, ◌*◌, ◌^◌, length, unsigned_abs, of_z, to_z, arith}
use Rattle.std.specs.Int.{w128}
use Rattle.script_runs.proofs.NumberLemmas.{edges, stored, virial_bound, virial_reached}
use Rattle.script_runs.proofs.numbers.pressure.Goals as goal

pub press-requires-clause-virial : goal.press-requires-clause-virial
press-requires-clause-virial c =
    let w = c.args.engine.now in
    let reached : unsigned_abs c.args.tally.now.virial ≤ 3 * 2 ^ 109 = virial_reached w.rules.cell.sides (length w.state.atoms) c.args.tally.now c.requires.shown.few c.requires.shown.small in
    let small : unsigned_abs c.args.tally.now.virial ≤ 2 ^ 121 = omega arith in
    rw (stored c.args.tally.now.virial small) small

pub returns-clause-small : goal.returns-clause-small
returns-clause-small c =
    let w = c.args.engine.now in
    let bound : unsigned_abs c.args.tally.now.virial ≤ 2 ^ 81 * edges w.rules.cell.sides = virial_bound w.rules.cell.sides (length w.state.atoms) c.args.tally.now c.requires.shown.few c.requires.shown.small in
    let reached : unsigned_abs c.args.tally.now.virial ≤ 3 * 2 ^ 109 = virial_reached w.rules.cell.sides (length w.state.atoms) c.args.tally.now c.requires.shown.few c.requires.shown.small in
    let virial : to_z w128 (of_z w128 c.args.tally.now.virial) ≡ c.args.tally.now.virial = stored c.args.tally.now.virial (omega arith) in
    let motion : to_z w128 (of_z w128 c.args.motion.now) ≡ c.args.motion.now = stored c.args.motion.now (omega arith) in
    let small : unsigned_abs c.press.result ≤ 2 ^ 98 = c.press.ensures.fits (rw motion c.requires.motion) (rw virial reached) (rw (virial, c.cell.ensures) bound) in
    rw (stored c.press.result (omega arith)) small
