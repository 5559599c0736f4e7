use Rattle.std.proofs.Common.{refl, ◌∙◌, arith}
use Rattle.box_geo.proofs.NearLemmas.{sound_edges}
use Rattle.serial_step.specs.Forces.{field_of}
use Rattle.serial_step.proofs.ForceLemmas.{field_of-fair}
use Rattle.step_engine.proofs.ForcedLemmas.{all_forced, forced_step, mild_behind, none_forced, placed_behind}
use Rattle.step_engine.proofs.PairLemmas.{steps_step, sums_none, sums_none-within, sums_step}
use Rattle.step_engine.proofs.pairs.add_rows.Goals as goal

pub loop-i-init : goal.loop-i-init
loop-i-init g c =
    let field = field_of c.args.pairs.now.pairs in
    record {
      atoms = none_forced field c.args.cell.now.sides c.args.atoms.now c.clear_forces.new.atoms c.clear_forces.ensures;
      sums = sums_none field c.args.cell.now.sides c.args.atoms.now;
      bound = sums_none-within;
      steps = refl;
    }

pub add_first-row-requires-clause-placed : goal.add_first-row-requires-clause-placed
add_first-row-requires-clause-placed g c =
    placed_behind c.args.pairs.now (field_of c.args.pairs.now.pairs) c.args.cell.now.sides c.args.atoms.now c.loop-i.atoms c.loop-i.i (omega arith) c.loop-i.invariant.atoms c.requires.placed

pub add_first-row-requires-clause-mild : goal.add_first-row-requires-clause-mild
add_first-row-requires-clause-mild g c =
    mild_behind c.args.pairs.now c.args.cell.now.sides c.args.atoms.now c.loop-i.atoms c.loop-i.i (omega arith) c.requires.few c.loop-i.invariant.atoms

pub loop-i-preserved : goal.loop-i-preserved
loop-i-preserved g c =
    let field = field_of c.args.pairs.now.pairs in
    let s = c.args.cell.now.sides in
    let atoms = c.args.atoms.now in
    let xs = c.loop-i.atoms in
    let i = c.loop-i.i in
    record {
      atoms = forced_step field s (field_of-fair c.args.pairs.now.pairs) (sound_edges s c.args.cell.now.sound) atoms xs c.add_first-row.new.atoms i (omega arith) c.loop-i.invariant.atoms c.add_first-row.ensures.atoms;
      sums = sums_step field s atoms xs i c.add_first-row.result c.loop-i.sums c.add.new.self (omega arith) c.loop-i.invariant.atoms c.add_first-row.ensures.row c.add.ensures.sums c.loop-i.invariant.sums;
      bound = c.add.ensures.bound i c.loop-i.invariant.bound;
      steps = steps_step atoms xs i c.loop-i.steps c.add_first-row.new.steps _ (omega arith) (c.loop-i.auto.atoms ∙ c.clear_forces.auto.atoms) c.loop-i.invariant.steps c.add_first-row.ensures.steps;
    }

pub returns-clause-forces : goal.returns-clause-forces
returns-clause-forces g c = all_forced (field_of c.args.pairs.now.pairs) c.args.cell.now.sides c.args.atoms.now c.loop-i.atoms c.loop-i.i (omega arith) c.loop-i.invariant.atoms
