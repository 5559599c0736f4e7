use Rattle.serial_step.specs.Forces.{field_of}
use Rattle.step_engine.proofs.PairLemmas.{first_settled}
use Rattle.step_engine.proofs.pairs.add_first.Goals as goal

pub returns-clause-atoms : goal.returns-clause-atoms
returns-clause-atoms g c =
    first_settled (field_of c.args.pairs.now.pairs) c.args.cell.now.sides c.args.atoms.now c.add_row-row.new.others _ c.add_row-row.result c.sum.result
    c.requires.some c.add_row-row.ensures.others c.add_row-row.ensures.row c.sum.ensures
