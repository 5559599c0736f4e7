use Rattle.std.proofs.lemmas.List.{get_or_default}
use Rattle.std.proofs.lemmas.List.Elements.{All-set}
use Rattle.serial_step.specs.Forces.{field_of}
use Rattle.pair_forces.specs.Adds.{FitWords}
use Rattle.pair_forces.proofs.AddLemmas.{own_added, row_sums}
use Rattle.pair_forces.proofs.rows.add_row.Goals as goal

pub returns-clause-sums : goal.returns-clause-sums
returns-clause-sums g c = λ d.
    row_sums (field_of c.args.pairs.now.pairs) c.args.cell.now.sides c.args.atoms.now _ d c.args.place c.args.others.now c.add_others-row.result
    (get_or_default c.args.atoms.now c.args.place _ d c.requires.place) (c.add_others-row.ensures.row d)

pub returns-clause-forces : goal.returns-clause-forces
returns-clause-forces g c =
    own_added (field_of c.args.pairs.now.pairs) c.args.cell.now.sides c.args.atoms.now _ c.args.place c.args.others.now c.args.forces.now c.add_others-row.new.forces _ c.plus-force.result c.add_others-row.result
    c.requires.place c.requires.each (λ d. get_or_default c.args.atoms.now c.args.place _ d c.requires.place)
    c.add_others-row.ensures.forces c.add_others-row.ensures.row c.plus-force.ensures.is

pub returns-clause-words : goal.returns-clause-words
returns-clause-words g c = All-set FitWords c.add_others-row.new.forces c.args.place c.plus-force.result c.plus-force.ensures.fits c.add_others-row.ensures.words
