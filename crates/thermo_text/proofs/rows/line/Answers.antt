use Rattle.std.proofs.Common.{arith}
use Rattle.std.proofs.lemmas.Grind.{common_steps}
use Rattle.thermo_text.specs.Thermo.{line_text, number_cell}
use Rattle.thermo_text.proofs.RowLemmas.{cells_more}
use Rattle.thermo_text.proofs.rows.line.Goals as goal

pub loop-place-preserved : goal.loop-place-preserved
loop-place-preserved c =
    let more = cells_more (number_cell c.args.numbers.now) c.as_slice-keyword-items.result.now c.loop-place.place c.keyword-item.result c.loop-place-test.true in
    grind (arith, common_steps)

pub returns : goal.returns
unfolding line_text
returns c = grind (arith, common_steps)
