use Rattle.std.proofs.Common.{arith}
use Rattle.std.proofs.lemmas.Grind.{common_steps}
use Rattle.dump_text.specs.declared.columns.Column.TheVariants.{Id}
use Rattle.dump_text.specs.Frame.{cell_text, row_text}
use Rattle.dump_text.proofs.RowLemmas.{words_more}
use Rattle.dump_text.proofs.rows.push_cells.Goals as goal

pub loop-place-preserved : goal.loop-place-preserved
loop-place-preserved c =
    let more = words_more (cell_text c.args.cell.now.sides c.args.masses.now c.args.atom.now) c.args.columns.now c.loop-place.place Id c.loop-place-test.true in
    grind (arith, common_steps)

pub returns : goal.returns
unfolding row_text
returns c = grind (arith, common_steps)
