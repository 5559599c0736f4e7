use Rattle.std.proofs.Common.{◌∙◌}
use Rattle.data_text.specs.DataText.{velocity_row}
use Rattle.data_text.proofs.RowLemmas.{rows_end, rows_more}
use Rattle.data_text.proofs.rows.push_velocity_rows.Goals as goal

pub loop-atom-preserved : goal.loop-atom-preserved
loop-atom-preserved c =
    rows_more velocity_row c.args.atoms.now c.loop-atom.atom-index _ c.loop-atom.text c.push_velocity.new.text c.loop-atom-test.true c.in_ok-push_velocity.ensures ∙ c.loop-atom.invariant

pub returns : goal.returns
returns c = rows_end velocity_row c.args.atoms.now c.loop-atom.atom-index c.loop-atom.text _ c.loop-atom-test.false c.loop-atom.invariant
