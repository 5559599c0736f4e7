use Rattle.std.proofs.Common.{◌∙◌}
use Rattle.data_text.specs.DataText.{angle_row}
use Rattle.data_text.proofs.RowLemmas.{numbered_end, numbered_more}
use Rattle.data_text.proofs.rows.push_angle_rows.Goals as goal

pub loop-place-preserved : goal.loop-place-preserved
loop-place-preserved c =
    numbered_more angle_row c.args.angles.now c.loop-place.place _ c.loop-place.text c.push_angle.new.text c.loop-place-test.true c.in_ok-push_angle.ensures ∙ c.loop-place.invariant

pub returns : goal.returns
returns c = numbered_end angle_row c.args.angles.now c.loop-place.place c.loop-place.text _ c.loop-place-test.false c.loop-place.invariant
