use Rattle.std.proofs.Common.{◌∙◌, ◌++◌, ◌+◌, ℕ, List, ap, drop, arith}
use Rattle.run_settings.specs.Members.{marked}
use Rattle.run_settings.proofs.MarkLemmas.{marked_more, marked_same}
use Rattle.run_settings.proofs.members.marked.Goals as goal
use Rattle.run_settings.proofs.members.marked.Goals.{then-marks-i+in_ok-push, else-marks-i}

pub loop-i-preserved : goal.loop-i-preserved
loop-i-preserved c =
    let marks = c.args.marks.now in
    let ids = c.args.ids.now in
    let i = c.loop-i.i in
    elim c.if-marks-i.branch [
      | then-marks-i+in_ok-push w ↦ ap (λ (kept : List ℕ). kept ++ marked (drop (i + 1) marks) (drop (i + 1) ids)) (w.kept-is ∙ w.in_ok-push.ensures.appended)
          ∙ marked_more marks ids c.loop-i.kept i (omega arith) c.loop-i-test.true w.if-marks-i.true c.loop-i.invariant
      | else-marks-i w ↦ ap (λ (kept : List ℕ). kept ++ marked (drop (i + 1) marks) (drop (i + 1) ids)) w.kept-is
          ∙ marked_same marks ids c.loop-i.kept i (omega arith) c.loop-i-test.true w.if-marks-i.false c.loop-i.invariant
    ]
