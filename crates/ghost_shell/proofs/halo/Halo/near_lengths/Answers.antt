use Rattle.std.proofs.Common.{◌∙◌, ap, sym, ℤ, pos, Vec, Global}
use Rattle.ghost_shell.specs.Halos.{may_meet_on}
use Rattle.ghost_shell.proofs.SignLemmas.{read_short}
use Rattle.ghost_shell.proofs.WalkLemmas.{kept_more, left_more}
use Rattle.ghost_shell.proofs.halo.Halo.near_lengths.Goals as goal
use Rattle.ghost_shell.proofs.halo.Halo.near_lengths.Goals.{then-may_meet+in_ok-push, else-may_meet}

pub loop-length-preserved : goal.loop-length-preserved
loop-length-preserved c =
    let test = may_meet_on c.args.self.now c.args.low.now c.args.high.now c.args.axis in
    elim c.if-may_meet.branch [
      | then-may_meet+in_ok-push w ↦
          kept_more test c.args.lengths.now c.loop-length.length-index (pos 0) _ c.loop-length.near.items c.if-may_meet.near.items _ c.loop-length-test.true
          (sym c.may_meet.ensures ∙ w.if-may_meet.true) (ap (λ (v : Vec ℤ Global). v.items) w.near-is ∙ w.in_ok-push.ensures.items)
          (read_short _ (c.requires.short c.loop-length.length-index (pos 0) c.loop-length-test.true)) c.loop-length.invariant
      | else-may_meet w ↦
          left_more test c.args.lengths.now c.loop-length.length-index (pos 0) c.loop-length.near.items c.if-may_meet.near.items _ c.loop-length-test.true
          (sym c.may_meet.ensures ∙ w.if-may_meet.false) (ap (λ (v : Vec ℤ Global). v.items) w.near-is) c.loop-length.invariant
    ]
