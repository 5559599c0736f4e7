use Rattle.std.proofs.Common.{◌∙◌, ap, filter}
use Rattle.ghost_shell.specs.Halos.{may_meet_on}
use Rattle.ghost_shell.proofs.WalkLemmas.{short_kept}
use Rattle.ghost_shell.proofs.lengths.Lengths.near.Goals as goal

pub invariant_of-result : goal.invariant_of-result
invariant_of-result c =
    let test = may_meet_on c.args.halo.now c.args.low.now c.args.high.now in
    let all = c.args.self.now in
    record {
      x_short = short_kept (test 0) all.x.items c.in_ok-x.x.items all.x_short (c.in_ok-x.ensures ∙ ap (filter (test 0)) c.deref.ensures.value);
      y_short = short_kept (test 1) all.y.items c.in_ok-y.y.items all.y_short (c.in_ok-y.ensures ∙ ap (filter (test 1)) c.deref-2.ensures.value);
      z_short = short_kept (test 2) all.z.items c.in_ok-z.z.items all.z_short (c.in_ok-z.ensures ∙ ap (filter (test 2)) c.deref-3.ensures.value);
    }
