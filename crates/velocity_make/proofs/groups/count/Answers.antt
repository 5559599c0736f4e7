use Rattle.std.proofs.Common.{◌+◌, length, take, ap, sym, ◌∙◌, ℕ, arith}
use Rattle.std.proofs.lemmas.List.Filters.{length-filter_more}
use Rattle.velocity_make.specs.Group.{is_member, members}
use Rattle.velocity_make.proofs.groups.count.Goals as goal

pub loop-atom-preserved : goal.loop-atom-preserved
loop-atom-preserved c = (
  ap (λ (n : ℕ). n + c.one_of-count.result) c.loop-atom.invariant.0
      ∙ ap (λ (n : ℕ). length (members c.args.ids.now (take c.loop-atom.atom-index c.args.atoms.now)) + n) c.one_of-count.ensures.is
      ∙ sym (length-filter_more (is_member c.args.ids.now) c.args.atoms.now c.loop-atom.atom-index _ c.loop-atom-test.true),
  omega (arith, c.loop-atom.invariant.1, c.one_of-count.ensures.few),
)
