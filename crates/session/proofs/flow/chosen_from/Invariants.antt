use Rattle.std.proofs.Common.{◌≡◌, drop}
use Rattle.meaning.specs.Flow.{chosen_from}
use Rattle.session.proofs.flow.chosen_from.Given as goal

abbrev pub invariant-loop-branch : goal.invariant-loop-branch
invariant-loop-branch l = chosen_from l.settings (drop l.branch-index l.branches) l.otherwise ≡ chosen_from l.settings l.branches l.otherwise
