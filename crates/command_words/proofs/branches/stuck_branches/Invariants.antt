use Rattle.std.proofs.Common.{◌≡◌, length}
use Rattle.command_words.specs.Branches.{stuck_branches, stuck_from}
use Rattle.command_words.proofs.branches.stuck_branches.Given as goal

abbrev pub invariant-words : goal.invariant-words
invariant-words l = stuck_from l.rest l.part ≡ stuck_branches l.fn.words

abbrev pub decreases-words : goal.decreases-words
decreases-words l = length l.rest
