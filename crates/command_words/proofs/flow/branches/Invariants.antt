use Rattle.std.proofs.Common.{◌≡◌, ◌++◌, Some, [], length}
use Rattle.command_words.specs.Flow.{branches_behind, branches_from}
use Rattle.command_words.proofs.flow.branches.Given as goal

-- the branches so far, with those of the rest, are all of them
abbrev pub invariant-parts : goal.invariant-parts
invariant-parts l = l.branches ++ branches_behind l.rest ≡ branches_from (Some l.fn.condition) [] l.fn.words

abbrev pub decreases-parts : goal.decreases-parts
decreases-parts l = length l.rest
