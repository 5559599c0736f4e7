use Rattle.std.proofs.Common.{◌≡◌, drop}
use Rattle.meaning.specs.Uses.{has_begun}
use Rattle.meaning.proofs.uses.Uses.has_begun.Given as goal

abbrev pub invariant-loop-entry : goal.invariant-loop-entry
invariant-loop-entry l = has_begun (drop l.entry-index l.entry-items) l.name ≡ has_begun l.entry-items l.name
