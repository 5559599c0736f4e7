use Rattle.std.proofs.Common.{◌≡◌, drop}
use Rattle.meaning.specs.Uses.{kind_of}
use Rattle.meaning.proofs.uses.Uses.kind_of.Given as goal

abbrev pub invariant-loop-entry : goal.invariant-loop-entry
invariant-loop-entry l = kind_of (drop l.entry-index l.entry-items) l.name ≡ kind_of l.entry-items l.name
