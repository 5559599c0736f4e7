use Rattle.std.proofs.Common.{◌≡◌, drop}
use Rattle.meaning.specs.Conditions.{has_operator}
use Rattle.session.proofs.conditions.has_operator.Given as goal

abbrev pub invariant-loop-byte : goal.invariant-loop-byte
invariant-loop-byte l = has_operator (drop l.byte-index l.fn.word) ≡ has_operator l.fn.word
