use Rattle.std.proofs.Common.{◌≡◌, ◌++◌, [], drop}
use Rattle.script_lines.specs.Substitution.{blank_words}
use Rattle.session.proofs.conditions.blank_words.Given as goal

abbrev pub invariant-loop-byte : goal.invariant-loop-byte
invariant-loop-byte l = l.words ++ blank_words l.word (drop l.byte-index l.text) ≡ blank_words [] l.text
