use Rattle.std.proofs.Common.{◌≡◌, ◌++◌, [], drop}
use Rattle.script_lines.specs.Substitution.{blank_words}
use Rattle.script_lines.proofs.substitution.push_words.Given as goal

abbrev pub invariant-loop-byte : goal.invariant-loop-byte
invariant-loop-byte l = l.words ++ blank_words l.word (drop l.byte-index l.text) ≡ l.initial.words ++ blank_words [] l.text
