use Rattle.std.proofs.Common.{◌≡◌, ◌≤◌, [], drop}
use Rattle.script_lines.specs.declared.modes.Mode.TheVariants as mode
use Rattle.script_lines.specs.Modes.{closings, depth_of}
use Rattle.script_lines.specs.Words.{with_words, words_from}
use Rattle.script_lines.proofs.words.line_words.Given as goal

-- the words so far, and then those of the rest, are those of the line
abbrev pub invariant-loop-byte : goal.invariant-loop-byte
invariant-loop-byte l =
    (with_words l.cut.words (words_from l.number l.cut.mode l.cut.word (drop l.byte-index l.line)) ≡ words_from l.number mode.Between [] l.line)
    × (l.closings ≡ closings (drop l.byte-index l.line))
    × (depth_of l.cut.mode ≤ l.byte-index)
