use Rattle.std.proofs.Common.{◌≡◌, ◌≤◌, length}
use Rattle.data_file.specs.Words.{words_of}
use Rattle.data_file.proofs.words.after_blanks.Given as goal

abbrev pub invariant-blanks : goal.invariant-blanks
invariant-blanks l = (words_of l.rest ≡ words_of l.line) × (length l.rest ≤ length l.line)

abbrev pub decreases-blanks : goal.decreases-blanks
decreases-blanks l = length l.rest
