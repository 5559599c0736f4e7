use Rattle.std.proofs.Common.{◌≡◌, length}
use Rattle.data_file.specs.Words.{word, words_of}
use Rattle.data_file.proofs.words.word_at.Given as goal

abbrev pub invariant-words : goal.invariant-words
invariant-words l = word l.left (words_of l.rest) ≡ word l.place (words_of l.line)

abbrev pub decreases-words : goal.decreases-words
decreases-words l = length l.rest
