use Rattle.std.proofs.Common.{◌≡◌, drop}
use Rattle.script_lines.specs.Substitution.{before_words, substitution}
use Rattle.script_lines.proofs.substitution.words_of.Given as goal

abbrev pub invariant-loop-word : goal.invariant-loop-word
invariant-loop-word g l =
    before_words l.words (substitution (g.T.Texts.table l.texts) (drop l.word-index l.word-items)) ≡ substitution (g.T.Texts.table l.texts) l.word-items
