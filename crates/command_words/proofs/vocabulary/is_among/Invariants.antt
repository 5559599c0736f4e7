use Rattle.std.proofs.Common.{◌≡◌, drop}
use Rattle.std.specs.List.{list_any}
use Rattle.std.specs.Str.{bytes_eq}
use Rattle.command_words.specs.Vocabulary.{text_of}
use Rattle.command_words.proofs.vocabulary.is_among.Given as goal

abbrev pub invariant-loop-word : goal.invariant-loop-word
invariant-loop-word l =
    list_any (λ w. bytes_eq (text_of w) l.text) (drop l.word-index l.word-items) ≡ list_any (λ w. bytes_eq (text_of w) l.text) l.word-items
