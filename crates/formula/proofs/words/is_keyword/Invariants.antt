use Rattle.std.proofs.Common.{◌≡◌, drop}
use Rattle.std.specs.List.{list_any}
use Rattle.std.specs.Str.{bytes_eq}
use Rattle.formula.specs.Words.{words, keywords}
use Rattle.formula.proofs.words.is_keyword.Given as goal

abbrev pub invariant-loop-at : goal.invariant-loop-at
invariant-loop-at l = list_any (λ word. bytes_eq word l.text) (drop l.at words) ≡ list_any (λ word. bytes_eq word l.text) keywords
