use Rattle.std.proofs.Common.{◌≡◌, nat_eq, drop}
use Rattle.std.specs.List.{list_any, starts_with}
use Rattle.formula.specs.Words.{words}
use Rattle.formula.proofs.words.begins_word.Given as goal

abbrev pub invariant-loop-at : goal.invariant-loop-at
invariant-loop-at l = list_any (λ word. starts_with nat_eq word l.text) (drop l.at words) ≡ list_any (λ word. starts_with nat_eq word l.text) words
