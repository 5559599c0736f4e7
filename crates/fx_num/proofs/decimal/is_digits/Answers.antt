use Rattle.std.proofs.Common.{◌≡◌, Bool, true, false, nat_eq, length, List, ℕ, refl, ◌∙◌, sym}
use Rattle.std.proofs.lemmas.Bool.{eqb-true}
use Rattle.std.specs.Bool.{OnTrue, IsTrue}
use Rattle.std.specs.Char.{is_ascii_digit}
use Rattle.std.specs.List.{prefix_len, list_all}
use Rattle.fx_num.proofs.DecimalLemmas.{list_all-from_prefix_len}
use Rattle.fx_num.proofs.decimal.is_digits.Goals as goal

whole : (text : List ℕ) (count : ℕ) (b : Bool) → nat_eq count (length text) ≡ b → count ≡ prefix_len is_ascii_digit text → OnTrue b (IsTrue (list_all is_ascii_digit text))
whole text count true all counts = list_all-from_prefix_len is_ascii_digit text (sym counts ∙ eqb-true count (length text) all)
whole text count false all counts = tt

pub returns-clause-all : goal.returns-clause-all
returns-clause-all c = whole c.args.text.now c.count_digits.result _ refl c.count_digits.ensures.is
