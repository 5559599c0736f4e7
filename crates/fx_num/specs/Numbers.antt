-- Numbers by keyword.
use Rattle.std.specs.Prelude.{cond, ℕ, ℤ, Option, Some, None, List, [], ◌∷◌}
use Rattle.std.specs.Str.{bytes_eq}
use Rattle.fx_num.specs.declared.numbers.Number.{Number}

-- the first number under a keyword
abbrev pub value_under : List Number → List ℕ → Option ℤ
value_under [] keyword = None
value_under (n ∷ numbers) keyword = cond (bytes_eq n.keyword keyword) (Some n.value) (value_under numbers keyword)
