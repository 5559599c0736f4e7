-- The least id that two fixes move, among ids that are gone through one by one.
use Rattle.std.specs.Prelude.{cond, nat_le, min, ℕ, Option, Some, List, [], ◌∷◌}
use Rattle.std.specs.Option.{unwrap_or}
use Rattle.fix_list.specs.declared.fixes.NamedFix.{NamedFix}
use Rattle.fix_list.specs.Fixes.{ids_of, movers}

-- the lesser of an id and the least so far, if two fixes move the id
abbrev pub lesser_twice : List NamedFix → Option ℕ → ℕ → Option ℕ
lesser_twice fixes least id = cond (nat_le 2 (movers fixes id)) (Some (min (unwrap_or least id) id)) least

-- the least after all ids of a list
abbrev pub least_among : List NamedFix → List ℕ → Option ℕ → Option ℕ
least_among fixes [] least = least
least_among fixes (id ∷ ids) least = least_among fixes ids (lesser_twice fixes least id)

-- the least after all ids of some of the fixes
abbrev pub least_over : List NamedFix → List NamedFix → Option ℕ → Option ℕ
least_over fixes [] least = least
least_over fixes (named ∷ rest) least = least_over fixes rest (least_among fixes (ids_of named.fix) least)
