-- The fixes of a run, in order of definition: their names, and the atoms that they move.
use Rattle.std.specs.Prelude.{◌+◌, ◌==◌, ◌<◌, length, slice_index, Bool, cond, not, ℕ, List, [], ◌∷◌}
use Rattle.std.specs.List.{All, filter, list_any}
use Rattle.std.specs.Str.{bytes_eq}
use Rattle.box_geo.specs.Ids.{Rises}
use Rattle.fix_list.specs.declared.fixes.Fix.{Fix}
use Rattle.fix_list.specs.declared.fixes.Fix.TheVariants.{Nve}
use Rattle.fix_list.specs.declared.fixes.NamedFix.{NamedFix}

-- the ids of the atoms that a fix moves
abbrev pub ids_of : Fix → List ℕ
ids_of (Nve ids) = ids

-- the ids of each fix of the list stand in strictly rising order
abbrev pub AllRise : List NamedFix → Type 0
AllRise fixes = All (λ named. Rises (ids_of named.fix)) fixes

-- whether a fix moves the atom of an id
abbrev pub fix_moves : Fix → ℕ → Bool
fix_moves fix id = list_any (λ x. x == id) (ids_of fix)

-- whether some fix of the list does
abbrev pub moves : List NamedFix → ℕ → Bool
moves fixes id = list_any (λ named. fix_moves named.fix id) fixes

-- how many fixes of the list do
abbrev pub movers : List NamedFix → ℕ → ℕ
movers [] id = 0
movers (named ∷ fixes) id = cond (fix_moves named.fix id) 1 0 + movers fixes id

-- whether a fix has a name
abbrev pub has_name : List NamedFix → List ℕ → Bool
has_name fixes name = list_any (λ named. bytes_eq named.name name) fixes

-- the fixes of other names, in order
abbrev pub without : List NamedFix → List ℕ → List NamedFix
without fixes name = filter (λ named. not (bytes_eq named.name name)) fixes
