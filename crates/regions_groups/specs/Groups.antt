-- Groups of atoms: their names, each with the ids of its members, in the order in which they were defined.
use Rattle.std.specs.Prelude.{◌+◌, Bool, true, false, cond, codes, ℕ, Option, Some, None, List, [], ◌∷◌}
use Rattle.std.specs.List.{All, list_any}
use Rattle.std.specs.Str.{bytes_eq}
use Rattle.regions_groups.specs.declared.group_table.NamedGroup.{NamedGroup}
use Rattle.box_geo.specs.Ids.{Rises}
use Rattle.regions_groups.specs.Ids.{union_of}

abbrev pub is_named : List ℕ → NamedGroup → Bool
is_named name g = bytes_eq g.name name

abbrev pub is_there : List NamedGroup → List ℕ → Bool
is_there groups name = list_any (is_named name) groups

-- the ids of the group of this name, if there is one
abbrev pub members : List NamedGroup → List ℕ → Option (List ℕ)
members [] name = None
members (g ∷ groups) name = cond (is_named name g) (Some g.ids) (members groups name)

-- the groups with these ids added to the group of this name, in its place, or else as a new group at the end
abbrev pub added_to : Bool → NamedGroup → List NamedGroup → List NamedGroup → List ℕ → List NamedGroup
added_to true g groups others ids = record { name = g.name; ids = union_of g.ids ids } ∷ groups
added_to false g groups others ids = g ∷ others

abbrev pub added : List NamedGroup → List ℕ → List ℕ → List NamedGroup
added [] name ids = record { name = name; ids = ids } ∷ []
added (g ∷ groups) name ids = added_to (is_named name g) g groups (added groups name ids) ids

-- the group `all` without ids
abbrev pub all_alone : List NamedGroup
all_alone = record { name = codes "all"; ids = [] } ∷ []

-- the ids of each group rise
abbrev pub AllRise : List NamedGroup → Type 0
AllRise groups = All (λ g. Rises g.ids) groups

-- where the first group of a name stands, from a place on
abbrev pub place_from : ℕ → List NamedGroup → List ℕ → Option ℕ
place_from i [] name = None
place_from i (g ∷ groups) name = cond (is_named name g) (Some i) (place_from (i + 1) groups name)
