-- The atoms that `group` adds, chosen by tests on them or on their ids.
use Rattle.std.specs.Prelude.{◌≡◌, ◌<◌, ◌&&◌, ◌||◌, Bool, false, cond, not, ℕ, List, [], ◌∷◌, length, slice_index, slice_index_or}
use Rattle.std.specs.List.{filter, list_any}
use Rattle.box_geo.specs.declared.atoms.Atom.{Atom}
use Rattle.box_geo.specs.Ids.{is_among}
use Rattle.meaning.specs.MassesGroups.{ids_of, ids_under, is_all}
use Rattle.regions_groups.specs.declared.group_table.NamedGroup.{NamedGroup}

-- the ids of the atoms that pass a test
abbrev pub ids_where : (Atom → Bool) → List Atom → List ℕ
ids_where test atoms = ids_of (filter test atoms)

-- whether a group has an id of an atom
abbrev pub has_member : List NamedGroup → ℕ → List ℕ → Bool
has_member groups id name = is_all name || is_among (ids_under groups name) id

-- whether the first of some groups has an id and none of the others does
abbrev pub is_left_member : List NamedGroup → ℕ → List (List ℕ) → Bool
is_left_member groups id [] = false
is_left_member groups id (name ∷ names) = has_member groups id name && not (list_any (has_member groups id) names)

-- the ids whose places are marked
abbrev pub marked : List Bool → List ℕ → List ℕ
marked [] ids = []
marked (mark ∷ marks) [] = []
marked (mark ∷ marks) (id ∷ ids) = cond mark (id ∷ marked marks ids) (marked marks ids)

-- the places of the ids that pass a test are marked too
abbrev pub AddsMarks : (ℕ → Bool) → List ℕ → List Bool → List Bool → Type 0
AddsMarks test ids old new = (k : ℕ) → k < length ids →
    slice_index_or new k false ≡ (slice_index_or old k false || test (slice_index ids k))
