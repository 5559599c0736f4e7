-- The masses of atom types, and groups of atoms.
use Rattle.std.specs.Prelude.{◌+◌, ◌-◌, ◌%◌, ◌==◌, ◌&&◌, ◌||◌, Bool, false, cond, codes, int_lt, nat_le, nat_lt, not, pos, ℕ, ℤ, Option, Some, None, unwrap_or, Result, Ok, Err, List, [], ◌∷◌, length, map}
use Rattle.std.specs.List.{filter, list_all, list_any}
use Rattle.std.specs.Str.{bytes_eq}
use Rattle.box_geo.specs.declared.atoms.Atom.{Atom}
use Rattle.box_geo.specs.declared.limits.TheConstants.{MAX_GROUPS}
use Rattle.box_geo.specs.Ids.{is_among}
use Rattle.command_words.specs.declared.masses_groups.GroupChange.{GroupChange}
use Rattle.command_words.specs.declared.masses_groups.MassSetting.{MassSetting}
use Rattle.command_words.specs.declared.masses_groups.Members.{Members}
use Rattle.command_words.specs.declared.masses_groups.Members.TheVariants as members
use Rattle.command_words.specs.declared.ranges.IdRange.{IdRange}
use Rattle.command_words.specs.declared.ranges.KindRange.{KindRange}
use Rattle.meaning.specs.declared.code.Code.{Code}
use Rattle.meaning.specs.declared.code.Code.TheVariants.{BadValue, NoBox, TooMany, UnknownName}
use Rattle.meaning.specs.declared.named.Named.{Named}
use Rattle.meaning.specs.declared.settings.Body.{Body}
use Rattle.meaning.specs.declared.settings.Settings.{Settings}
use Rattle.meaning.specs.Answers.{in_body}
use Rattle.regions_groups.specs.declared.group_table.NamedGroup.{NamedGroup}
use Rattle.regions_groups.specs.Groups.{added, is_there, members as members_of}
use Rattle.regions_groups.specs.Regions.{holds, is_there as is_region}

-- the last type of a range, in a box of so many types
abbrev pub last_of : Option ℕ → ℕ → ℕ
last_of None kinds = kinds
last_of (Some last) kinds = last

-- a number of the range is above the number of types
abbrev pub is_beyond : KindRange → ℕ → Bool
is_beyond r kinds = nat_lt kinds r.first || nat_lt kinds (last_of r.last kinds)

abbrev pub has_kind : KindRange → ℕ → ℕ → Bool
has_kind r kinds kind = nat_le r.first kind && nat_le kind (last_of r.last kinds)

-- the masses from a type on, those of the range set
abbrev pub mass_for : MassSetting → ℕ → ℕ → ℤ → ℤ
mass_for m kinds kind old = cond (has_kind m.kinds kinds kind) m.mass old

abbrev pub masses_from : MassSetting → ℕ → ℕ → List ℤ → List ℤ
masses_from m kinds kind [] = []
masses_from m kinds kind (old ∷ masses) = mass_for m kinds kind old ∷ masses_from m kinds (kind + 1) masses

abbrev pub mass_of_body : MassSetting → Body → Result Body Code
mass_of_body m b = cond (is_beyond m.kinds (length b.mass)) (Err BadValue) (Ok (record b { mass = masses_from m (length b.mass) 1 b.mass }))

abbrev pub mass : MassSetting → Settings → Result Settings Code
mass m s = in_body (mass_of_body m) s s.body

-- each type has a mass
abbrev pub are_massive : List ℤ → Bool
are_massive masses = list_all (λ m. int_lt (pos 0) m) masses

-- the ids of atoms
abbrev pub ids_of : List Atom → List ℕ
ids_of atoms = map (λ a. a.id) atoms

-- `all` has every atom
abbrev pub is_all : List ℕ → Bool
is_all name = bytes_eq name (codes "all")

-- the ids that a group was given, none where it isn't there
abbrev pub ids_under : List NamedGroup → List ℕ → List ℕ
ids_under groups name = unwrap_or (members_of groups name) []

-- the ids of a group over atoms
abbrev pub ids_in : List NamedGroup → List Atom → List ℕ → List ℕ
ids_in groups atoms name = cond (is_all name) (ids_of atoms) (ids_under groups name)

-- whether a group has an atom
abbrev pub has_atom : List NamedGroup → Atom → List ℕ → Bool
has_atom groups a name = is_all name || is_among (ids_under groups name) a.id

-- whether a range has an id
abbrev pub has_id : IdRange → ℕ → Bool
has_id r id = nat_le r.first id && nat_le id r.last && ((id - r.first) % r.stride == 0)

-- whether the first of some groups has an atom and none of the others does
abbrev pub is_left : List NamedGroup → Atom → List (List ℕ) → Bool
is_left groups a [] = false
is_left groups a (name ∷ names) = has_atom groups a name && not (list_any (has_atom groups a) names)

-- whether `group` adds an atom, in a box of so many types. Those of a variable's values are chosen elsewhere.
abbrev pub is_chosen : Named → ℕ → Members → Atom → Bool
is_chosen n kinds (members.Region name) a = holds n.regions name a.x
is_chosen n kinds (members.Kinds ranges) a = list_any (λ r. has_kind r kinds a.kind) ranges
is_chosen n kinds (members.Ids ranges) a = list_any (λ r. has_id r a.id) ranges
is_chosen n kinds (members.Union names) a = list_any (has_atom n.groups a) names
is_chosen n kinds (members.Subtract names) a = is_left n.groups a names
is_chosen n kinds (members.Intersect names) a = list_all (has_atom n.groups a) names
is_chosen n kinds (members.Variable name) a = false

-- the ids of the atoms that it adds
abbrev pub chosen : Named → Members → Body → List ℕ
chosen n m b = ids_of (filter (is_chosen n (length b.mass) m) b.atoms)

-- a type above the number of types, where there is a box
abbrev pub has_beyond : Members → Option Body → Bool
has_beyond (members.Kinds ranges) (Some b) = list_any (λ r. is_beyond r (length b.mass)) ranges
has_beyond m b = false

-- a region or a group that isn't there
abbrev pub has_unknown : Named → Members → Bool
has_unknown n (members.Region name) = not (is_region n.regions name)
has_unknown n (members.Kinds ranges) = false
has_unknown n (members.Ids ranges) = false
has_unknown n (members.Union names) = not (list_all (is_there n.groups) names)
has_unknown n (members.Subtract names) = not (list_all (is_there n.groups) names)
has_unknown n (members.Intersect names) = not (list_all (is_there n.groups) names)
has_unknown n (members.Variable name) = false

-- the groups with ids added to one, which is made where it isn't there; `all` stays as it is
abbrev pub groups_with : List NamedGroup → List ℕ → List ℕ → Result (List NamedGroup) Code
groups_with groups name ids =
    cond (is_all name) (Ok groups)
    (cond (not (is_there groups name) && nat_le MAX_GROUPS (length groups)) (Err TooMany) (Ok (added groups name ids)))

abbrev pub with_groups : Settings → Result (List NamedGroup) Code → Result Settings Code
with_groups s (Ok groups) = Ok (record s { named = record s.named { groups = groups } })
with_groups s (Err why) = Err why

abbrev pub grouped : GroupChange → Settings → Option Body → Result Settings Code
grouped g s None = Err NoBox
grouped g s (Some b) = with_groups s (groups_with s.named.groups g.id (chosen s.named g.members b))

abbrev pub group : GroupChange → Settings → Result Settings Code
group g s =
    cond (has_beyond g.members s.body) (Err BadValue)
    (cond (has_unknown s.named g.members) (Err UnknownName) (grouped g s s.body))
