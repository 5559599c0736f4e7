-- What the tables of links and of weights hold. Atoms are their ids.
use Rattle.std.specs.Prelude.{◌≡◌, ◌^◌, ◌==◌, ◌&&◌, ◌||◌, Bool, cond, ℕ, zero, suc, Option, Some, None, IfSome, List, [], ◌∷◌, unwrap_or, slice_index}
use Rattle.std.specs.BTreeMap.{BTreeMap, get}
use Rattle.std.specs.List.{flat_map, list_any}
use Rattle.std.specs.Ordering.{nat_cmp}
use Rattle.box_geo.specs.declared.atoms.Bond.{Bond}
use Rattle.bonded.specs.Paths.{special_weight}
use Rattle.bonded.specs.declared.specials.Specials.{Specials}

-- whether an id is in a list
abbrev pub has : ℕ → List ℕ → Bool
has id ids = list_any (λ (other : ℕ). other == id) ids

-- whether a bond joins two atoms, in either order
abbrev pub joins : Bond → ℕ → ℕ → Bool
joins bond a b = ((bond.a == a) && (bond.b == b)) || ((bond.b == a) && (bond.a == b))

-- whether an atom is an end of a bond
abbrev pub is_end : ℕ → Bond → Bool
is_end id bond = (bond.a == id) || (bond.b == id)

-- the atoms that a bond joins to an atom, each as often as there are such bonds
abbrev pub neighbours : BTreeMap ℕ (List ℕ) → ℕ → List ℕ
neighbours links id = unwrap_or (get nat_cmp links id) []

-- the links of some bonds: b is a neighbour of a exactly where one of them joins the two
abbrev pub AreLinks : List Bond → BTreeMap ℕ (List ℕ) → Type 0
AreLinks bonds links = (a b : ℕ) → has b (neighbours links a) ≡ list_any (λ (bond : Bond). joins bond a b) bonds

-- where so many bonds lead from an atom
abbrev pub level : BTreeMap ℕ (List ℕ) → ℕ → ℕ → List ℕ
level links zero id = id ∷ []
level links (suc n) id = flat_map (neighbours links) (level links n id)

-- the weight that the row of an atom has for another, where at most three bonds lead there
abbrev pub entry : BTreeMap ℕ (List ℕ) → List ℕ → ℕ → ℕ → Option ℕ
entry links weights id other =
    cond (has other (level links 0 id)) (Some (2 ^ 24))
    (cond (has other (level links 1 id)) (Some (slice_index weights 0))
    (cond (has other (level links 2 id)) (Some (slice_index weights 1))
    (cond (has other (level links 3 id)) (Some (slice_index weights 2)) None)))

abbrev pub IsRow : BTreeMap ℕ (List ℕ) → List ℕ → ℕ → BTreeMap ℕ ℕ → Type 0
IsRow links weights id row = (other : ℕ) → get nat_cmp row other ≡ entry links weights id other

abbrev pub AreRows : BTreeMap ℕ (List ℕ) → List ℕ → BTreeMap ℕ (BTreeMap ℕ ℕ) → Type 0
AreRows links weights rows = (id : ℕ) → IfSome (get nat_cmp rows id) (IsRow links weights id)

-- the weight of two atoms by the row of the second: 2^24 where it has none for the first, or there is no row
abbrev pub weight_by : Option (BTreeMap ℕ ℕ) → ℕ → ℕ
weight_by None a = 2 ^ 24
weight_by (Some row) a = unwrap_or (get nat_cmp row a) (2 ^ 24)

abbrev pub weight_in : BTreeMap ℕ (BTreeMap ℕ ℕ) → ℕ → ℕ → ℕ
weight_in rows a b = weight_by (get nat_cmp rows b) a

-- the special weight that a table has for two atoms
abbrev pub weight_of : Specials → ℕ → ℕ → ℕ
weight_of s a b = weight_in s.rows a b

-- a table has the special weights of these bonds
abbrev pub HasWeights : List Bond → List ℕ → Specials → Type 0
HasWeights bonds weights s = (a b : ℕ) → weight_of s a b ≡ special_weight bonds weights a b
