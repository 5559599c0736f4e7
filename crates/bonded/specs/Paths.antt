-- Paths of bonds, and the special weight of two atoms by the shortest of them (the manual's special_bonds lj).
--
-- Atoms are their ids. The weight is in units of 2^-24: the first, second or third of three weights where a shortest
-- path has one, two or three bonds, and 2^24 where it has none (an atom and itself), more, or where there is no path.
use Rattle.std.specs.Prelude.{◌≡◌, ◌^◌, ◌≤◌, ◌⊎◌, ◌==◌, ◌&&◌, ◌||◌, Bool, cond, ℕ, zero, suc, List, [], ◌∷◌, length, slice_index}
use Rattle.std.specs.List.{list_any, Contains}
use Rattle.box_geo.specs.declared.atoms.Bond.{Bond}

-- a bond joins two atoms, in either order
abbrev pub Joins : Bond → ℕ → ℕ → Type 0
Joins bond a b = ((bond.a ≡ a) × (bond.b ≡ b)) ⊎ ((bond.b ≡ a) × (bond.a ≡ b))

-- a path from a to b among these bonds: a list of bonds, each from where the one before led
abbrev pub IsPath : List Bond → List Bond → ℕ → ℕ → Type 0
IsPath bonds [] a b = a ≡ b
IsPath bonds (bond ∷ path) a b = (c : ℕ) × Contains bonds bond × Joins bond a c × IsPath bonds path c b

-- no path between the same atoms has fewer bonds
pub record IsShortest (bonds path : List Bond) (a b : ℕ) : Type 0 where
  pub is_path : IsPath bonds path a b
  pub shortest : (other : List Bond) → IsPath bonds other a b → length path ≤ length other

-- the weight where a shortest path has so many bonds
abbrev pub weight_of_length : List ℕ → ℕ → ℕ
weight_of_length weights n =
    cond (n == 1) (slice_index weights 0) (cond (n == 2) (slice_index weights 1) (cond (n == 3) (slice_index weights 2) (2 ^ 24)))

-- three weights from 0 to 2^24
abbrev pub AreUnits : List ℕ → Type 0
AreUnits weights = (slice_index weights 0 ≤ 2 ^ 24) × (slice_index weights 1 ≤ 2 ^ 24) × (slice_index weights 2 ≤ 2 ^ 24)

-- whether a path of so many bonds leads from a to b: of none to a itself; of one more, a bond at a leads to where such a path begins
abbrev pub has_path : List Bond → ℕ → ℕ → ℕ → Bool
has_path bonds zero a b = a == b
has_path bonds (suc n) a b =
    list_any (λ (bond : Bond). ((bond.a == a) && has_path bonds n bond.b b) || ((bond.b == a) && has_path bonds n bond.a b)) bonds

-- the special weight
unfoldable pub special_weight : List Bond → List ℕ → ℕ → ℕ → ℕ
special_weight bonds weights a b =
    cond (has_path bonds 0 a b) (2 ^ 24)
    (cond (has_path bonds 1 a b) (slice_index weights 0)
    (cond (has_path bonds 2 a b) (slice_index weights 1)
    (cond (has_path bonds 3 a b) (slice_index weights 2) (2 ^ 24))))
