-- Tables of what was read, by ids or types, in rising order of them.
use Rattle.std.specs.Prelude.{Bool, ℕ, zero, suc, ℤ, pos, Option, List, [], ◌∷◌, ◌++◌, unwrap_or}
use Rattle.std.specs.BTreeMap.{insert_entry, is_at}
use Rattle.std.specs.BTreeSet.{insert_key}
use Rattle.std.specs.List.{list_any}
use Rattle.std.specs.Map.{lookup}
use Rattle.std.specs.Ordering.{nat_cmp}
use Rattle.box_geo.specs.declared.atoms.Atom.{Atom}

-- whether a key is among those that were met
abbrev pub is_met : ℕ → List ℕ → Bool
is_met key keys = list_any (is_at (nat_cmp key)) keys

-- a key more
abbrev pub add : List ℕ → ℕ → List ℕ
add keys key = insert_key nat_cmp keys key

-- what stands under an id
abbrev pub under : {A : Type 0} → ℕ → List (ℕ × A) → Option A
under id entries = lookup (is_at (nat_cmp id)) entries

-- a value under an id
abbrev pub put : {A : Type 0} → List (ℕ × A) → ℕ → A → List (ℕ × A)
put entries id value = insert_entry nat_cmp entries id value

abbrev pub zeros : List ℤ
zeros = pos 0 ∷ pos 0 ∷ pos 0 ∷ []

-- an atom with the velocity under its id, 0 without one
abbrev pub with_velocity : List (ℕ × List ℤ) → ℕ × Atom → Atom
with_velocity velocities e = record e.1 { v = unwrap_or (under e.0 velocities) zeros }

-- the masses of so many types from 1 on, 0 where there is none
abbrev pub masses_of : ℕ → List (ℕ × ℤ) → List ℤ
masses_of zero masses = []
masses_of (suc n) masses = masses_of n masses ++ unwrap_or (under (suc n) masses) (pos 0) ∷ []
