-- Reference positions, builds and neighbour pairs (after Plimpton).
use Rattle.std.specs.Prelude.{◌*◌, Bool, nat_lt, ℕ, ℤ, List, map, count_by}
use Rattle.std.specs.List.{list_any, zip}
use Rattle.box_geo.specs.declared.atoms.Atom.{Atom}
use Rattle.box_geo.specs.declared.sim_box.Sides.{Sides}
use Rattle.box_geo.specs.Sides.{near_image, length2}
use Rattle.sums.specs.Totals.{half}

-- the positions of the atoms, in order
abbrev pub positions : List Atom → List (List ℤ)
positions atoms = map (λ a. a.x) atoms

-- an atom has moved more than half the skin from its reference
abbrev pub is_far : Sides → ℕ → List ℤ × List ℤ → Bool
is_far s skin moved = nat_lt (skin * skin) (4 * length2 (near_image s moved.0 moved.1))

-- a step renews the references exactly where some atom is far from its own
unfoldable pub renews : Sides → ℕ → List (List ℤ) → List (List ℤ) → Bool
renews s skin now references = list_any (is_far s skin) (zip now references)

-- the number of unordered pairs nearer than the sum of the greatest cutoff and the skin at the references
unfoldable pub neighbour_pairs : Sides → ℕ → List (List ℤ) → ℕ
neighbour_pairs s reach references =
    count_by (λ p. nat_lt (length2 (near_image s p.0 p.1)) (reach * reach)) (half references)
