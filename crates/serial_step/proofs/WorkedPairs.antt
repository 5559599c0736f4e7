-- Worked pairs, by hand: two atoms at distance 1, where the force is 24 along the line between them, and a third beyond the cutoff.
use Rattle.std.proofs.Common.{◌≡◌, ◌*◌, ◌^◌, true, ℕ, ℤ, pos, neg_ℤ, Some, List, [], ◌∷◌, filter, refl}
use Rattle.fx_num.specs.Rounding.{nearest_of, div_rounded}
use Rattle.box_geo.specs.declared.atoms.Atom.{Atom}
use Rattle.box_geo.specs.declared.sim_box.Extent.{Extent}
use Rattle.box_geo.specs.declared.sim_box.Sides.{Sides}
use Rattle.box_geo.specs.Sides.{near_image, x_of}
use Rattle.pair_lj.specs.Pairs.{numbers_at}
use Rattle.pair_lj.specs.PairTerm.{inverse_square, sixth_power, twelfth_power, strength, energy_at, force_along, weighted_term, pair_term}
use Rattle.sums.specs.Totals.{half}
use Rattle.serial_step.specs.Forces.{Field, field_of, term_of}
use Rattle.serial_step.specs.Pairs.{brought, is_within, lesser_id_first}

abbrev side : Extent
side = record { lo = pos 0; hi = pos (10 * 2 ^ 24); periodic = true }

abbrev box : Sides
box = record { x = side; y = side; z = side; dim = 3 }

abbrev field : Field
field = field_of (record { i = 1; j = 1; epsilon = pos (2 ^ 24); sigma = pos (2 ^ 24); cutoff = pos 41943040 } ∷ [])

abbrev none : List ℤ
none = pos 0 ∷ pos 0 ∷ pos 0 ∷ []

abbrev atom : ℕ → ℕ → Atom
atom id x = record { id = id; mol = 0; kind = 1; x = pos (x * 2 ^ 24) ∷ pos 0 ∷ pos 0 ∷ []; v = none; f = none; image = none }

abbrev pairs : List (Atom × Atom)
pairs = half (atom 1 4 ∷ atom 2 5 ∷ atom 3 8 ∷ [])

-- only the first two are within the cutoff of 2.5
near : filter (is_within box 41943040) pairs ≡ (atom 1 4, atom 2 5) ∷ []
unfolding near_image
near = refl

-- the first is pushed back, the second on, and nothing comes to the third
abbrev along_x : List (Atom × Atom) → ℕ → ℤ
along_x list id = brought field box x_of (λ a. a.id) list id

first_pushed : along_x pairs 1 ≡ neg_ℤ (pos (24 * 2 ^ 24))
unfolding term_of numbers_at near_image pair_term weighted_term force_along energy_at strength twelfth_power sixth_power inverse_square nearest_of div_rounded
first_pushed = refl

second_pushed : along_x ((atom 2 5, atom 1 4) ∷ []) 2 ≡ pos (24 * 2 ^ 24)
unfolding term_of numbers_at near_image pair_term weighted_term force_along energy_at strength twelfth_power sixth_power inverse_square nearest_of div_rounded
second_pushed = refl

third_alone : along_x pairs 3 ≡ pos 0
unfolding term_of numbers_at near_image pair_term weighted_term force_along energy_at strength twelfth_power sixth_power inverse_square nearest_of div_rounded
third_alone = refl

turned : lesser_id_first (atom 2 5, atom 1 4) ≡ (atom 1 4, atom 2 5)
turned = refl
