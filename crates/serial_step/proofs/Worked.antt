-- Worked steps, in units worked out by hand: a box of 10 on each axis, mass 1, eps = sigma = 1, cutoff 2.5, skin 0.3.
use Rattle.std.proofs.Common.{◌≡◌, ◌*◌, ◌^◌, Bool, true, false, ℕ, ℤ, pos, neg_ℤ, Some, List, [], ◌∷◌, map, refl}
use Rattle.fx_num.specs.Rounding.{nearest_of, div_rounded}
use Rattle.box_geo.specs.declared.atoms.Atom.{Atom}
use Rattle.box_geo.specs.declared.sim_box.Extent.{Extent}
use Rattle.box_geo.specs.declared.sim_box.Sides.{Sides}
use Rattle.box_geo.specs.Fault.{no_fault}
use Rattle.box_geo.specs.Sides.{near_image}
use Rattle.box_geo.specs.Wrap.{wrap}
use Rattle.pair_lj.specs.Pairs.{numbers_at}
use Rattle.pair_lj.specs.PairTerm.{inverse_square, sixth_power, twelfth_power, strength, energy_at, force_along, weighted_term, pair_term}
use Rattle.serial_step.specs.Forces.{Field, field_of, term_of, force_on, pair_energy, pair_virial, terms_fault, with_forces, forces_fault, force_word, least, word}
use Rattle.serial_step.specs.Rebuild.{renews, neighbour_pairs}
use Rattle.serial_step.specs.Step.{Setting, State, drifted, kicked_again, serial_step}

abbrev side : Bool → Extent
side periodic = record { lo = pos 0; hi = pos (10 * 2 ^ 24); periodic = periodic }

abbrev box : Bool → Sides
box periodic = record { x = side periodic; y = side periodic; z = side periodic; dim = 3 }

abbrev field : Field
field = field_of (record { i = 1; j = 1; epsilon = pos (2 ^ 24); sigma = pos (2 ^ 24); cutoff = pos 41943040 } ∷ [])

-- the timestep 0.5, and every atom moves
abbrev setting : Bool → ℕ → Setting
setting periodic skin = record { field = field; sides = box periodic; dt = pos (2 ^ 23); mass = pos (2 ^ 24) ∷ []; skin = skin; cutoff = 41943040; moves = λ id. true }

abbrev none : List ℤ
none = pos 0 ∷ pos 0 ∷ pos 0 ∷ []

abbrev middle : ℤ → List ℤ
middle x = x ∷ pos (5 * 2 ^ 24) ∷ pos (5 * 2 ^ 24) ∷ []

abbrev along_x : ℤ → List ℤ
along_x x = x ∷ pos 0 ∷ pos 0 ∷ []

abbrev atom : ℕ → List ℤ → List ℤ → Atom
atom id x v = record { id = id; mol = 0; kind = 1; x = x; v = v; f = none; image = none }

-- an atom at 9.75 with velocity 1 wraps to 0.25, and its image count becomes 1
abbrev wrapping : State
wrapping = record { step = 0; atoms = atom 1 (middle (pos 163577856)) (along_x (pos (2 ^ 24))) ∷ []; references = middle (pos 163577856) ∷ []; builds = 0 }

wraps : serial_step (setting true 5033165) wrapping ≡ record {
  fault = no_fault;
  state = record {
    step = 1;
    atoms = record { id = 1; mol = 0; kind = 1; x = middle (pos 4194304); v = along_x (pos (2 ^ 24)); f = none; image = along_x (pos 1) } ∷ [];
    references = middle (pos 4194304) ∷ [];
    builds = 1;
  };
  sums = record { pair = pos 0; virial = pos 0 };
}
unfolding serial_step drifted kicked_again wrap renews with_forces force_on forces_fault terms_fault term_of numbers_at pair_energy pair_virial near_image div_rounded nearest_of
wraps = refl

-- in a fixed box it is lost in the drift
loses : (serial_step (setting false 5033165) wrapping).fault ≡ word 1 6 1 0
unfolding serial_step drifted kicked_again wrap renews with_forces force_on forces_fault terms_fault term_of numbers_at pair_energy pair_virial near_image div_rounded nearest_of
loses = refl

-- with a skin of 0.5, a move of half the skin renews nothing, and one of a unit more does
abbrev moving : ℕ → State
moving v = record { step = 0; atoms = atom 1 (middle (pos (5 * 2 ^ 24))) (along_x (pos v)) ∷ []; references = middle (pos (5 * 2 ^ 24)) ∷ []; builds = 0 }

half_the_skin : (serial_step (setting true (2 ^ 23)) (moving (2 ^ 23))).state.builds ≡ 0
unfolding serial_step drifted kicked_again wrap renews with_forces force_on forces_fault terms_fault term_of numbers_at pair_energy pair_virial near_image div_rounded nearest_of
half_the_skin = refl

a_unit_more : (serial_step (setting true (2 ^ 23)) (moving 8388610)).state.builds ≡ 1
unfolding serial_step drifted kicked_again wrap renews with_forces force_on forces_fault terms_fault term_of numbers_at pair_energy pair_virial near_image div_rounded nearest_of
a_unit_more = refl

-- two atoms at distance 1: the forces are 24 and -24 and the energy is 0
abbrev pair : List Atom
pair = atom 1 (middle (pos (4 * 2 ^ 24))) none ∷ atom 2 (middle (pos (5 * 2 ^ 24))) none ∷ []

at_one : with_forces field (box true) pair
    ≡ record { id = 1; mol = 0; kind = 1; x = middle (pos (4 * 2 ^ 24)); v = none; f = along_x (neg_ℤ (pos (24 * 2 ^ 24))); image = none }
    ∷ record { id = 2; mol = 0; kind = 1; x = middle (pos (5 * 2 ^ 24)); v = none; f = along_x (pos (24 * 2 ^ 24)); image = none }
    ∷ []
unfolding with_forces force_on term_of numbers_at near_image pair_term weighted_term force_along energy_at strength twelfth_power sixth_power inverse_square nearest_of div_rounded
at_one = refl

sums_at_two : pair_energy field (box true) (atom 1 (middle (pos (4 * 2 ^ 24))) none ∷ atom 2 (middle (pos (6 * 2 ^ 24))) none ∷ []) ≡ neg_ℤ (pos 1032192)
unfolding pair_energy term_of numbers_at near_image pair_term weighted_term force_along energy_at strength twelfth_power sixth_power inverse_square nearest_of div_rounded
sums_at_two = refl

-- two atoms at distance 2, at rest, with the forces of 0.181640625 that they have there: half a kick, the drift, the new forces, half a kick
abbrev resting : State
resting = record {
  step = 0;
  atoms =
      record (atom 1 (middle (pos (4 * 2 ^ 24))) none) { f = along_x (pos 3047424) }
      ∷ record (atom 2 (middle (pos (6 * 2 ^ 24))) none) { f = along_x (neg_ℤ (pos 3047424)) }
      ∷ [];
  references = middle (pos (4 * 2 ^ 24)) ∷ middle (pos (6 * 2 ^ 24)) ∷ [];
  builds = 0;
}

a_whole_step : serial_step (setting true 5033165) resting ≡ record {
  fault = no_fault;
  state = record {
    step = 1;
    atoms =
        record { id = 1; mol = 0; kind = 1; x = middle (pos 67489792); v = along_x (pos 1652325); f = along_x (pos 3561874); image = none }
        ∷ record { id = 2; mol = 0; kind = 1; x = middle (pos 100282368); v = along_x (neg_ℤ (pos 1652325)); f = along_x (neg_ℤ (pos 3561874)); image = none }
        ∷ [];
    references = middle (pos (4 * 2 ^ 24)) ∷ middle (pos (6 * 2 ^ 24)) ∷ [];
    builds = 0;
  };
  sums = record { pair = neg_ℤ (pos 1181917); virial = neg_ℤ (pos 116803023847424) };
}
unfolding serial_step drifted kicked_again wrap renews with_forces force_on forces_fault terms_fault term_of numbers_at pair_energy pair_virial near_image pair_term weighted_term force_along energy_at strength twelfth_power sixth_power inverse_square div_rounded nearest_of
a_whole_step = refl

-- ids 3, 5 and 7 at (5.1, 5, 5), (5, 5.1, 5) and (5, 5, 5): all pairs are too close, and the least key is that of 3 and 5
abbrev at : ℕ → ℕ → List ℤ
at x y = pos x ∷ pos y ∷ pos 83886080 ∷ []

three_close : forces_fault field (box true) (atom 3 (at 85563802 83886080) none ∷ atom 5 (at 83886080 85563802) none ∷ atom 7 (at 83886080 83886080) none ∷ []) ≡ word 2 1 3 5
unfolding forces_fault terms_fault term_of numbers_at near_image pair_term inverse_square nearest_of
three_close = refl

-- the same with the atoms in falling order: the least key, and not that of the first pair
three_turned : forces_fault field (box true) (atom 7 (at 83886080 83886080) none ∷ atom 5 (at 83886080 85563802) none ∷ atom 3 (at 85563802 83886080) none ∷ []) ≡ word 2 1 3 5
unfolding forces_fault terms_fault term_of numbers_at near_image pair_term inverse_square nearest_of
three_turned = refl

-- five atoms at (5, 5, 5), and a sixth 33/64 from them: each pushes it by 261095, together above 2^20, and yet the fault is that of the first two
abbrev crowd : List Atom
crowd =
    atom 1 (at 83886080 83886080) none ∷ atom 2 (at 83886080 83886080) none ∷ atom 3 (at 83886080 83886080) none
    ∷ atom 4 (at 83886080 83886080) none ∷ atom 5 (at 83886080 83886080) none ∷ atom 6 (at 92536832 83886080) none ∷ []

pushed_too_hard : least (map force_word (with_forces field (box true) crowd)) ≡ word 2 4 6 0
unfolding with_forces force_on term_of numbers_at near_image pair_term weighted_term force_along energy_at strength twelfth_power sixth_power inverse_square nearest_of div_rounded
pushed_too_hard = refl

close_judged_first : forces_fault field (box true) crowd ≡ word 2 1 1 2
unfolding forces_fault terms_fault with_forces force_on term_of numbers_at near_image pair_term weighted_term force_along energy_at strength twelfth_power sixth_power inverse_square nearest_of div_rounded
close_judged_first = refl

-- the footer's first number, for two atoms 2.7 apart and for two 2.8 apart: 2.5 and the skin are together 46976205 units
near_pair : neighbour_pairs (box true) 46976205 (middle (pos 0) ∷ middle (pos 46976204) ∷ []) ≡ 1
unfolding neighbour_pairs near_image
near_pair = refl

far_pair : neighbour_pairs (box true) 46976205 (middle (pos 0) ∷ middle (pos 46976205) ∷ []) ≡ 0
unfolding neighbour_pairs near_image
far_pair = refl
