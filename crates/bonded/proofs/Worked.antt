-- Worked terms and weights, by hand. A length of 1 is 2^24 units.
use Rattle.std.proofs.Common.{◌≡◌, ◌*◌, ◌^◌, ℕ, ℤ, pos, neg_ℤ, List, Ok, Err, [], ◌∷◌, refl}
use Rattle.fx_num.specs.Rounding.{nearest_of, div_rounded}
use Rattle.fx_num.specs.Roots.{sqrt_of}
use Rattle.box_geo.specs.declared.atoms.Bond.{Bond}
use Rattle.bonded.specs.Lengths.{length_of}
use Rattle.bonded.specs.Bonds.{bond_at, bond_energy, bond_force, bond_term}
use Rattle.bonded.specs.Paths.{special_weight}
use Rattle.bonded.specs.Angles.{angle_at, angle_energy, angle_force, angle_term, cosine}

abbrev one : ℤ
one = pos (2 ^ 24)

abbrev zero_is : ℤ
zero_is = pos 0

abbrev thirty : ℤ
thirty = pos (30 * 2 ^ 24)

-- the greatest of all cutoffs, 2.5
abbrev reach : ℤ
reach = pos 41943040

-- a bond at its rest length, 1, has no force and no energy
at_rest : bond_term (one ∷ zero_is ∷ zero_is ∷ []) thirty one reach ≡ Ok record { f = pos 0 ∷ pos 0 ∷ pos 0 ∷ []; energy = pos 0; virial = pos 0 }
unfolding bond_term bond_at bond_energy bond_force length_of sqrt_of div_rounded nearest_of
at_rest = refl

-- 2.5 apart: the force is 2 · 30 · 1.5 = 90 inwards, the energy 30 · 1.5² = 67.5
stretched : bond_term (reach ∷ zero_is ∷ zero_is ∷ []) thirty one reach ≡ Ok record { f = neg_ℤ (pos (90 * 2 ^ 24)) ∷ pos 0 ∷ pos 0 ∷ []; energy = pos 1132462080; virial = neg_ℤ (pos (90 * 2 ^ 24 * 41943040)) }
unfolding bond_term bond_at bond_energy bond_force length_of sqrt_of div_rounded nearest_of
stretched = refl

-- 2.6 apart it is beyond the reach
beyond : bond_term (pos 43620762 ∷ zero_is ∷ zero_is ∷ []) thirty one reach ≡ Err record {}
unfolding bond_term
beyond = refl

-- and at one place there is no direction
touching : bond_term (zero_is ∷ zero_is ∷ zero_is ∷ []) thirty one reach ≡ Err record {}
unfolding bond_term
touching = refl

-- a right angle with sides of 1 and a stiffness of 2: the outer forces are (0, -2, 0) and (-2, 0, 0), and so the centre's (2, 2, 0); the energy is 2
right_angle : angle_term (one ∷ zero_is ∷ zero_is ∷ []) (zero_is ∷ one ∷ zero_is ∷ []) (pos (2 ^ 25)) reach ≡ Ok record { fa = pos 0 ∷ neg_ℤ (pos (2 ^ 25)) ∷ pos 0 ∷ []; fc = neg_ℤ (pos (2 ^ 25)) ∷ pos 0 ∷ pos 0 ∷ []; energy = pos (2 ^ 25); virial = pos 0 }
unfolding angle_term angle_at angle_energy angle_force cosine length_of sqrt_of div_rounded nearest_of
right_angle = refl

-- a straight one has no force and no energy
straight : angle_term (one ∷ zero_is ∷ zero_is ∷ []) (neg_ℤ one ∷ zero_is ∷ zero_is ∷ []) (pos (2 ^ 25)) reach ≡ Ok record { fa = pos 0 ∷ pos 0 ∷ pos 0 ∷ []; fc = pos 0 ∷ pos 0 ∷ pos 0 ∷ []; energy = pos 0; virial = pos 0 }
unfolding angle_term angle_at angle_energy angle_force cosine length_of sqrt_of div_rounded nearest_of
straight = refl

-- a cosine that rounding brings above 1 is brought back to 1
in_its_range : cosine (pos 3 ∷ pos 3 ∷ zero_is ∷ []) (pos 3 ∷ pos 3 ∷ zero_is ∷ []) 4 4 ≡ one
unfolding cosine div_rounded nearest_of
in_its_range = refl

-- a chain of four atoms, one bond given from its far end, with weights that tell themselves apart
abbrev bond : ℕ → ℕ → Bond
bond a b = record { kind = 1; a = a; b = b }

abbrev chain : List Bond
chain = bond 1 2 ∷ bond 3 2 ∷ bond 3 4 ∷ bond 4 5 ∷ []

abbrev three : List ℕ
three = 5 ∷ 6 ∷ 7 ∷ []

one_apart : special_weight chain three 2 3 ≡ 5
unfolding special_weight
one_apart = refl

two_apart : special_weight chain three 3 1 ≡ 6
unfolding special_weight
two_apart = refl

three_apart : special_weight chain three 1 4 ≡ 7
unfolding special_weight
three_apart = refl

-- four bonds, no bond, and an atom with itself, though it can be left and come back to by two bonds
four_apart : special_weight chain three 1 5 ≡ 2 ^ 24
unfolding special_weight
four_apart = refl

not_joined : special_weight chain three 1 9 ≡ 2 ^ 24
unfolding special_weight
not_joined = refl

itself : special_weight chain three 2 2 ≡ 2 ^ 24
unfolding special_weight
itself = refl

-- in a ring of three the shortest path counts
ring : special_weight (bond 1 2 ∷ bond 2 3 ∷ bond 1 3 ∷ []) three 1 3 ≡ 5
unfolding special_weight
ring = refl
