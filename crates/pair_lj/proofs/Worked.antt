-- Worked pairs, from the formulas by hand: eps = sigma = 1, cutoff 2.5, along x.
use Rattle.std.proofs.Common.{◌≡◌, ◌^◌, ◌*◌, ℕ, ℤ, pos, neg_ℤ, Option, Some, None, Result, Ok, Err, List, [], ◌∷◌, refl}
use Rattle.fx_num.specs.Rounding.{nearest_of, div_rounded}
use Rattle.box_geo.specs.declared.term.Term.{Term}
use Rattle.pair_lj.specs.declared.close.Close.{Close}
use Rattle.pair_lj.specs.PairTerm.{inverse_square, sixth_power, twelfth_power, strength, energy_at, force_along, weighted_term, pair_term}

one : ℕ
one = 2 ^ 24

abbrev along_x : ℤ → List ℤ
along_x x = x ∷ pos 0 ∷ pos 0 ∷ []

abbrev term_along : ℤ → Result (Option Term) Close
term_along x = pair_term (2 ^ 24) (2 ^ 24) 41943040 (pos 0) (2 ^ 24) (along_x x)

-- at distance 2: w 1/4, s6 1/64, s12 1/4096
w_at_two : inverse_square (2 ^ 24) (2 ^ 50) ≡ 2 ^ 30
unfolding inverse_square nearest_of
w_at_two = refl

s6_at_two : sixth_power (2 ^ 24) (2 ^ 50) ≡ 2 ^ 26
unfolding sixth_power inverse_square nearest_of
s6_at_two = refl

s12_at_two : twelfth_power (2 ^ 24) (2 ^ 50) ≡ 2 ^ 20
unfolding twelfth_power sixth_power inverse_square nearest_of
s12_at_two = refl

strength_at_two : strength (2 ^ 24) (2 ^ 24) (2 ^ 50) ≡ neg_ℤ (pos 390070272)
unfolding strength twelfth_power sixth_power inverse_square nearest_of div_rounded
strength_at_two = refl

at_two : term_along (neg_ℤ (pos (2 * 2 ^ 24))) ≡ Ok (Some record { f = pos 3047424 ∷ pos 0 ∷ pos 0 ∷ []; energy = neg_ℤ (pos 1032192); virial = neg_ℤ (pos (3047424 * 2 ^ 25)) })
unfolding pair_term weighted_term force_along energy_at strength twelfth_power sixth_power inverse_square nearest_of div_rounded
at_two = refl

-- at distance 1: the energy is 0, the force 24
at_one : term_along (neg_ℤ (pos (2 ^ 24))) ≡ Ok (Some record { f = neg_ℤ (pos (24 * 2 ^ 24)) ∷ pos 0 ∷ pos 0 ∷ []; energy = pos 0; virial = pos (24 * 2 ^ 48) })
unfolding pair_term weighted_term force_along energy_at strength twelfth_power sixth_power inverse_square nearest_of div_rounded
at_one = refl

-- at the cutoff there is none
at_cutoff : term_along (pos 41943040) ≡ Ok None
unfolding pair_term
at_cutoff = refl

-- one unit below it
below_cutoff : energy_at (2 ^ 24) (2 ^ 24) (41943039 * 41943039) ≡ neg_ℤ (pos 273752)
unfolding energy_at twelfth_power sixth_power inverse_square nearest_of div_rounded
below_cutoff = refl

-- at distance 0.2 the atoms are too close
at_fifth : term_along (pos 3355443) ≡ Err record {}
unfolding pair_term inverse_square nearest_of
at_fifth = refl
