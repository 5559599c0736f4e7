-- Worked numbers: the definitions compute what was worked out by hand.
use Rattle.std.proofs.Common.{◌≡◌, ◌^◌, pos, neg_ℤ, Some, None, [], ◌∷◌, refl}
use Rattle.fx_num.specs.Rounding.{div_rounded, nearest_of}
use Rattle.fx_num.specs.Roots.{sqrt_of}
use Rattle.velocity_make.specs.declared.changes.Change.TheVariants.{Scale, Set, TakeOff}
use Rattle.velocity_make.specs.Change.{velocity_after}
use Rattle.velocity_make.specs.Draw.{draw_of, first_word, generator_of}

-- the first word of the reference generator of PCG's C code
reference_word : first_word (generator_of 42 54) ≡ 2707161783
reference_word = refl

-- the draw of atom 1 of mass 1, and of mass 4 in two dimensions
draw_of_one : draw_of 3 87287 1 (pos (2 ^ 24)) ≡ pos 8561887 ∷ neg_ℤ (pos 15704284) ∷ pos 14063819 ∷ []
unfolding draw_of sqrt_of div_rounded nearest_of
draw_of_one = refl

draw_of_four : draw_of 2 87287 1 (pos (2 ^ 26)) ≡ pos 4280944 ∷ neg_ℤ (pos 7852142) ∷ pos 0 ∷ []
unfolding draw_of sqrt_of div_rounded nearest_of
draw_of_four = refl

-- half a factor, a mean taken off, a component set
halved : velocity_after (Scale (2 ^ 23)) (pos 10 ∷ neg_ℤ (pos 10) ∷ pos 3 ∷ []) ≡ pos 5 ∷ neg_ℤ (pos 5) ∷ pos 2 ∷ []
unfolding div_rounded nearest_of
halved = refl

less_mean : velocity_after (TakeOff (pos 1 ∷ pos 2 ∷ pos 3 ∷ [])) (pos 1 ∷ pos 1 ∷ pos 1 ∷ []) ≡ pos 0 ∷ neg_ℤ (pos 1) ∷ neg_ℤ (pos 2) ∷ []
less_mean = refl

along_y : velocity_after (Set (None ∷ Some (pos 7) ∷ None ∷ [])) (pos 1 ∷ pos 2 ∷ pos 3 ∷ []) ≡ pos 1 ∷ pos 7 ∷ pos 3 ∷ []
along_y = refl
