-- The term of a cosine angle (the manual's angle style cosine), for the displacements d1 and d2 from its centre to its outer atoms.
--
-- Every length, force and energy is in units of 2^-24. With r1 and r2 the distances, rounded once:
--   c  = d1·d2 / (r1 r2)                          the cosine, rounded once and brought into the range from -1 to 1
--   f1 = K (c d1 r2 - d2 r1) / (r1² r2)           the force on the first outer atom
--   f2 = K (c d2 r1 - d1 r2) / (r2² r1)           the force on the second; the centre has the negatives of both
--   e  = K (1 + c)                                the energy
-- each rounded once. The virial is the exact sum of the products of d1 with f1 and d2 with f2.
use Rattle.std.specs.Prelude.{◌*◌, ◌^◌, ◌||◌, cond, int_lt, ℕ, ℤ, pos, neg_ℤ, ◌+ℤ◌, ◌-ℤ◌, ◌*ℤ◌, Result, Ok, Err, List, [], ◌∷◌}
use Rattle.fx_num.specs.Rounding.{div_rounded, shr_rounded}
use Rattle.box_geo.specs.Sides.{x_of, y_of, z_of}
use Rattle.box_geo.specs.Terms.{dot, is_too_strong, IsModerate}
use Rattle.bonded.specs.declared.angle.AngleTerm.{AngleTerm}
use Rattle.bonded.specs.declared.broken.Broken.{Broken}
use Rattle.bonded.specs.Lengths.{divided, is_out_of_reach, length_of}

-- a cosine in its range
abbrev pub in_range : ℤ → ℤ
in_range c = cond (int_lt (pos (2 ^ 24)) c) (pos (2 ^ 24)) (cond (int_lt c (neg_ℤ (pos (2 ^ 24)))) (neg_ℤ (pos (2 ^ 24))) c)

unfoldable pub cosine : List ℤ → List ℤ → ℕ → ℕ → ℤ
cosine d1 d2 r1 r2 = in_range (div_rounded (dot d1 d2 *ℤ pos (2 ^ 24)) (pos (r1 * r2)))

-- along an axis with components x of the own displacement and y of the other, of lengths r and s
abbrev pub turn_along : ℤ → ℤ → ℕ → ℕ → ℤ → ℤ → ℤ
turn_along k c r s x y = k *ℤ (c *ℤ x *ℤ pos s -ℤ pos (2 ^ 24) *ℤ y *ℤ pos r)

-- the force on an outer atom at its displacement d of length r, with the other at e of length s
unfoldable pub angle_force : ℤ → ℤ → ℕ → ℕ → List ℤ → List ℤ → List ℤ
angle_force k c r s d e =
    divided (turn_along k c r s (x_of d) (x_of e) ∷ turn_along k c r s (y_of d) (y_of e) ∷ turn_along k c r s (z_of d) (z_of e) ∷ []) (r * r * s)

unfoldable pub angle_energy : ℤ → ℤ → ℤ
angle_energy k c = shr_rounded (k *ℤ (pos (2 ^ 24) +ℤ c)) 24

-- the term of a cosine c and distances r1 and r2
unfoldable pub angle_at : ℤ → ℤ → ℕ → ℕ → List ℤ → List ℤ → AngleTerm
angle_at k c r1 r2 d1 d2 = record {
  fa = angle_force k c r1 r2 d1 d2;
  fc = angle_force k c r2 r1 d2 d1;
  energy = angle_energy k c;
  virial = dot d1 (angle_force k c r1 r2 d1 d2) +ℤ dot d2 (angle_force k c r2 r1 d2 d1);
}

-- a term whose forces have no component above 2^42, or the fault
abbrev pub unless_broken : AngleTerm → Result AngleTerm Broken
unless_broken t = cond (is_too_strong t.fa || is_too_strong t.fc) (Err record {}) (Ok t)

-- the term, or the fault: an outer atom at the centre's place or out of reach, or a component of an outer force above 2^42
unfoldable pub angle_term : List ℤ → List ℤ → ℤ → ℤ → Result AngleTerm Broken
angle_term d1 d2 k rcmax =
    cond (is_out_of_reach rcmax d1 || is_out_of_reach rcmax d2) (Err record {})
    (unless_broken (angle_at k (cosine d1 d2 (length_of d1) (length_of d2)) (length_of d1) (length_of d2) d1 d2))

-- both forces have components up to 2^42
abbrev pub HasModerateForces : AngleTerm → Type 0
HasModerateForces t = IsModerate t.fa × IsModerate t.fc

-- the same with the two outer forces exchanged
abbrev pub exchanged : Result AngleTerm Broken → Result AngleTerm Broken
exchanged (Ok t) = Ok record t { fa = t.fc; fc = t.fa }
exchanged (Err b) = Err b
