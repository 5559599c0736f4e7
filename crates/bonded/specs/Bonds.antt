-- The term of a harmonic bond (the manual's bond style harmonic), for the displacement d from its second atom to its first.
--
-- Every length, force and energy is in units of 2^-24. With r the distance, rounded once:
--   f = 2 K (r0 - r) d / r     the force on the first atom; that on the second is its negative
--   e = K (r0 - r)²            the energy
-- each rounded once. The virial is the exact product of d and f.
use Rattle.std.specs.Prelude.{◌≡◌, ◌*◌, ◌^◌, cond, ℕ, ℤ, pos, ◌-ℤ◌, ◌*ℤ◌, Result, Ok, Err, List, [], ◌∷◌}
use Rattle.fx_num.specs.Rounding.{shr_rounded}
use Rattle.box_geo.specs.declared.term.Term.{Term}
use Rattle.box_geo.specs.Sides.{x_of, y_of, z_of, IsOpposite}
use Rattle.box_geo.specs.Terms.{dot, is_too_strong}
use Rattle.bonded.specs.declared.broken.Broken.{Broken}
use Rattle.bonded.specs.Lengths.{divided, is_out_of_reach, length_of}

-- a number times a vector
abbrev pub times : ℤ → List ℤ → List ℤ
times c v = (c *ℤ x_of v) ∷ (c *ℤ y_of v) ∷ (c *ℤ z_of v) ∷ []

-- the force on the first atom at the distance r
unfoldable pub bond_force : ℤ → ℤ → ℕ → List ℤ → List ℤ
bond_force k r0 r d = divided (times (pos 2 *ℤ k *ℤ (r0 -ℤ pos r)) d) (r * 2 ^ 24)

-- the energy at the distance r
unfoldable pub bond_energy : ℤ → ℤ → ℕ → ℤ
bond_energy k r0 r = shr_rounded (k *ℤ ((r0 -ℤ pos r) *ℤ (r0 -ℤ pos r))) 48

unfoldable pub bond_at : ℤ → ℤ → ℕ → List ℤ → Term
bond_at k r0 r d = record { f = bond_force k r0 r d; energy = bond_energy k r0 r; virial = dot d (bond_force k r0 r d) }

-- the term, or the fault: atoms at one place or out of reach, or a component of the force above 2^42
unfoldable pub bond_term : List ℤ → ℤ → ℤ → ℤ → Result Term Broken
bond_term d k r0 rcmax =
    cond (is_out_of_reach rcmax d) (Err record {})
    (cond (is_too_strong (bond_force k r0 (length_of d) d)) (Err record {})
    (Ok (bond_at k r0 (length_of d) d)))

-- the outcomes are of one kind; of two terms the forces are opposite, the energies and virials equal
abbrev pub AreOpposite : Result Term Broken → Result Term Broken → Type 0
AreOpposite (Ok s) (Ok t) = IsOpposite s.f t.f × (t.energy ≡ s.energy) × (t.virial ≡ s.virial)
AreOpposite (Err b) (Err c) = Unit {0}
AreOpposite (Ok s) (Err c) = ⊥
AreOpposite (Err b) (Ok t) = ⊥
