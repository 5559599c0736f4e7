-- The trap of the program.
use Rattle.std.proofs.Common.{◌≤◌, ℤ, neg_ℤ, unsigned_abs, List, [], ◌∷◌, arith}
use Rattle.std.proofs.lemmas.Int.{ints}
use Rattle.box_geo.specs.declared.limits.TheConstants.{MAX_BOUND}
use Rattle.box_geo.specs.Sides.{x_of, y_of, z_of, IsWithin}
use Rattle.external_force.specs.declared.rule.TheConstants.{MAX_PULL}

-- the force of the trap at a position: back to the origin, as strong as the position is far from it
abbrev pub back : List ℤ → List ℤ
back x = neg_ℤ (x_of x) ∷ neg_ℤ (y_of x) ∷ neg_ℤ (z_of x) ∷ []

along : (x : ℤ) → unsigned_abs x ≤ unsigned_abs MAX_BOUND → unsigned_abs (neg_ℤ x) ≤ unsigned_abs MAX_PULL
along x near = omega (arith, ints)

-- the trap keeps to the limit of a rule: no position that is near has a greater force
pub back_small : (x : List ℤ) → IsWithin (unsigned_abs MAX_BOUND) x → IsWithin (unsigned_abs MAX_PULL) (back x)
back_small x near = (along (x_of x) near.0, along (y_of x) near.1, along (z_of x) near.2)
