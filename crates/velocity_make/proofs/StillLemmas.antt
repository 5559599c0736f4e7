-- A mean that is taken off draws leaves them within the limit of speeds.
use Rattle.std.proofs.Common.{◌≡◌, ◌^◌, ◌≤◌, get_or, true, false, cond, Bool, ℕ, ℤ, ◌-ℤ◌, unsigned_abs, List, All, refl, sym, arith}
use Rattle.std.proofs.lemmas.Int.{ints}
use Rattle.std.proofs.lemmas.List.Elements.{All-map}
use Rattle.box_geo.specs.declared.atoms.Atom.{Atom}
use Rattle.box_geo.specs.Sides.{x_of, y_of, z_of, IsWithin}
use Rattle.computes.specs.Quantities.{IsSlow}
use Rattle.velocity_make.specs.declared.changes.Change.TheVariants.{TakeOff}
use Rattle.velocity_make.specs.Change.{changed, velocity_after, with_velocity}
use Rattle.velocity_make.specs.Group.{IsCalm, IsWeighed, is_member, mean, members}
use Rattle.velocity_make.specs.Make.{stilled}
use Rattle.velocity_make.proofs.SumLemmas.{IsSlowAlong, mean_within}

along_x : (ids : List ℕ) (atoms : List Atom) → All (IsCalm ids) atoms → All (IsSlowAlong ids 0 (2 ^ 29)) atoms
along_x ids atoms h i d lt = λ member. ((h i d lt).1 member).0

along_y : (ids : List ℕ) (atoms : List Atom) → All (IsCalm ids) atoms → All (IsSlowAlong ids 1 (2 ^ 29)) atoms
along_y ids atoms h i d lt = λ member. ((h i d lt).1 member).1

along_z : (ids : List ℕ) (atoms : List Atom) → All (IsCalm ids) atoms → All (IsSlowAlong ids 2 (2 ^ 29)) atoms
along_z ids atoms h i d lt = λ member. ((h i d lt).1 member).2

mean_calm : (mass : List ℤ) (ids : List ℕ) (atoms : List Atom) → All (IsWeighed mass ids) atoms → All (IsCalm ids) atoms → IsWithin (2 ^ 29) (mean mass (members ids atoms))
mean_calm mass ids atoms weighed calm = (
  mean_within mass ids 0 (2 ^ 29) atoms weighed (along_x ids atoms calm),
  mean_within mass ids 1 (2 ^ 29) atoms weighed (along_y ids atoms calm),
  mean_within mass ids 2 (2 ^ 29) atoms weighed (along_z ids atoms calm),
)

less_slow : (v u : ℤ) → unsigned_abs v ≤ 2 ^ 29 → unsigned_abs u ≤ 2 ^ 29 → unsigned_abs (v -ℤ u) ≤ 2 ^ 32
less_slow v u slow calm = omega (arith, ints, slow, calm)

one_still : (ids : List ℕ) (a : Atom) (u : List ℤ) (t : Bool) → t ≡ is_member ids a → IsCalm ids a → IsWithin (2 ^ 29) u → IsSlow (cond t (with_velocity a (velocity_after (TakeOff u) a.v)) a)
one_still ids a u true member calm mean =
    let h = calm.1 (sym member) in
    (less_slow (x_of a.v) (x_of u) h.0 mean.0, less_slow (y_of a.v) (y_of u) h.1 mean.1, less_slow (z_of a.v) (z_of u) h.2 mean.2)
one_still ids a u false member calm mean = calm.0

pub still_slow : (mass : List ℤ) (ids : List ℕ) (atoms : List Atom) → All (IsWeighed mass ids) atoms → All (IsCalm ids) atoms → All IsSlow (stilled mass ids atoms)
unfolding stilled
still_slow mass ids atoms weighed calm =
    let u : List ℤ = mean mass (members ids atoms) in
    let small = mean_calm mass ids atoms weighed calm in
    All-map IsSlow (changed ids (TakeOff u)) atoms (λ i d lt. one_still ids (get_or atoms i d) u (is_member ids (get_or atoms i d)) refl (calm i d lt) small)
