-- Bounds of kicks and drifts.
use Rattle.std.proofs.Common.{◌≡◌, ◌≤◌, ◌*◌, ◌^◌, ℤ, pos, ◌*ℤ◌, ◌≤ℤ◌, unsigned_abs, List, [], ◌∷◌, subst, arith}
use Rattle.std.proofs.lemmas.Int.{ints, unsigned_abs-mul}
use Rattle.std.proofs.lemmas.Nat.{mul-le}
use Rattle.box_geo.specs.declared.atoms.Atom.{Atom}
use Rattle.box_geo.specs.Sides.{x_of, y_of, z_of}
use Rattle.fx_num.specs.Rounding.{div_rounded, shr_rounded}
use Rattle.fx_num.proofs.RoundingLemmas.{nearest_of-le, unsigned_abs-div_rounded}
use Rattle.serial_step.specs.Step.{Setting, kicked, kicked_along, mass_of}

-- a rate over a timestep
pub timestep_bound : (dt rate : ℤ) → unsigned_abs dt ≤ 2 ^ 24 → unsigned_abs (dt *ℤ rate) ≤ 2 ^ 24 * unsigned_abs rate
timestep_bound dt rate small =
    let e : unsigned_abs (dt *ℤ rate) ≡ unsigned_abs dt * unsigned_abs rate = unsigned_abs-mul dt rate in
    omega (arith, e, mul-le (unsigned_abs dt) (unsigned_abs rate) (2 ^ 24) (unsigned_abs rate) small (omega arith))

-- shifted by its places
pub path_bound : (a : ℤ) → unsigned_abs a ≤ 2 ^ 56 → unsigned_abs (shr_rounded a 24) ≤ 2 ^ 32
path_bound a small = omega (arith, unsigned_abs-div_rounded a (pos (2 ^ 24)), nearest_of-le (unsigned_abs a) (2 ^ 24) (2 ^ 32) (omega arith) (omega arith))

-- a rate over a timestep, divided by twice a mass
pub push_bound : (a b : ℤ) → unsigned_abs a ≤ 2 ^ 68 → pos (2 ^ 15) ≤ℤ b → unsigned_abs (div_rounded a b) ≤ 2 ^ 53
push_bound a b small heavy =
    let size : 2 ^ 15 ≤ unsigned_abs b = omega (arith, ints) in
    omega (arith, unsigned_abs-div_rounded a b, nearest_of-le (unsigned_abs a) (unsigned_abs b) (2 ^ 53) (omega arith) (omega arith))

-- the kick of each component with the mass of the atom
pub kicked_from : (t : Setting) (a : Atom) (m x y z : ℤ) → m ≡ mass_of t a → x ≡ kicked_along t.dt m (x_of a.v) (x_of a.f) → y ≡ kicked_along t.dt m (y_of a.v) (y_of a.f) → z ≡ kicked_along t.dt m (z_of a.v) (z_of a.f) → ◌≡◌ {A = List ℤ} (x ∷ y ∷ z ∷ []) (kicked t a)
kicked_from t a m x y z same ex ey ez =
    subst (λ (n : ℤ). ◌≡◌ {A = List ℤ} (x ∷ y ∷ z ∷ []) (kicked_along t.dt n (x_of a.v) (x_of a.f) ∷ kicked_along t.dt n (y_of a.v) (y_of a.f) ∷ kicked_along t.dt n (z_of a.v) (z_of a.f) ∷ [])) same (cc)

-- vectors are the same where their components are
pub same_vector : {x y z a b c : ℤ} → x ≡ a → y ≡ b → z ≡ c → ◌≡◌ {A = List ℤ} (x ∷ y ∷ z ∷ []) (a ∷ b ∷ c ∷ [])
same_vector e f g = cc
