use Rattle.std.proofs.Common.{rules, arith, ◌≡◌, ◌≤◌, ◌^◌, ◌∙◌, ap, sym, subst, ℤ, pos, ◌*ℤ◌, unsigned_abs, FitsSigned, w64, to_z, of_z}
use Rattle.std.proofs.lemmas.Int.{ints, to_z-of_z, fits_signed_from_abs}
use Rattle.fx_num.specs.Rounding.{div_rounded}
use Rattle.step_engine.proofs.MotionLemmas.{push_bound}
use Rattle.step_engine.proofs.motion.push_along.Goals as goal
use mir.Syntax.{w128}

mass_is : (c : goal.After-rdiv) → c.from.result ≡ c.args.mass
mass_is c = c.from.ensures ∙ to_z-of_z w64 c.args.mass c.ranges.mass

rate_is : (c : goal.After-rdiv) → c.over_timestep.result ≡ c.args.dt *ℤ c.args.f
rate_is c =
    let dt : FitsSigned w64 c.args.dt = c.ranges.dt in
    let f : FitsSigned w64 c.args.f = c.ranges.f in
    simp to_z-of_z at c.over_timestep.ensures.is

divisor_is : (c : goal.After-rdiv) → to_z w128 (of_z w128 (pos 2 *ℤ to_z w128 (of_z w128 c.from.result))) ≡ pos 2 *ℤ c.args.mass
divisor_is c =
    let m : FitsSigned w128 c.from.result = search rules in
    let m_is : c.from.result ≡ c.args.mass = mass_is c in
    let d : FitsSigned w128 (pos 2 *ℤ c.from.result) = fits_signed_from_abs w128 (pos 2 *ℤ c.from.result) (omega (arith, ints)) in
    ap (λ (z : ℤ). to_z w128 (of_z w128 (pos 2 *ℤ z))) (to_z-of_z w128 c.from.result m)
    ∙ to_z-of_z w128 (pos 2 *ℤ c.from.result) d
    ∙ ap (λ (z : ℤ). pos 2 *ℤ z) m_is

value : (c : goal.After-rdiv) → c.rdiv.result ≡ div_rounded (c.args.dt *ℤ c.args.f) (pos 2 *ℤ c.args.mass)
value c =
    let p : FitsSigned w128 c.over_timestep.result = search rules in
    c.rdiv.ensures.is
    ∙ ap (λ (z : ℤ). div_rounded (to_z w128 (of_z w128 c.over_timestep.result)) z) (divisor_is c)
    ∙ ap (λ (z : ℤ). div_rounded z (pos 2 *ℤ c.args.mass)) (to_z-of_z w128 c.over_timestep.result p ∙ rate_is c)

bound : (c : goal.After-rdiv) → unsigned_abs c.rdiv.result ≤ 2 ^ 53
bound c =
    let P : ℤ → Type 0 = λ z. unsigned_abs z ≤ 2 ^ 53 in
    let small : unsigned_abs (c.args.dt *ℤ c.args.f) ≤ 2 ^ 68 = subst (λ (z : ℤ). unsigned_abs z ≤ 2 ^ 68) (rate_is c) c.over_timestep.ensures.bound in
    subst P (sym (value c)) (push_bound (c.args.dt *ℤ c.args.f) (pos 2 *ℤ c.args.mass) small (omega (arith, ints)))

fits : (c : goal.After-rdiv) → FitsSigned w64 c.rdiv.result
fits c = fits_signed_from_abs w64 c.rdiv.result (omega (arith, bound c))

same : (c : goal.After-rdiv) → to_z w64 (of_z w64 (to_z w128 (of_z w128 c.rdiv.result))) ≡ c.rdiv.result
same c =
    let wide : FitsSigned w128 c.rdiv.result = search rules in
    ap (λ (z : ℤ). to_z w64 (of_z w64 z)) (to_z-of_z w128 c.rdiv.result wide) ∙ to_z-of_z w64 c.rdiv.result (fits c)

pub overflow_cast-result : goal.overflow_cast-result
overflow_cast-result c =
    let wide : FitsSigned w128 c.rdiv.result = search rules in
    rw to_z-of_z (fits c)

pub returns-clause-is : goal.returns-clause-is
returns-clause-is c = same c ∙ value c

pub returns-clause-bound : goal.returns-clause-bound
returns-clause-bound c = subst (λ (z : ℤ). unsigned_abs z ≤ 2 ^ 53) (sym (same c)) (bound c)
