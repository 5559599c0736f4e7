use Rattle.std.proofs.Common.{◌≡◌, ◌≤◌, ◌^◌, ◌∙◌, ap, sym, subst, rules, arith, ℤ, ◌*ℤ◌, unsigned_abs, FitsSigned, w64, to_z, of_z}
use Rattle.std.proofs.lemmas.Int.{ints, to_z-of_z, fits_signed_from_abs}
use Rattle.fx_num.specs.Rounding.{shr_rounded}
use Rattle.step_engine.proofs.MotionLemmas.{path_bound, timestep_bound}
use Rattle.step_engine.proofs.motion.path_along.Goals as goal
use mir.Syntax.{w128}

value : (c : goal.After-rsh) → c.rsh.result ≡ shr_rounded (c.args.dt *ℤ c.args.v) 24
value c =
    let p : FitsSigned w128 c.over_timestep.result = search rules in
    let dt : FitsSigned w64 c.args.dt = c.ranges.dt in
    let v : FitsSigned w64 c.args.v = c.ranges.v in
    let path_is : c.over_timestep.result ≡ c.args.dt *ℤ c.args.v = simp to_z-of_z at c.over_timestep.ensures.is in
    c.rsh.ensures.is ∙ ap (λ (z : ℤ). shr_rounded z 24) (to_z-of_z w128 c.over_timestep.result p ∙ path_is)

bound : (c : goal.After-rsh) → unsigned_abs c.rsh.result ≤ 2 ^ 32
bound c =
    let P : ℤ → Type 0 = λ z. unsigned_abs z ≤ 2 ^ 32 in
    let dt : unsigned_abs c.args.dt ≤ 2 ^ 24 = omega (arith, ints) in
    let small : unsigned_abs (c.args.dt *ℤ c.args.v) ≤ 2 ^ 56 = omega (arith, timestep_bound c.args.dt c.args.v dt) in
    subst P (sym (value c)) (path_bound (c.args.dt *ℤ c.args.v) small)

fits : (c : goal.After-rsh) → FitsSigned w64 c.rsh.result
fits c = fits_signed_from_abs w64 c.rsh.result (omega (arith, bound c))

same : (c : goal.After-rsh) → to_z w64 (of_z w64 (to_z w128 (of_z w128 c.rsh.result))) ≡ c.rsh.result
same c =
    let wide : FitsSigned w128 c.rsh.result = search rules in
    ap (λ (z : ℤ). to_z w64 (of_z w64 z)) (to_z-of_z w128 c.rsh.result wide) ∙ to_z-of_z w64 c.rsh.result (fits c)

pub overflow_cast-result : goal.overflow_cast-result
overflow_cast-result c =
    let wide : FitsSigned w128 c.rsh.result = search rules in
    rw to_z-of_z (fits c)

pub returns-clause-is : goal.returns-clause-is
returns-clause-is c = same c ∙ value c

pub returns-clause-bound : goal.returns-clause-bound
returns-clause-bound c = subst (λ (z : ℤ). unsigned_abs z ≤ 2 ^ 32) (sym (same c)) (bound c)
