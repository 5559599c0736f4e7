use Rattle.std.proofs.Common.{◌≡◌, ◌*◌, ◌^◌, ◌<◌, ◌≤◌, ℕ, ℤ, pos, ◌*ℤ◌, false, unsigned_abs, Ok, Some, Result, Option, List, [], ◌∷◌, w64, FitsSigned, rules, arith, sym, ap, subst, ◌∙◌}
use Rattle.std.proofs.lemmas.Int.{to_z-of_z}
use Rattle.fx_num.specs.Rounding.{with_sign, shr_rounded}
use Rattle.box_geo.specs.declared.term.Term.{Term}
use Rattle.box_geo.specs.Sides.{length2}
use Rattle.pair_lj.specs.declared.close.Close.{Close}
use Rattle.box_geo.specs.Terms.{dot}
use Rattle.pair_lj.specs.PairTerm.{inverse_square, sixth_power, twelfth_power, strength, energy_at, force_along, is_too_near}
use Rattle.pair_lj.proofs.Cases.{far, touching, near, near_false, too_strong, moderate, read_abs, read_r2, outside, inside, apart, read_ratio, read_sixth, read_twelfth, read_strength, read_energy, fits_each, short_parts, small_strength, weighted_fits, weighted_moderate, strong_true, strong_false, term_is}
use Rattle.pair_lj.proofs.plain.evaluate_plainly.Goals as goal

pub returns-then-square-r2-clause-is : goal.returns-then-square-r2-clause-is
returns-then-square-r2-clause-is c =
    let a_is : c.unsigned_abs-a.result ≡ unsigned_abs c.args.x = read_abs c.unsigned_abs-a.result c.args.x c.ranges.x c.unsigned_abs-a.ensures.value in
    let b_is : c.unsigned_abs-b.result ≡ unsigned_abs c.args.y = read_abs c.unsigned_abs-b.result c.args.y c.ranges.y c.unsigned_abs-b.ensures.value in
    let c_is : c.unsigned_abs-c.result ≡ unsigned_abs c.args.z = read_abs c.unsigned_abs-c.result c.args.z c.ranges.z c.unsigned_abs-c.ensures.value in
    let d : List ℤ = c.args.x ∷ c.args.y ∷ c.args.z ∷ [] in
    let r2_is : c.distance2-r2.result ≡ length2 d = read_r2 c.distance2-r2.result c.unsigned_abs-a.result c.unsigned_abs-b.result c.unsigned_abs-c.result c.args.x c.args.y c.args.z c.distance2-r2.ensures a_is b_is c_is in
    sym (far c.args.epsilon c.args.sigma c.args.cutoff (pos 0) c.args.weight d (outside c.square.result c.distance2-r2.result c.args.cutoff (length2 d) c.square.ensures.is r2_is c.if-square-r2.true))

pub returns-then-r2-eq0-clause-is : goal.returns-then-r2-eq0-clause-is
returns-then-r2-eq0-clause-is c =
    let a_is : c.unsigned_abs-a.result ≡ unsigned_abs c.args.x = read_abs c.unsigned_abs-a.result c.args.x c.ranges.x c.unsigned_abs-a.ensures.value in
    let b_is : c.unsigned_abs-b.result ≡ unsigned_abs c.args.y = read_abs c.unsigned_abs-b.result c.args.y c.ranges.y c.unsigned_abs-b.ensures.value in
    let c_is : c.unsigned_abs-c.result ≡ unsigned_abs c.args.z = read_abs c.unsigned_abs-c.result c.args.z c.ranges.z c.unsigned_abs-c.ensures.value in
    let d : List ℤ = c.args.x ∷ c.args.y ∷ c.args.z ∷ [] in
    let r2_is : c.distance2-r2.result ≡ length2 d = read_r2 c.distance2-r2.result c.unsigned_abs-a.result c.unsigned_abs-b.result c.unsigned_abs-c.result c.args.x c.args.y c.args.z c.distance2-r2.ensures a_is b_is c_is in
    let within : length2 d < c.args.cutoff * c.args.cutoff = inside c.square.result c.distance2-r2.result c.args.cutoff (length2 d) c.square.ensures.is r2_is c.if-square-r2.false in
    sym (touching c.args.epsilon c.args.sigma c.args.cutoff (pos 0) c.args.weight d within (sym r2_is ∙ c.if-r2-eq0.true))

pub returns-then-w-gt-MAX_SQUARE_RATIO-clause-is : goal.returns-then-w-gt-MAX_SQUARE_RATIO-clause-is
returns-then-w-gt-MAX_SQUARE_RATIO-clause-is c =
    let a_is : c.unsigned_abs-a.result ≡ unsigned_abs c.args.x = read_abs c.unsigned_abs-a.result c.args.x c.ranges.x c.unsigned_abs-a.ensures.value in
    let b_is : c.unsigned_abs-b.result ≡ unsigned_abs c.args.y = read_abs c.unsigned_abs-b.result c.args.y c.ranges.y c.unsigned_abs-b.ensures.value in
    let c_is : c.unsigned_abs-c.result ≡ unsigned_abs c.args.z = read_abs c.unsigned_abs-c.result c.args.z c.ranges.z c.unsigned_abs-c.ensures.value in
    let d : List ℤ = c.args.x ∷ c.args.y ∷ c.args.z ∷ [] in
    let r2_is : c.distance2-r2.result ≡ length2 d = read_r2 c.distance2-r2.result c.unsigned_abs-a.result c.unsigned_abs-b.result c.unsigned_abs-c.result c.args.x c.args.y c.args.z c.distance2-r2.ensures a_is b_is c_is in
    let within : length2 d < c.args.cutoff * c.args.cutoff = inside c.square.result c.distance2-r2.result c.args.cutoff (length2 d) c.square.ensures.is r2_is c.if-square-r2.false in
    let some : 0 < length2 d = apart c.distance2-r2.result (length2 d) r2_is c.if-r2-eq0.false in
    let w_is : c.square_ratio-w.result ≡ inverse_square c.args.sigma (length2 d) = read_ratio c.square_ratio-w.result c.args.sigma c.distance2-r2.result (length2 d) c.square_ratio-w.ensures r2_is in
    sym (near c.args.epsilon c.args.sigma c.args.cutoff (pos 0) c.args.weight d within some (subst (λ (n : ℕ). 2 ^ 36 < n) w_is c.if-w-gt-MAX_SQUARE_RATIO.true))

pub is_too_strong-requires-clause-a : goal.is_too_strong-requires-clause-a
is_too_strong-requires-clause-a c =
    (fits_each c.strength-negative.result.1 c.unsigned_abs-a.result c.unsigned_abs-b.result c.unsigned_abs-c.result c.distance2-r2.result c.distance2-r2.ensures c.strength-negative.ensures.bound).0

pub is_too_strong-requires-clause-b : goal.is_too_strong-requires-clause-b
is_too_strong-requires-clause-b c =
    (fits_each c.strength-negative.result.1 c.unsigned_abs-a.result c.unsigned_abs-b.result c.unsigned_abs-c.result c.distance2-r2.result c.distance2-r2.ensures c.strength-negative.ensures.bound).1

pub is_too_strong-requires-clause-c : goal.is_too_strong-requires-clause-c
is_too_strong-requires-clause-c c =
    (fits_each c.strength-negative.result.1 c.unsigned_abs-a.result c.unsigned_abs-b.result c.unsigned_abs-c.result c.distance2-r2.result c.distance2-r2.ensures c.strength-negative.ensures.bound).2

pub returns-then-is_too_strong-clause-is : goal.returns-then-is_too_strong-clause-is
returns-then-is_too_strong-clause-is c =
    let a_is : c.unsigned_abs-a.result ≡ unsigned_abs c.args.x = read_abs c.unsigned_abs-a.result c.args.x c.ranges.x c.unsigned_abs-a.ensures.value in
    let b_is : c.unsigned_abs-b.result ≡ unsigned_abs c.args.y = read_abs c.unsigned_abs-b.result c.args.y c.ranges.y c.unsigned_abs-b.ensures.value in
    let c_is : c.unsigned_abs-c.result ≡ unsigned_abs c.args.z = read_abs c.unsigned_abs-c.result c.args.z c.ranges.z c.unsigned_abs-c.ensures.value in
    let d : List ℤ = c.args.x ∷ c.args.y ∷ c.args.z ∷ [] in
    let r2_is : c.distance2-r2.result ≡ length2 d = read_r2 c.distance2-r2.result c.unsigned_abs-a.result c.unsigned_abs-b.result c.unsigned_abs-c.result c.args.x c.args.y c.args.z c.distance2-r2.ensures a_is b_is c_is in
    let within : length2 d < c.args.cutoff * c.args.cutoff = inside c.square.result c.distance2-r2.result c.args.cutoff (length2 d) c.square.ensures.is r2_is c.if-square-r2.false in
    let some : 0 < length2 d = apart c.distance2-r2.result (length2 d) r2_is c.if-r2-eq0.false in
    let w_is : c.square_ratio-w.result ≡ inverse_square c.args.sigma (length2 d) = read_ratio c.square_ratio-w.result c.args.sigma c.distance2-r2.result (length2 d) c.square_ratio-w.ensures r2_is in
    let wide : is_too_near c.args.sigma (length2 d) ≡ false = near_false c.args.sigma (length2 d) some (subst (λ (n : ℕ). n ≤ 2 ^ 36) w_is c.if-w-gt-MAX_SQUARE_RATIO.false) in
    let s6_is : c.cube-s6.result ≡ sixth_power c.args.sigma (length2 d) = read_sixth c.cube-s6.result c.square_ratio-w.result c.args.sigma (length2 d) c.cube-s6.ensures.is w_is in
    let s12_is : c.square_of_sixth-s12.result ≡ twelfth_power c.args.sigma (length2 d) = read_twelfth c.square_of_sixth-s12.result c.cube-s6.result c.args.sigma (length2 d) c.square_of_sixth-s12.ensures.is s6_is in
    let v : ℤ = strength c.args.epsilon c.args.sigma (length2 d) in
    let v_is : with_sign c.strength-negative.result.0 c.strength-negative.result.1 ≡ v = read_strength (with_sign c.strength-negative.result.0 c.strength-negative.result.1) c.args.epsilon c.args.sigma c.cube-s6.result c.square_of_sixth-s12.result c.distance2-r2.result (length2 d) c.strength-negative.ensures.is s6_is s12_is r2_is in
    sym (too_strong c.args.epsilon c.args.sigma c.args.cutoff (pos 0) c.args.weight d within wide (strong_true c.strength-negative.result.0 c.strength-negative.result.1 c.unsigned_abs-a.result c.unsigned_abs-b.result c.unsigned_abs-c.result v c.args.x c.args.y c.args.z v_is a_is b_is c_is c.if-is_too_strong.ensures))

pub weighted-requires-clause-size : goal.weighted-requires-clause-size
weighted-requires-clause-size c =
    small_strength c.strength-negative.result.1 c.unsigned_abs-a.result c.unsigned_abs-b.result c.unsigned_abs-c.result c.distance2-r2.result c.distance2-r2.ensures c.if-r2-eq0.false c.if-is_too_strong.ensures

pub term-requires-clause-fits_x : goal.term-requires-clause-fits_x
term-requires-clause-fits_x c =
    weighted_fits c.weighted.result c.strength-negative.result.1 c.unsigned_abs-a.result _ c.weighted.ensures.bound c.unsigned_abs-a.ensures.value (fits_each c.strength-negative.result.1 c.unsigned_abs-a.result c.unsigned_abs-b.result c.unsigned_abs-c.result c.distance2-r2.result c.distance2-r2.ensures c.strength-negative.ensures.bound).0

pub term-requires-clause-fits_y : goal.term-requires-clause-fits_y
term-requires-clause-fits_y c =
    weighted_fits c.weighted.result c.strength-negative.result.1 c.unsigned_abs-b.result _ c.weighted.ensures.bound c.unsigned_abs-b.ensures.value (fits_each c.strength-negative.result.1 c.unsigned_abs-a.result c.unsigned_abs-b.result c.unsigned_abs-c.result c.distance2-r2.result c.distance2-r2.ensures c.strength-negative.ensures.bound).1

pub term-requires-clause-fits_z : goal.term-requires-clause-fits_z
term-requires-clause-fits_z c =
    weighted_fits c.weighted.result c.strength-negative.result.1 c.unsigned_abs-c.result _ c.weighted.ensures.bound c.unsigned_abs-c.ensures.value (fits_each c.strength-negative.result.1 c.unsigned_abs-a.result c.unsigned_abs-b.result c.unsigned_abs-c.result c.distance2-r2.result c.distance2-r2.ensures c.strength-negative.ensures.bound).2

pub term-requires-clause-small_x : goal.term-requires-clause-small_x
term-requires-clause-small_x c =
    weighted_moderate c.weighted.result c.strength-negative.result.1 c.unsigned_abs-a.result _ c.weighted.ensures.bound c.unsigned_abs-a.ensures.value c.if-is_too_strong.ensures.0

pub term-requires-clause-small_y : goal.term-requires-clause-small_y
term-requires-clause-small_y c =
    weighted_moderate c.weighted.result c.strength-negative.result.1 c.unsigned_abs-b.result _ c.weighted.ensures.bound c.unsigned_abs-b.ensures.value c.if-is_too_strong.ensures.1

pub term-requires-clause-small_z : goal.term-requires-clause-small_z
term-requires-clause-small_z c =
    weighted_moderate c.weighted.result c.strength-negative.result.1 c.unsigned_abs-c.result _ c.weighted.ensures.bound c.unsigned_abs-c.ensures.value c.if-is_too_strong.ensures.2

pub term-requires-clause-x : goal.term-requires-clause-x
term-requires-clause-x c =
    let short = short_parts c.unsigned_abs-a.result c.unsigned_abs-b.result c.unsigned_abs-c.result c.distance2-r2.result c.square.result c.args.cutoff c.distance2-r2.ensures c.square.ensures.is c.if-square-r2.false c.requires.cutoff in
    omega (arith, short.0, c.unsigned_abs-a.ensures.value)

pub term-requires-clause-y : goal.term-requires-clause-y
term-requires-clause-y c =
    let short = short_parts c.unsigned_abs-a.result c.unsigned_abs-b.result c.unsigned_abs-c.result c.distance2-r2.result c.square.result c.args.cutoff c.distance2-r2.ensures c.square.ensures.is c.if-square-r2.false c.requires.cutoff in
    omega (arith, short.1, c.unsigned_abs-b.ensures.value)

pub term-requires-clause-z : goal.term-requires-clause-z
term-requires-clause-z c =
    let short = short_parts c.unsigned_abs-a.result c.unsigned_abs-b.result c.unsigned_abs-c.result c.distance2-r2.result c.square.result c.args.cutoff c.distance2-r2.ensures c.square.ensures.is c.if-square-r2.false c.requires.cutoff in
    omega (arith, short.2, c.unsigned_abs-c.ensures.value)

pub returns-clause-is : goal.returns-clause-is
returns-clause-is c =
    let a_is : c.unsigned_abs-a.result ≡ unsigned_abs c.args.x = read_abs c.unsigned_abs-a.result c.args.x c.ranges.x c.unsigned_abs-a.ensures.value in
    let b_is : c.unsigned_abs-b.result ≡ unsigned_abs c.args.y = read_abs c.unsigned_abs-b.result c.args.y c.ranges.y c.unsigned_abs-b.ensures.value in
    let c_is : c.unsigned_abs-c.result ≡ unsigned_abs c.args.z = read_abs c.unsigned_abs-c.result c.args.z c.ranges.z c.unsigned_abs-c.ensures.value in
    let d : List ℤ = c.args.x ∷ c.args.y ∷ c.args.z ∷ [] in
    let r2_is : c.distance2-r2.result ≡ length2 d = read_r2 c.distance2-r2.result c.unsigned_abs-a.result c.unsigned_abs-b.result c.unsigned_abs-c.result c.args.x c.args.y c.args.z c.distance2-r2.ensures a_is b_is c_is in
    let within : length2 d < c.args.cutoff * c.args.cutoff = inside c.square.result c.distance2-r2.result c.args.cutoff (length2 d) c.square.ensures.is r2_is c.if-square-r2.false in
    let some : 0 < length2 d = apart c.distance2-r2.result (length2 d) r2_is c.if-r2-eq0.false in
    let w_is : c.square_ratio-w.result ≡ inverse_square c.args.sigma (length2 d) = read_ratio c.square_ratio-w.result c.args.sigma c.distance2-r2.result (length2 d) c.square_ratio-w.ensures r2_is in
    let wide : is_too_near c.args.sigma (length2 d) ≡ false = near_false c.args.sigma (length2 d) some (subst (λ (n : ℕ). n ≤ 2 ^ 36) w_is c.if-w-gt-MAX_SQUARE_RATIO.false) in
    let s6_is : c.cube-s6.result ≡ sixth_power c.args.sigma (length2 d) = read_sixth c.cube-s6.result c.square_ratio-w.result c.args.sigma (length2 d) c.cube-s6.ensures.is w_is in
    let s12_is : c.square_of_sixth-s12.result ≡ twelfth_power c.args.sigma (length2 d) = read_twelfth c.square_of_sixth-s12.result c.cube-s6.result c.args.sigma (length2 d) c.square_of_sixth-s12.ensures.is s6_is in
    let v : ℤ = strength c.args.epsilon c.args.sigma (length2 d) in
    let v_is : with_sign c.strength-negative.result.0 c.strength-negative.result.1 ≡ v = read_strength (with_sign c.strength-negative.result.0 c.strength-negative.result.1) c.args.epsilon c.args.sigma c.cube-s6.result c.square_of_sixth-s12.result c.distance2-r2.result (length2 d) c.strength-negative.ensures.is s6_is s12_is r2_is in
    let x = c.ranges.x in
    let y = c.ranges.y in
    let z = c.ranges.z in
    let fits : FitsSigned w64 c.energy-energy.result = search rules in
    let f_is : c.term.result.f ≡ force_along (with_sign c.strength-negative.result.0 c.weighted.result) d = simp to_z-of_z at c.term.ensures.force in
    let virial_is : c.term.result.virial ≡ dot d c.term.result.f = simp to_z-of_z at c.term.ensures.virial in
    let e : ℤ = energy_at c.args.epsilon c.args.sigma (length2 d) in
    let e_is : c.term.result.energy ≡ shr_rounded (e *ℤ pos c.args.weight) 24 = c.term.ensures.energy ∙ to_z-of_z w64 c.energy-energy.result fits ∙ read_energy c.energy-energy.result c.args.epsilon c.args.sigma c.cube-s6.result c.square_of_sixth-s12.result (length2 d) c.args.weight c.energy-energy.ensures.is s6_is s12_is in
    let same = term_is c.term.result c.strength-negative.result.0 c.strength-negative.result.1 c.weighted.result c.args.weight v e d f_is e_is virial_is v_is c.weighted.ensures.is in
    let step : Term → Result (Option Term) Close = λ t. Ok (Some t) in
    ap step same ∙ sym (moderate c.args.epsilon c.args.sigma c.args.cutoff (pos 0) c.args.weight d within wide (strong_false c.strength-negative.result.0 c.strength-negative.result.1 c.unsigned_abs-a.result c.unsigned_abs-b.result c.unsigned_abs-c.result v c.args.x c.args.y c.args.z v_is a_is b_is c_is c.if-is_too_strong.ensures))
