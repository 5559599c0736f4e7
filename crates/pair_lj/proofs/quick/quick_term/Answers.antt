use Rattle.std.proofs.Common.{◌≡◌, ℤ, unsigned_abs, List, [], ◌∷◌, w64, FitsSigned, rules, refl, ◌∙◌}
use Rattle.std.proofs.lemmas.Int.{to_z-of_z}
use Rattle.fx_num.specs.Rounding.{with_sign}
use Rattle.box_geo.specs.Sides.{length2}
use Rattle.box_geo.specs.Terms.{dot}
use Rattle.pair_lj.specs.PairTerm.{force_along}
use Rattle.pair_lj.proofs.Cases.{read_abs}
use Rattle.pair_lj.proofs.QuickLemmas.{quick, powers, ArePowers}
use Rattle.pair_lj.proofs.quick.quick_term.Goals as goal

pub returns-clause-is : goal.returns-clause-is
returns-clause-is c =
    let d : List ℤ = c.args.x ∷ c.args.y ∷ c.args.z ∷ [] in
    let p : ArePowers c.args.k.sigma (length2 d) c.args.guess.ratio c.args.guess.sixth c.args.guess.twelfth = powers c.args.k.sigma c.args.r2 (length2 d) c.args.guess.ratio c.args.guess.sixth c.args.guess.twelfth c.requires.r2 (c.if-not-is_ratio.ensures.apart refl) (c.if-not-is_ratio.ensures.is refl) c.args.guess.low c.args.guess.sixth_is c.args.guess.twelfth_is in
    let a_is : c.unsigned_abs.result ≡ unsigned_abs c.args.x = read_abs c.unsigned_abs.result c.args.x c.ranges.x c.unsigned_abs.ensures.value in
    let b_is : c.unsigned_abs-2.result ≡ unsigned_abs c.args.y = read_abs c.unsigned_abs-2.result c.args.y c.ranges.y c.unsigned_abs-2.ensures.value in
    let c_is : c.unsigned_abs-3.result ≡ unsigned_abs c.args.z = read_abs c.unsigned_abs-3.result c.args.z c.ranges.z c.unsigned_abs-3.ensures.value in
    let x = c.ranges.x in
    let y = c.ranges.y in
    let z = c.ranges.z in
    let fits : FitsSigned w64 c.whole_energy-energy.result = search rules in
    let f_is : c.term.result.f ≡ force_along (with_sign c.difference-negative.result.0 c.args.guess.strength) d = simp to_z-of_z at c.term.ensures.force in
    let virial_is : c.term.result.virial ≡ dot d c.term.result.f = simp to_z-of_z at c.term.ensures.virial in
    let energy_is : c.term.result.energy ≡ c.whole_energy-energy.result = c.term.ensures.energy ∙ to_z-of_z w64 c.whole_energy-energy.result fits in
    quick c.term.result c.difference-negative.result.0 c.args.k.epsilon c.args.k.sigma c.args.k.cutoff c.args.r2 c.args.guess.ratio c.args.guess.sixth c.args.guess.twelfth c.difference-negative.result.1 c.args.guess.strength c.unsigned_abs.result c.unsigned_abs-2.result c.unsigned_abs-3.result c.whole_energy-energy.result c.args.x c.args.y c.args.z c.requires.r2 c.requires.near p c.difference-negative.ensures.is (c.if-not-is_strength.ensures refl) a_is b_is c_is (c.if-not-is_mild.ensures refl) f_is virial_is energy_is c.whole_energy-energy.ensures.is
