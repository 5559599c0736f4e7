use Rattle.std.proofs.Common.{◌≡◌, ◌≤◌, ◌^◌, unsigned_abs, ap, ◌∙◌}
use Rattle.std.proofs.lemmas.Int.{to_z-of_z}
use Rattle.std.proofs.Common.{w64}
use Rattle.bonded.proofs.LengthLemmas.{in_reach, parts_small, reach_small, root_small}
use Rattle.bonded.proofs.lengths.length_of.Goals as goal

pub returns-clause-is : goal.returns-clause-is
returns-clause-is c =
    let most_is : c.from-most.result ≡ unsigned_abs c.args.rcmax = c.from-most.ensures ∙ c.unsigned_abs.ensures.value ∙ ap unsigned_abs (to_z-of_z w64 c.args.rcmax c.ranges.rcmax) in
    in_reach c.args.rcmax c.args.d.now c.length2-r2.result c.from-most.result c.rsqrt.result c.length2-r2.ensures.is most_is c.if-r2-eq0.false c.if-r2-most.false c.rsqrt.ensures.is

pub returns-clause-high : goal.returns-clause-high
returns-clause-high c =
    let most_is : c.from-most.result ≡ unsigned_abs c.args.rcmax = c.from-most.ensures ∙ c.unsigned_abs.ensures.value ∙ ap unsigned_abs (to_z-of_z w64 c.args.rcmax c.ranges.rcmax) in
    let short : c.from-most.result ≤ 2 ^ 28 = reach_small c.from-most.result c.args.rcmax most_is c.requires.reach in
    root_small c.length2-r2.result c.from-most.result c.rsqrt.result c.rsqrt.ensures.nearest c.if-r2-eq0.false c.if-r2-most.false short

pub returns-clause-parts : goal.returns-clause-parts
returns-clause-parts c =
    let most_is : c.from-most.result ≡ unsigned_abs c.args.rcmax = c.from-most.ensures ∙ c.unsigned_abs.ensures.value ∙ ap unsigned_abs (to_z-of_z w64 c.args.rcmax c.ranges.rcmax) in
    let short : c.from-most.result ≤ 2 ^ 28 = reach_small c.from-most.result c.args.rcmax most_is c.requires.reach in
    parts_small c.args.d.now c.length2-r2.result c.from-most.result c.length2-r2.ensures.is c.if-r2-most.false short
