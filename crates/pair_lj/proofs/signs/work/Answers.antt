use Rattle.std.proofs.lemmas.Int.{to_z-of_z}
use Rattle.pair_lj.proofs.SignLemmas.{sum_fits, sum_is, sum_small}
use Rattle.pair_lj.proofs.signs.work.Goals as goal

pub overflow_add-result-2 : goal.overflow_add-result-2
overflow_add-result-2 c = sum_fits c.work_along.result c.work_along-2.result c.work_along-3.result c.work_along.ensures.bound c.work_along-2.ensures.bound c.work_along-3.ensures.bound

pub returns-clause-is : goal.returns-clause-is
returns-clause-is c =
    let x = c.ranges.x in
    let y = c.ranges.y in
    let z = c.ranges.z in
    let f = c.ranges.f in
    let g = c.ranges.g in
    let h = c.ranges.h in
    sum_is c.work_along.result c.work_along-2.result c.work_along-3.result _ _ _ c.work_along.ensures.bound c.work_along-2.ensures.bound c.work_along-3.ensures.bound
    (simp to_z-of_z at c.work_along.ensures.is) (simp to_z-of_z at c.work_along-2.ensures.is) (simp to_z-of_z at c.work_along-3.ensures.is)

pub returns-clause-bound : goal.returns-clause-bound
returns-clause-bound c = sum_small c.work_along.result c.work_along-2.result c.work_along-3.result c.work_along.ensures.bound c.work_along-2.ensures.bound c.work_along-3.ensures.bound
