use Rattle.std.proofs.Common.{slice_index_or, pos, FitsSigned, w64, rules, arith}
use Rattle.std.proofs.lemmas.Int.{to_z-of_z}
use Rattle.rank_grid.specs.Bricks.{AreCounts}
use Rattle.rank_grid.proofs.RankLemmas.{few_counts, rank_fits, owner_from}
use Rattle.rank_grid.proofs.grid.Grid.owner.Goals as goal

pub place_along-j-requires-clause-few : goal.place_along-j-requires-clause-few
place_along-j-requires-clause-few c =
    let h : AreCounts c.args.self.now.counts = search rules in
    (few_counts c.args.self.now.counts h).1

pub overflow_mul-result : goal.overflow_mul-result
overflow_mul-result c =
    let h : AreCounts c.args.self.now.counts = search rules in
    let fits = rank_fits _ _ _ _ _ _ 512 c.place_along-i.ensures.bound c.place_along-j.ensures.bound c.place_along-k.ensures.bound h.3 in
    omega arith

pub overflow_add-result : goal.overflow_add-result
overflow_add-result c =
    let h : AreCounts c.args.self.now.counts = search rules in
    let fits = rank_fits _ _ _ _ _ _ 512 c.place_along-i.ensures.bound c.place_along-j.ensures.bound c.place_along-k.ensures.bound h.3 in
    omega arith

pub overflow_mul-result-2 : goal.overflow_mul-result-2
overflow_mul-result-2 c =
    let h : AreCounts c.args.self.now.counts = search rules in
    let fits = rank_fits _ _ _ _ _ _ 512 c.place_along-i.ensures.bound c.place_along-j.ensures.bound c.place_along-k.ensures.bound h.3 in
    omega arith

pub overflow_add-result-2 : goal.overflow_add-result-2
overflow_add-result-2 c =
    let h : AreCounts c.args.self.now.counts = search rules in
    let fits = rank_fits _ _ _ _ _ _ 512 c.place_along-i.ensures.bound c.place_along-j.ensures.bound c.place_along-k.ensures.bound h.3 in
    omega arith

pub returns-clause-is : goal.returns-clause-is
returns-clause-is c =
    let x : FitsSigned w64 (slice_index_or c.args.x 0 (pos 0)) = search rules in
    let y : FitsSigned w64 (slice_index_or c.args.x 1 (pos 0)) = search rules in
    let z : FitsSigned w64 (slice_index_or c.args.x 2 (pos 0)) = search rules in
    owner_from c.args.self.now.counts c.args.self.now.cell.sides c.args.x c.place_along-i.result c.place_along-j.result c.place_along-k.result
    (simp to_z-of_z at c.place_along-i.ensures.is) (simp to_z-of_z at c.place_along-j.ensures.is) (simp to_z-of_z at c.place_along-k.ensures.is)
