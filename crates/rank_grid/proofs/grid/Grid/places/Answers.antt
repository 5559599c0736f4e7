use Rattle.std.proofs.Common.{rules}
use Rattle.rank_grid.specs.Bricks.{AreCounts}
use Rattle.rank_grid.proofs.RankLemmas.{z_place-below}
use Rattle.rank_grid.proofs.grid.Grid.places.Goals as goal

pub returns-clause-z : goal.returns-clause-z
returns-clause-z c =
    let h : AreCounts c.args.self.now.counts = search rules in
    z_place-below c.args.self.now.counts c.args.rank h c.requires
