use Rattle.std.proofs.Common.{◌≡◌, ◌++◌, ◌-◌, flat_map}
use Rattle.std.specs.List.{range_with_len}
use Rattle.rank_grid.specs.Bricks.{ranks}
use Rattle.ghost_shell.specs.Walks.{ghosts_from}
use Rattle.ghost_shell.proofs.search.find.Given as goal

abbrev pub invariant-loop-other : goal.invariant-loop-other
invariant-loop-other l =
    l.ghosts.items ++ flat_map (ghosts_from l.grid.counts l.grid.cell.sides l.atoms l.search.halo l.search.rank) (range_with_len l.other (ranks l.grid.counts - l.other))
    ≡ flat_map (ghosts_from l.grid.counts l.grid.cell.sides l.atoms l.search.halo l.search.rank) (range_with_len 0 (ranks l.grid.counts))
