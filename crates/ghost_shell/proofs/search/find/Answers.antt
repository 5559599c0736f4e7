use Rattle.std.proofs.Common.{◌<◌, ℕ, List, FitsSigned, w64, refl, rules, arith}
use Rattle.std.proofs.lemmas.Int.{to_z-of_z}
use Rattle.rank_grid.specs.Bricks.{AreCounts, ranks}
use Rattle.ghost_shell.specs.declared.atom.Ghost.{Ghost}
use Rattle.ghost_shell.specs.Halos.{IsHalo}
use Rattle.ghost_shell.specs.Walks.{ghosts_from}
use Rattle.ghost_shell.proofs.WalkLemmas.{walk_end, walk_more}
use Rattle.ghost_shell.proofs.ShellLemmas.{shell_is}
use Rattle.ghost_shell.proofs.search.find.Goals as goal

pub loop-other-preserved : goal.loop-other-preserved
loop-other-preserved c =
    let lt : c.loop-other.other < ranks c.args.grid.now.counts = omega (arith, c.loop-other-test.true, c.ranks-other-end.ensures.is) in
    let f : ℕ → List Ghost = ghosts_from c.args.grid.now.counts c.args.grid.now.cell.sides c.args.atoms.now c.of.result c.args.rank in
    walk_more f (ranks c.args.grid.now.counts) c.loop-other.other c.loop-other.ghosts.items c.push_from.new.ghosts.items _ (f c.loop-other.other) lt refl c.in_ok-push_from.ensures c.loop-other.invariant

pub returns : goal.returns
returns c =
    let h : AreCounts c.args.grid.now.counts = search rules in
    let r : FitsSigned w64 c.args.reach = c.ranges.reach in
    let halo : IsHalo c.args.grid.now.counts c.args.grid.now.cell.sides c.args.rank c.args.reach c.of.result = simp to_z-of_z at c.of.ensures in
    let f : ℕ → List Ghost = ghosts_from c.args.grid.now.counts c.args.grid.now.cell.sides c.args.atoms.now c.of.result c.args.rank in
    shell_is c.args.grid.now.counts c.args.grid.now.cell.sides c.args.atoms.now c.args.rank c.args.reach c.of.result c.loop-other.ghosts.items h c.requires.inside halo
    (walk_end f (ranks c.args.grid.now.counts) c.loop-other.other c.loop-other.ghosts.items _ (omega (arith, c.loop-other-test.false, c.ranks-other-end.ensures.is)) c.loop-other.invariant)
