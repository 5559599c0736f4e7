use Rattle.std.proofs.Common.{IsPermutation, rules}
use Rattle.box_geo.specs.Sides.{IsSound}
use Rattle.ghost_shell.specs.Ghosts.{ghosts}
use Rattle.ghost_shell.proofs.ShellLemmas.{ghosts_sound, stand_at_atoms}
use Rattle.ghost_shell.proofs.search.shell.Goals as goal

pub returns-clause-atoms : goal.returns-clause-atoms
returns-clause-atoms c =
    let p : IsPermutation (ghosts c.args.grid.now.counts c.args.grid.now.cell.sides c.args.rank c.args.reach c.args.atoms.now) c.in_ok-ghosts.ghosts.items = search rules in
    stand_at_atoms c.args.grid.now.counts c.args.grid.now.cell.sides c.args.rank c.args.reach c.args.atoms.now c.in_ok-ghosts.ghosts.items p

pub invariant_of-result : goal.invariant_of-result
invariant_of-result c =
    let s : IsSound c.args.grid.now.cell.sides = search rules in
    let p : IsPermutation (ghosts c.args.grid.now.counts c.args.grid.now.cell.sides c.args.rank c.args.reach c.args.atoms.now) c.in_ok-ghosts.ghosts.items = search rules in
    record { sound = ghosts_sound c.args.grid.now.counts c.args.grid.now.cell.sides c.args.rank c.args.reach c.args.atoms.now c.in_ok-ghosts.ghosts.items s c.requires.inside p }
