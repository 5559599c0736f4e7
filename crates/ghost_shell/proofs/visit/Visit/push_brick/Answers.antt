use Rattle.std.proofs.Common.{get_or, refl}
use Rattle.ghost_shell.specs.Walks.{found_of}
use Rattle.ghost_shell.proofs.WalkLemmas.{found_more}
use Rattle.ghost_shell.proofs.visit.Visit.push_brick.Goals as goal

pub loop-place-preserved : goal.loop-place-preserved
loop-place-preserved c =
    found_more (found_of c.args.self.now) c.args.atoms.now c.args.places.now c.loop-place.place-index (get_or c.args.places.now c.loop-place.place-index 0) _ c.loop-place.ghosts.items c.push_atom.new.ghosts.items _
    c.loop-place-test.true refl (c.requires.places c.loop-place.place-index 0 c.loop-place-test.true) c.in_ok-push_atom.ensures c.loop-place.invariant
