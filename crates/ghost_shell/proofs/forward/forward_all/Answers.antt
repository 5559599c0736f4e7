use Rattle.std.proofs.Common.{◌∙◌, ap, subst, sym}
use Rattle.ghost_shell.specs.declared.atom.Ghost.{Ghost}
use Rattle.ghost_shell.specs.Ghosts.{IsGhostOf, IsSoundGhost, forwarded}
use Rattle.ghost_shell.proofs.ForwardLemmas.{mapped_more, untouched}
use Rattle.ghost_shell.proofs.forward.forward_all.Goals as goal

pub follow-requires-clause-atom : goal.follow-requires-clause-atom
follow-requires-clause-atom c =
    subst (IsGhostOf c.args.atoms.now) (sym (untouched (forwarded c.args.cell.now.sides c.args.atoms.now) c.args.ghosts.now c.loop-image.ghosts c.loop-image.image-index _ c.loop-image-test.true c.loop-image.invariant))
    (c.requires.atoms c.loop-image.image-index _ c.loop-image-test.true)

pub follow-requires-clause-sound : goal.follow-requires-clause-sound
follow-requires-clause-sound c =
    subst (IsSoundGhost c.args.cell.now.sides) (sym (untouched (forwarded c.args.cell.now.sides c.args.atoms.now) c.args.ghosts.now c.loop-image.ghosts c.loop-image.image-index _ c.loop-image-test.true c.loop-image.invariant))
    (c.requires.sound c.loop-image.image-index _ c.loop-image-test.true)

pub loop-image-preserved : goal.loop-image-preserved
loop-image-preserved c =
    let f : Ghost → Ghost = forwarded c.args.cell.now.sides c.args.atoms.now in
    mapped_more f c.args.ghosts.now c.loop-image.ghosts c.loop-image.image-index _ c.loop-image-test.true c.loop-image.invariant c.follow.new.image
    (c.follow.ensures ∙ ap f (untouched f c.args.ghosts.now c.loop-image.ghosts c.loop-image.image-index _ c.loop-image-test.true c.loop-image.invariant))
