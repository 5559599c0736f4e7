use Rattle.std.proofs.Common.{◌∙◌, set, ap, arith}
use Rattle.std.proofs.lemmas.List.{get_or_default}
use Rattle.std.proofs.lemmas.List.Edits.{map_over_more}
use Rattle.box_geo.specs.declared.atoms.Atom.{Atom}
use Rattle.velocity_make.specs.Change.{changed}
use Rattle.velocity_make.proofs.changes.write_all.Goals as goal

pub loop-atom-preserved : goal.loop-atom-preserved
loop-atom-preserved c =
    ap (λ (y : Atom). set c.loop-atom.atoms c.loop-atom.atom-index y) c.changed.ensures
    ∙ map_over_more (changed c.args.ids.now c.args.change.now) c.args.atoms.now c.loop-atom.atoms c.loop-atom.atom-index _ c.loop-atom-test.true c.loop-atom.invariant (get_or_default c.loop-atom.atoms c.loop-atom.atom-index _ _ (omega arith))
