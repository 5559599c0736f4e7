use Rattle.std.proofs.Common.{◌∙◌, List, All, ap, map, sym, subst}
use Rattle.box_geo.specs.declared.atoms.Atom.{Atom}
use Rattle.velocity_make.specs.Group.{IsWeighed}
use Rattle.velocity_make.specs.Change.{rest_of}
use Rattle.velocity_make.proofs.ListLemmas.{drawn_rest, drawn_weighed}
use Rattle.velocity_make.proofs.calls.create.Goals as goal

pub finish-requires-clause-masses : goal.finish-requires-clause-masses
finish-requires-clause-masses c =
    subst (λ (l : List Atom). All (IsWeighed c.args.mass.now c.args.ids.now) l) (sym (c.deref_mut.ensures.value ∙ c.in-Ok.ensures.is))
    (drawn_weighed c.args.mass.now c.args.dim c.args.ids.now c.args.drawing.seed c.args.atoms.now c.requires.masses)

pub returns-in-Ok-clause-others : goal.returns-in-Ok-clause-others
returns-in-Ok-clause-others c =
    c.finish.ensures.others
    (ap (map rest_of) (c.deref_mut.ensures.value ∙ c.in-Ok.ensures.is) ∙ drawn_rest c.args.mass.now c.args.dim c.args.ids.now c.args.drawing.seed c.args.atoms.now)
