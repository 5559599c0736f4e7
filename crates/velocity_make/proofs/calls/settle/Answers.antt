use Rattle.std.proofs.Common.{◌∙◌, List, All, ap, map, sym, subst, rules}
use Rattle.box_geo.specs.declared.atoms.Atom.{Atom}
use Rattle.computes.specs.Quantities.{IsSlow}
use Rattle.velocity_make.specs.Group.{IsWeighed}
use Rattle.velocity_make.specs.Change.{rest_of}
use Rattle.velocity_make.proofs.ListLemmas.{settled_moving, settled_still, stilled_rest, stilled_weighed}
use Rattle.velocity_make.proofs.StillLemmas.{still_slow}
use Rattle.velocity_make.proofs.calls.settle.Goals as goal

pub returns-clause-masses : goal.returns-clause-masses
returns-clause-masses c = subst (λ (l : List Atom). All (IsWeighed c.args.mass.now c.args.ids.now) l) (sym c.still.ensures) (stilled_weighed c.args.mass.now c.args.ids.now c.args.draws.now c.requires.masses)

pub returns-clause-slow : goal.returns-clause-slow
returns-clause-slow c = subst (λ (l : List Atom). All IsSlow l) (sym c.still.ensures) (still_slow c.args.mass.now c.args.ids.now c.args.draws.now c.requires.masses c.requires.calm)

pub returns-clause-others : goal.returns-clause-others
returns-clause-others c = ap (map rest_of) c.still.ensures ∙ stilled_rest c.args.mass.now c.args.ids.now c.args.draws.now

pub returns-then-not-is_still-clause-is : goal.returns-then-not-is_still-clause-is
returns-then-not-is_still-clause-is c = settled_moving c.args.mass.now c.args.ids.now c.args.is_still c.args.draws.now (search rules)

pub returns-clause-is : goal.returns-clause-is
returns-clause-is c = c.still.ensures ∙ settled_still c.args.mass.now c.args.ids.now c.args.is_still c.args.draws.now (search rules)
