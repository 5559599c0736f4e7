use Rattle.std.proofs.Common.{◌∙◌, List, All, ap, map, sym, subst}
use Rattle.box_geo.specs.declared.atoms.Atom.{Atom}
use Rattle.computes.specs.Quantities.{IsSlow}
use Rattle.velocity_make.proofs.FastLemmas.{slow_after}
use Rattle.velocity_make.specs.Change.{rest_of}
use Rattle.velocity_make.proofs.ListLemmas.{changed_rest}
use Rattle.velocity_make.proofs.changes.change_all.Goals as goal

pub returns-clause-slow : goal.returns-clause-slow
returns-clause-slow c = λ slow. subst (λ (l : List Atom). All IsSlow l) (sym c.write_all.ensures) (slow_after c.args.ids.now c.args.change.now c.args.atoms.now slow (sym c.in-None.ensures))

pub returns-clause-others : goal.returns-clause-others
returns-clause-others c = ap (map rest_of) c.write_all.ensures ∙ changed_rest c.args.ids.now c.args.change.now c.args.atoms.now
