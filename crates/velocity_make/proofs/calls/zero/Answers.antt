use Rattle.std.proofs.Common.{◌≡◌, ◌∙◌, List, OnOk, ap, subst}
use Rattle.box_geo.specs.declared.atoms.Atom.{Atom}
use Rattle.velocity_make.specs.Make.{answer_of, too_fast}
use Rattle.velocity_make.proofs.ListLemmas.{stilled_is}
use Rattle.velocity_make.proofs.calls.zero.Goals as goal

pub returns-clause-answer : goal.returns-clause-answer
returns-clause-answer c = c.change_all.ensures.answer ∙ ap (λ (l : List Atom). answer_of (too_fast c.args.ids.now l)) (stilled_is c.args.mass.now c.args.ids.now c.args.atoms.now c.mean-u.result c.mean-u.ensures.is)

pub returns-clause-made : goal.returns-clause-made
returns-clause-made c = subst (λ (l : List Atom). OnOk c.change_all.result (c.change_all.new.atoms ≡ l)) (stilled_is c.args.mass.now c.args.ids.now c.args.atoms.now c.mean-u.result c.mean-u.ensures.is) c.change_all.ensures.made
