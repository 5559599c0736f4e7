use Rattle.std.proofs.Common.{◌≡◌, ◌∙◌, List, OnOk, to_z, of_z, w64, ap, subst}
use Rattle.std.proofs.lemmas.Int.{to_z-of_z}
use Rattle.box_geo.specs.declared.atoms.Atom.{Atom}
use Rattle.velocity_make.specs.Make.{answer_of, too_fast}
use Rattle.velocity_make.proofs.ListLemmas.{scaled_is}
use Rattle.velocity_make.proofs.calls.scale.Goals as goal

pub returns-clause-answer : goal.returns-clause-answer
returns-clause-answer c = c.change_all.ensures.answer ∙ ap (λ (l : List Atom). answer_of (too_fast c.args.ids.now l)) (scaled_is c.args.mass.now c.args.dim c.args.ids.now c.args.temperature (to_z w64 (of_z w64 c.args.temperature)) c.args.atoms.now c.scaling_to-change.result (to_z-of_z w64 c.args.temperature c.ranges.temperature) c.scaling_to-change.ensures.is)

pub returns-clause-made : goal.returns-clause-made
returns-clause-made c = subst (λ (l : List Atom). OnOk c.change_all.result (c.change_all.new.atoms ≡ l)) (scaled_is c.args.mass.now c.args.dim c.args.ids.now c.args.temperature (to_z w64 (of_z w64 c.args.temperature)) c.args.atoms.now c.scaling_to-change.result (to_z-of_z w64 c.args.temperature c.ranges.temperature) c.scaling_to-change.ensures.is) c.change_all.ensures.made
