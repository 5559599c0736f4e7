use Rattle.std.proofs.Common.{ap, sym, ◌∙◌}
use Rattle.std.proofs.lemmas.Bool.{false≢true}
use Rattle.meaning.specs.declared.uses.UseKind.TheVariants.{Put}
use Rattle.session.proofs.FileLemmas.{name_blames_none}
use Rattle.session.proofs.WriteLemmas.{boxless_does, named_does}
use Rattle.session.proofs.system_files.write_data.Goals as goal

-- the name is refused
pub returns-in-Some-clause-does : goal.returns-in-Some-clause-does
returns-in-Some-clause-does g c = named_does c.args.name.now c.args.settings.now c.in-Some.code _ (sym c.refusal_of.ensures ∙ c.in-Some.is)

pub returns-in-Some-clause-cause : goal.returns-in-Some-clause-cause
returns-in-Some-clause-cause g c =
    λ absent. absurd (false≢true (sym (name_blames_none Put c.args.name.now c.args.settings.now.output.uses c.in-Some.code (sym c.refusal_of.ensures ∙ c.in-Some.is)) ∙ absent))

-- there is no box
pub returns-in_default-body-clause-does : goal.returns-in_default-body-clause-does
returns-in_default-body-clause-does g c = boxless_does c.args.name.now c.args.settings.now _ (sym c.refusal_of.ensures ∙ c.in_default.is) c.in_default-body.is
