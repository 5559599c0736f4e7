use Rattle.std.proofs.Common.{◌≡◌, ◌∙◌, sym, List, None, false}
use Rattle.std.specs.Prelude.{is_some}
use Rattle.std.proofs.lemmas.Bool.{false≢true}
use Rattle.meaning.specs.declared.uses.UseKind.TheVariants.{Fetched}
use Rattle.meaning.specs.SystemFiles.{read_data}
use Rattle.meaning.specs.Uses.{code_in, names}
use Rattle.outside.specs.declared.files.File.{File}
use Rattle.session.proofs.FileLemmas.{changes_from, name_blames_none, read_done, read_silent, read_unfetched, read_untaken}
use Rattle.session.proofs.system_files.read_data.Goals as goal

pub returns-in-Some-clause-cause : goal.returns-in-Some-clause-cause
returns-in-Some-clause-cause g c = λ absent. absurd (false≢true (sym (name_blames_none Fetched c.args.name.now c.args.settings.now.output.uses c.in-Some.code (sym c.refusal_of.ensures ∙ c.in-Some.is)) ∙ absent))

pub returns-in_err-text-clause-changes : goal.returns-in_err-text-clause-changes
returns-in_err-text-clause-changes g c =
    λ (files : List File) told.
    let good : code_in (names Fetched c.args.name.now c.args.settings.now.output.uses) ≡ None = sym c.refusal_of.ensures ∙ c.in_default.is in
    let fresh : is_some c.args.settings.now.body ≡ false = sym c.is_some.ensures ∙ c.if-is_some.false in
    changes_from c.from_residual.result c.in_err-text.field-0.0 (read_data files c.args.name.now c.args.settings.now) c.args.settings.now c.from_residual.ensures.0 c.from_residual.ensures.1
    (read_unfetched files c.args.name.now c.args.settings.now c.in_err-text.field-0.0 good fresh (c.in_err-text.ensures.told files told))

pub returns-in-Err-clause-changes : goal.returns-in-Err-clause-changes
returns-in-Err-clause-changes g c =
    λ (files : List File) told.
    let good : code_in (names Fetched c.args.name.now c.args.settings.now.output.uses) ≡ None = sym c.refusal_of.ensures ∙ c.in_default.is in
    let fresh : is_some c.args.settings.now.body ≡ false = sym c.is_some.ensures ∙ c.if-is_some.false in
    read_untaken files c.args.name.now c.in_ok-text.text c.args.settings.now c.in-Err.why c.take_text.new.settings good fresh (c.in_ok-text.ensures.told files told) c.in-Err.ensures.changes

pub returns-in-Ok-add-clause-changes : goal.returns-in-Ok-add-clause-changes
returns-in-Ok-add-clause-changes g c =
    λ (files : List File) told.
    let fresh : is_some c.args.settings.now.body ≡ false = sym c.is_some.ensures ∙ c.if-is_some.false in
    read_done files c.args.name.now c.in_ok-text.text c.args.settings.now c.take_text.new.settings c.add.new.self fresh (c.in_ok-text.ensures.told files told) c.in-Ok.ensures.changes c.in-Ok-add.ensures

pub returns-clause-changes : goal.returns-clause-changes
returns-clause-changes g c =
    λ (files : List File) told.
    let good : code_in (names Fetched c.args.name.now c.args.settings.now.output.uses) ≡ None = sym c.refusal_of.ensures ∙ c.in_default.is in
    let fresh : is_some c.args.settings.now.body ≡ false = sym c.is_some.ensures ∙ c.if-is_some.false in
    read_silent files c.args.name.now c.args.settings.now good fresh
