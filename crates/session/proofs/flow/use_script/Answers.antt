use Rattle.std.proofs.Common.{◌≡◌, ◌∙◌, List, Result, Ok, ap, refl, subst, sym}
use Rattle.meaning.specs.Flow.{Fetch, fetch_by}
use Rattle.meaning.specs.Output.{with_uses}
use Rattle.outside.specs.declared.files.File.{File}
use Rattle.session.specs.Stops.{Fetches}
use Rattle.session.proofs.StopLemmas.{fetched_by}
use Rattle.session.proofs.flow.use_script.Goals as goal

pub returns-in-Ok-clause-told : goal.returns-in-Ok-clause-told
returns-in-Ok-clause-told g c =
    λ (files : List File) told.
    subst (λ (m : Fetch). Fetches m c.fetch_script.result (with_uses c.args.settings.now c.add.new.self)) (sym (ap (fetch_by files c.args.name.now c.args.settings.now) c.in-Ok.ensures))
    (fetched_by (fetch_by files c.args.name.now c.args.settings.now (Ok c.add.new.self)) c.fetch_script.result (with_uses c.args.settings.now c.add.new.self) (c.fetch_script.ensures.told files told) refl)
