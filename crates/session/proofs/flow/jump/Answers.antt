use Rattle.std.proofs.Common.{◌≡◌, ◌∙◌, List, subst, sym}
use Rattle.meaning.specs.Flow.{Moved, into_file, script_fetched}
use Rattle.meaning.specs.Sends.{RefusesWith}
use Rattle.outside.specs.declared.files.File.{File}
use Rattle.session.proofs.StopLemmas.{jump_is, led_refuses}
use Rattle.session.proofs.flow.jump.Goals as goal

pub returns-in-Err-clause-turns : goal.returns-in-Err-clause-turns
returns-in-Err-clause-turns g c =
    λ (files : List File) told.
    subst (λ (m : Moved). RefusesWith c.in-Err.why m.outcome c.use_script.new.settings) (sym (jump_is files c.args.to c.in-Some.name c.args.settings.now c.args.progress.now (sym c.skips.ensures ∙ c.if-skips.false) c.in-Some.is))
    (led_refuses (into_file c.args.progress.now.flow c.args.to.label c.in-Some.name) c.args.progress.now (script_fetched files c.in-Some.name c.args.settings.now) c.in-Err.why c.use_script.new.settings (c.in-Err.ensures.told files told))
