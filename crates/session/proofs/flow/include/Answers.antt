use Rattle.std.proofs.Common.{◌≡◌, true, List, length, rules, subst, sym}
use Rattle.std.specs.Prelude.{nat_lt}
use Rattle.box_geo.specs.declared.limits.TheConstants.{MAX_INCLUDES}
use Rattle.control_flow.specs.Flow.{included}
use Rattle.meaning.specs.Flow.{Moved, script_fetched}
use Rattle.meaning.specs.Sends.{RefusesWith}
use Rattle.outside.specs.declared.files.File.{File}
use Rattle.session.proofs.StopLemmas.{include_is, led_refuses}
use Rattle.session.proofs.flow.include.Goals as goal

pub returns-in-Err-clause-turns : goal.returns-in-Err-clause-turns
returns-in-Err-clause-turns g c =
    λ (files : List File) told.
    let fits : nat_lt (length c.args.progress.now.flow.outer) MAX_INCLUDES ≡ true = search rules in
    subst (λ (m : Moved). RefusesWith c.in-Err.why m.outcome c.use_script.new.settings) (sym (include_is files c.args.name c.args.settings.now c.args.progress.now fits))
    (led_refuses (included c.args.progress.now.flow c.args.name) c.args.progress.now (script_fetched files c.args.name c.args.settings.now) c.in-Err.why c.use_script.new.settings (c.in-Err.ensures.told files told))
