use Rattle.std.proofs.Common.{◌≡◌, List, Ok, Err, ap, refl, rules, subst, sym}
use Rattle.command_words.specs.declared.command.Command.{Command}
use Rattle.meaning.specs.declared.going.Going.{Going}
use Rattle.meaning.specs.Commands.{outcome_of}
use Rattle.meaning.specs.Flow.{Moved, if_holds, include, jump, moved, next, stays}
use Rattle.outside.specs.declared.files.File.{File}
use Rattle.session.specs.declared.stops.Stop.TheVariants as stop
use Rattle.session.specs.Stops.{Moves, MovesCounted}
use Rattle.session.proofs.MoveLemmas.{IsPlain, executed_counted, executed_moves, led_rests, moved_plain, rests_script, stopped_counted, stopped_moves, turns_moves}
use Rattle.session.proofs.StopLemmas.{idle_causes}
use Rattle.session.proofs.line.run_command.Goals as goal

pub returns-in-Next-clause-does : goal.returns-in-Next-clause-does
returns-in-Next-clause-does g c =
    λ (files : List File) told.
    rw (c.in-Next.is, c.led.ensures) (turns_moves (next c.in-Next.variables c.args.settings.now c.args.progress.now) c.next.result (g.P.Press.seen c.args.press.now).sent c.next.new.settings c.next.new.progress c.next.ensures.turns)

pub returns-in-Next-clause-cause : goal.returns-in-Next-clause-cause
returns-in-Next-clause-cause g c = rw c.led.ensures (led_rests c.next.result _ _ (idle_causes c.next.result _ _ c.next.ensures.idle))

pub returns-in-Jump-clause-does : goal.returns-in-Jump-clause-does
returns-in-Jump-clause-does g c =
    λ (files : List File) told.
    rw (c.in-Jump.is, c.led-in-Jump.ensures) (turns_moves (jump files c.in-Jump.to c.args.settings.now c.args.progress.now) c.jump.result (g.P.Press.seen c.args.press.now).sent c.jump.new.settings c.jump.new.progress (c.jump.ensures.turns files told))

pub returns-in-Include-clause-does : goal.returns-in-Include-clause-does
returns-in-Include-clause-does g c =
    λ (files : List File) told.
    rw (c.in-Include.is, c.led-in-Include.ensures) (turns_moves (include files c.in-Include.name c.args.settings.now c.args.progress.now) c.include.result (g.P.Press.seen c.args.press.now).sent c.include.new.settings c.include.new.progress (c.include.ensures.turns files told))

pub returns-in-If-clause-does : goal.returns-in-If-clause-does
returns-in-If-clause-does g c =
    λ (files : List File) told.
    rw (c.in-If.is, c.led-in-If.ensures) (turns_moves (if_holds c.in-If.choice c.args.settings.now c.args.progress.now) c.choose.result (g.P.Press.seen c.args.press.now).sent c.args.settings.now c.choose.new.progress c.choose.ensures.turns)

pub returns-in-If-clause-cause : goal.returns-in-If-clause-cause
returns-in-If-clause-cause g c = rw c.led-in-If.ensures (led_rests c.choose.result _ _ (idle_causes c.choose.result _ _ c.choose.ensures.idle))

pub returns-in-Ok : goal.returns-in-Ok
returns-in-Ok g c =
    let s = c.args.settings.now in
    let p = c.args.progress.now in
    let k : Command = c.args.command in
    let plain : IsPlain k = record { next_not = c.in_default.not-Next; label_not = c.in_default.not-Label; jump_not = c.in_default.not-Jump; include_not = c.in_default.not-Include; if_not = c.in_default.not-If } in
    record {
      does = λ (files : List File) told. subst (λ (m : Moved). Moves m (g.P.Press.seen c.args.press.now).sent (Ok c.in-Ok.going) (g.P.Press.seen c.execute.new.press).sent c.execute.new.settings p) (sym (moved_plain files k s p plain))
          (executed_moves (outcome_of files k s) p c.in-Ok.going (g.P.Press.seen c.args.press.now).sent (g.P.Press.seen c.execute.new.press).sent c.execute.new.settings (c.in-Ok.ensures.does files told));
      counted = λ (files : List File) told. subst (λ (m : Moved). MovesCounted {T = Going} m.outcome.pairs c.args.steps.now (Ok c.in-Ok.going) c.execute.new.steps) (sym (moved_plain files k s p plain)) (executed_counted (c.in-Ok.ensures.counted files told));
      sound = c.in-Ok.ensures.sound;
      lines = refl;
      stands = tt;
      cause = tt;
      kept = c.in-Ok.ensures.kept;
      stays = c.in-Ok.ensures.stays;
    }

pub returns-in-Err : goal.returns-in-Err
returns-in-Err g c =
    let s = c.args.settings.now in
    let p = c.args.progress.now in
    let k : Command = c.args.command in
    let plain : IsPlain k = record { next_not = c.in_default.not-Next; label_not = c.in_default.not-Label; jump_not = c.in_default.not-Jump; include_not = c.in_default.not-Include; if_not = c.in_default.not-If } in
    record {
      does = λ (files : List File) told. subst (λ (m : Moved). Moves m (g.P.Press.seen c.args.press.now).sent (Err (stop.Command c.in-Err.why)) (g.P.Press.seen c.execute.new.press).sent c.execute.new.settings p) (sym (moved_plain files k s p plain))
          (stopped_moves (outcome_of files k s) p c.in-Err.why (g.P.Press.seen c.args.press.now).sent (g.P.Press.seen c.execute.new.press).sent c.execute.new.settings (c.in-Err.ensures.does files told));
      counted = λ (files : List File) told. subst (λ (m : Moved). MovesCounted {T = Going} m.outcome.pairs c.args.steps.now (Err (stop.Command c.in-Err.why)) c.execute.new.steps) (sym (moved_plain files k s p plain)) (stopped_counted (c.in-Err.ensures.counted files told));
      sound = tt;
      lines = refl;
      stands = refl;
      cause = rests_script c.in-Err.why _ _ c.in-Err.ensures.cause;
      kept = c.in-Err.ensures.kept;
      stays = c.in-Err.ensures.stays;
    }
