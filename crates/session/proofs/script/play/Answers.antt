use Rattle.std.proofs.Common.{rules, ◌≡◌, ◌∙◌, ◌-◌, ◌≤◌, ◌<◌, ◌+◌, ℕ, List, Option, Result, Ok, Err, Some, None, ap, refl, subst, sym, arith}
use Rattle.box_geo.specs.declared.limits.TheConstants.{MAX_LINES}
use Rattle.control_flow.specs.Flow.{FlowState, LineName}
use Rattle.meaning.specs.Causes.{seen_of}
use Rattle.meaning.specs.Lines.{line_moved}
use Rattle.meaning.specs.Play.{next_line, play, played}
use Rattle.meaning.specs.Sends.{way_of}
use Rattle.outside.proofs.Sending.{SendsFront-none}
use Rattle.script_lines.specs.declared.words.RawWord.{RawWord}
use Rattle.session.specs.declared.status.Status.TheVariants as status
use Rattle.session.specs.Ends.{EndsStop, IsAhead}
use Rattle.session.specs.Stops.{Reaches}
use Rattle.session.proofs.PlayLemmas.{ahead_counted, ahead_ends, ahead_goes, ahead_start, begun_few, fewer, line_ahead, none_counted, none_ends, quit_counted, quit_ends, stop_counted, stop_ends, stop_not_done, unreached_ends}
use Rattle.session.proofs.script.play.Goals as goal

pub returns-in-Err-clause-ends : goal.returns-in-Err-clause-ends
returns-in-Err-clause-ends g c = λ files told. SendsFront-none (g.P.Press.seen c.args.press.now).sent _

pub loop-words-init : goal.loop-words-init
loop-words-init g c =
    record {
      ahead = λ files told. ahead_start files c.args.file.now c.args.text.now c.args.settings c.in-Ok.progress (g.P.Press.seen c.args.press.now).sent c.args.steps.now c.in-Ok.ensures;
      few = begun_few c.args.file.now c.args.text.now c.in-Ok.progress c.in-Ok.ensures;
      sound = c.requires.sound;
      kept = search rules;
      reads = refl;
      writes = refl;
      saves = refl;
    }

pub returns-in-Ok-None-clause-ends : goal.returns-in-Ok-None-clause-ends
returns-in-Ok-None-clause-ends g c =
    λ files told. ahead_ends status.Done (g.P.Press.seen c.loop-words.press).sent (c.loop-words.invariant.ahead files told)
    (none_ends files c.loop-words.settings c.loop-words.progress (g.P.Press.seen c.loop-words.press).sent c.loop-words.invariant.few (subst (λ (o : Option (List RawWord)). Reaches (next_line c.loop-words.progress.flow c.loop-words.progress.pending) (Ok o) c.next_line.new.progress) c.in-Ok-None.field-0-is c.in-Ok-None.ensures.reaches))

pub returns-in-Ok-None-clause-counted : goal.returns-in-Ok-None-clause-counted
returns-in-Ok-None-clause-counted g c =
    λ files told. ahead_counted (c.loop-words.invariant.ahead files told)
    (none_counted files c.loop-words.settings c.loop-words.progress c.loop-words.steps c.loop-words.invariant.few (subst (λ (o : Option (List RawWord)). Reaches (next_line c.loop-words.progress.flow c.loop-words.progress.pending) (Ok o) c.next_line.new.progress) c.in-Ok-None.field-0-is c.in-Ok-None.ensures.reaches))

pub returns-in-Err-next_line-clause-ends : goal.returns-in-Err-next_line-clause-ends
returns-in-Err-next_line-clause-ends g c =
    λ files told. ahead_ends _ _ (c.loop-words.invariant.ahead files told)
    (unreached_ends files c.loop-words.settings c.loop-words.progress c.next_line.new.progress c.in-Err-next_line.stop c.end_at.result _ _ c.loop-words.invariant.few c.in-Err-next_line.ensures.reaches
    (subst (λ (f : FlowState). EndsStop c.in-Err-next_line.stop c.loop-words.settings.output f.last.file f.last.number c.end_at.result (g.P.Press.seen c.loop-words.press).sent (g.P.Press.seen c.end_at.new.press).sent) c.in-Err-next_line.ensures.stands c.end_at.ensures.ends))

pub returns-in-Err-next_line-clause-cause : goal.returns-in-Err-next_line-clause-cause
returns-in-Err-next_line-clause-cause g c =
    let rests = c.in-Err-next_line.ensures.idle.rests (seen_of (g.S.Shelf.seen c.args.shelf.now) (g.P.Press.seen c.args.press.now) (g.D.Disk.view c.args.disk.now).faults) (seen_of (g.S.Shelf.seen c.loop-words.shelf) (g.P.Press.seen c.end_at.new.press) (g.D.Disk.view c.loop-words.disk).faults) in
    search rules

pub returns-in-Ok-Quit-clause-ends : goal.returns-in-Ok-Quit-clause-ends
returns-in-Ok-Quit-clause-ends g c =
    λ files told.
    let next = c.next_line.new.progress in
    let does = c.in-Ok-Quit.ensures.does files (c.loop-words.invariant.kept.stock ∙ told) in
    ahead_ends status.Done (g.P.Press.seen c.run_line.new.press).sent
    (line_ahead files c.loop-words.settings c.loop-words.progress next c.in-Ok-Some.words c.loop-words.invariant.few (subst (λ (o : Option (List RawWord)). Reaches (next_line c.loop-words.progress.flow c.loop-words.progress.pending) (Ok o) next) c.in-Ok-Some.field-0-is c.in-Ok-Some.ensures.reaches) (c.loop-words.invariant.ahead files told))
    (quit_ends (line_moved files c.loop-words.settings next c.in-Ok-Some.words) next.flow.last (played (MAX_LINES - c.loop-words.progress.flow.count) files) _ (does.goes_on ∙ ap way_of c.in-Ok-Quit.field-0-is) does.sent)

pub returns-in-Ok-Quit-clause-counted : goal.returns-in-Ok-Quit-clause-counted
returns-in-Ok-Quit-clause-counted g c =
    λ files told.
    let next = c.next_line.new.progress in
    ahead_counted
    (line_ahead files c.loop-words.settings c.loop-words.progress next c.in-Ok-Some.words c.loop-words.invariant.few (subst (λ (o : Option (List RawWord)). Reaches (next_line c.loop-words.progress.flow c.loop-words.progress.pending) (Ok o) next) c.in-Ok-Some.field-0-is c.in-Ok-Some.ensures.reaches) (c.loop-words.invariant.ahead files told))
    (quit_counted (line_moved files c.loop-words.settings next c.in-Ok-Some.words) next.flow.last (played (MAX_LINES - c.loop-words.progress.flow.count) files)
    ((c.in-Ok-Quit.ensures.does files (c.loop-words.invariant.kept.stock ∙ told)).goes_on ∙ ap way_of c.in-Ok-Quit.field-0-is)
    ((c.in-Ok-Quit.ensures.counted files (c.loop-words.invariant.kept.stock ∙ told)).exact))

pub returns-in-Err-run_line-clause-ends : goal.returns-in-Err-run_line-clause-ends
returns-in-Err-run_line-clause-ends g c =
    λ files told.
    let next = c.next_line.new.progress in
    let why = c.in-Err-run_line.stop in
    ahead_ends _ _
    (line_ahead files c.loop-words.settings c.loop-words.progress next c.in-Ok-Some.words c.loop-words.invariant.few (subst (λ (o : Option (List RawWord)). Reaches (next_line c.loop-words.progress.flow c.loop-words.progress.pending) (Ok o) next) c.in-Ok-Some.field-0-is c.in-Ok-Some.ensures.reaches) (c.loop-words.invariant.ahead files told))
    (stop_ends why (line_moved files c.loop-words.settings next c.in-Ok-Some.words) next.flow.last (played (MAX_LINES - c.loop-words.progress.flow.count) files) c.run_line.new.settings c.end_at-in-Err-run_line.result _ _ _
    (c.in-Err-run_line.ensures.does files (c.loop-words.invariant.kept.stock ∙ told)).stopped
    (subst (λ (l : LineName). EndsStop why c.run_line.new.settings.output l.file l.number c.end_at-in-Err-run_line.result (g.P.Press.seen c.run_line.new.press).sent (g.P.Press.seen c.end_at-in-Err-run_line.new.press).sent) c.in-Err-run_line.ensures.stands c.end_at-in-Err-run_line.ensures.ends))

pub returns-in-Err-run_line-clause-counted : goal.returns-in-Err-run_line-clause-counted
returns-in-Err-run_line-clause-counted g c =
    λ files told.
    let next = c.next_line.new.progress in
    let why = c.in-Err-run_line.stop in
    ahead_counted
    (line_ahead files c.loop-words.settings c.loop-words.progress next c.in-Ok-Some.words c.loop-words.invariant.few (subst (λ (o : Option (List RawWord)). Reaches (next_line c.loop-words.progress.flow c.loop-words.progress.pending) (Ok o) next) c.in-Ok-Some.field-0-is c.in-Ok-Some.ensures.reaches) (c.loop-words.invariant.ahead files told))
    (stop_counted (line_moved files c.loop-words.settings next c.in-Ok-Some.words) next.flow.last (played (MAX_LINES - c.loop-words.progress.flow.count) files) c.end_at-in-Err-run_line.result
    ((c.in-Err-run_line.ensures.counted files (c.loop-words.invariant.kept.stock ∙ told)).few)
    (stop_not_done why c.run_line.new.progress.flow.last.file c.run_line.new.progress.flow.last.number c.end_at-in-Err-run_line.result _ _ c.end_at-in-Err-run_line.ensures.told))

pub loop-words-preserved : goal.loop-words-preserved
loop-words-preserved g c =
    let next = c.next_line.new.progress in
    let now = c.run_line.new.progress in
    let advances = c.in-Ok-Some.ensures.advances in
    let one : now.flow.count ≡ c.loop-words.progress.flow.count + 1 = search rules in
    let less : c.loop-words.progress.flow.count < MAX_LINES = search rules in
    record {
      ahead = λ files told.
          let does = c.in-Ok-On.ensures.does files (c.loop-words.invariant.kept.stock ∙ told) in
          subst (λ (n : ℕ). IsAhead (play files c.args.file.now c.args.text.now c.args.settings) (g.P.Press.seen c.args.press.now).sent (g.P.Press.seen c.run_line.new.press).sent c.args.steps.now c.run_line.new.steps (played n files c.run_line.new.settings now)) (fewer c.loop-words.progress.flow now.flow less one)
          (ahead_goes _ (line_moved files c.loop-words.settings next c.in-Ok-Some.words) next.flow.last (played (MAX_LINES - c.loop-words.progress.flow.count) files) c.run_line.new.settings now
          (line_ahead files c.loop-words.settings c.loop-words.progress next c.in-Ok-Some.words c.loop-words.invariant.few (subst (λ (o : Option (List RawWord)). Reaches (next_line c.loop-words.progress.flow c.loop-words.progress.pending) (Ok o) next) c.in-Ok-Some.field-0-is c.in-Ok-Some.ensures.reaches) (c.loop-words.invariant.ahead files told))
          (does.goes_on ∙ ap way_of c.in-Ok-On.field-0-is) does.sent does.after does.reached
          ((c.in-Ok-On.ensures.counted files (c.loop-words.invariant.kept.stock ∙ told)).exact));
      few = omega (arith, one, less);
      sound = c.in-Ok-On.ensures.sound;
      kept = search rules;
      reads = search rules;
      writes = search rules;
      saves = search rules;
    }
