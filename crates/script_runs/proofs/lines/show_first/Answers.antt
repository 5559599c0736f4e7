use Rattle.meaning.specs.Shown.{shown}
use Rattle.meaning.specs.Thermo.{thermo_header}
use Rattle.script_runs.specs.Line.{line_now}
use Rattle.script_runs.proofs.ShowLemmas.{shows_others, shows_stop, shows_then}
use Rattle.script_runs.proofs.lines.show_first.Goals as goal

pub returns-in-Err-clause-shows : goal.returns-in-Err-clause-shows
returns-in-Err-clause-shows g c =
    let o = c.args.output.now in
    shows_stop (shown o thermo_header o.uses) (shown o (line_now c.args.engine.now c.args.tally.now)) _ _ c.in-Err.why _ _ c.in-Err.ensures.shows

pub returns-clause-shows : goal.returns-clause-shows
returns-clause-shows g c =
    let o = c.args.output.now in
    let text = line_now c.args.engine.now c.args.tally.now in
    shows_then (shown o thermo_header o.uses) (shown o text) _ _ _ _ c.show_line.result _ _ c.in-Ok.ensures.shows
    (shows_others o c.show_header.new.output text _ _ _ _ _ c.in-Ok.ensures.others c.show_line.ensures.shows)
