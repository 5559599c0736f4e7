use Rattle.meaning.specs.Shown.{shown_in_log, shown_on_screen}
use Rattle.script_runs.proofs.ShowLemmas.{shown_both, shows_stop, shows_then}
use Rattle.script_runs.proofs.output.show.Goals as goal

pub returns-in-Err-clause-shows : goal.returns-in-Err-clause-shows
returns-in-Err-clause-shows g c =
    let o = c.args.output.now in
    let text = c.args.text.now in
    shown_both o text o.uses _ _ _ _ (shows_stop (shown_in_log o.log text o.uses) (shown_on_screen o.screen text) _ _ c.in-Err.why _ _ c.in-Err.ensures.shows)

pub returns-clause-shows : goal.returns-clause-shows
returns-clause-shows g c =
    let o = c.args.output.now in
    let text = c.args.text.now in
    shown_both o text o.uses _ _ _ _ (shows_then (shown_in_log o.log text o.uses) (shown_on_screen o.screen text) _ _ _ _ c.show_on_screen.result _ _ c.in-Ok.ensures.shows c.show_on_screen.ensures.shows)
