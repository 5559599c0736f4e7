use Rattle.std.proofs.Common.{Err, ap}
use Rattle.script_runs.proofs.ShowLemmas.{put_stopped}
use Rattle.session.proofs.system_files.put_anew.Goals as goal

pub returns-in-Err-clause-shows : goal.returns-in-Err-clause-shows
returns-in-Err-clause-shows g c =
    let stopped = put_stopped c.in-Err.why _ _ _ (λ e. c.in-Err.ensures.cut (ap Err e)) (λ e. c.in-Err.ensures.no_memory (ap Err e)) in
    record { sent = tt; used = tt; stopped = stopped }
