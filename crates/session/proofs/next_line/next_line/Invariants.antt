use Rattle.std.proofs.Common.{◌≡◌, length}
use Rattle.meaning.specs.Play.{next_line}
use Rattle.session.proofs.next_line.next_line.Given as goal

abbrev pub invariant-loop-text : goal.invariant-loop-text
invariant-loop-text l = record {
  reaches : next_line l.progress.flow l.progress.pending ≡ next_line l.fn.progress.flow l.fn.progress.pending;
  stands : l.progress.flow ≡ l.fn.progress.flow;
}

abbrev pub decreases-loop-text : goal.decreases-loop-text
decreases-loop-text l = length l.progress.pending
