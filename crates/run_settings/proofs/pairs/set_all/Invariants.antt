use Rattle.std.proofs.Common.{◌≡◌, drop}
use Rattle.meaning.specs.Pairs.{set_all}
use Rattle.run_settings.proofs.pairs.set_all.Given as goal

abbrev pub invariant-loop-i : goal.invariant-loop-i
invariant-loop-i l = set_all l.pair (drop l.i-index l.first) l.second l.pairs ≡ set_all l.pair l.first l.second l.initial.pairs
