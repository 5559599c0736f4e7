use Rattle.std.proofs.Common.{◌≡◌, drop}
use Rattle.meaning.specs.Pairs.{set_with}
use Rattle.run_settings.proofs.pairs.set_with.Given as goal

abbrev pub invariant-loop-j : goal.invariant-loop-j
invariant-loop-j l = set_with l.pair l.i (drop l.j-index l.types) l.pairs ≡ set_with l.pair l.i l.types l.initial.pairs
