use Rattle.std.proofs.Common.{◌≡◌, [], drop}
use Rattle.formula.specs.declared.state.State.TheVariants.{Needs}
use Rattle.formula.specs.Reading.{run}
use Rattle.formula.proofs.reading.read.Given as goal

abbrev pub invariant-loop-i : goal.invariant-loop-i
invariant-loop-i l = run l.i (drop l.i l.text) l.state ≡ run 0 l.text (Needs [])
