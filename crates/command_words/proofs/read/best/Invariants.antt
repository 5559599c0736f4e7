use Rattle.std.proofs.Common.{◌≡◌, drop, length}
use Rattle.command_words.specs.Read.{best}
use Rattle.command_words.proofs.read.best.Given as goal

abbrev pub invariant-loop-form : goal.invariant-loop-form
invariant-loop-form l = best (drop l.form-index l.forms) l.words l.fewest ≡ best l.forms l.words (length l.words)
