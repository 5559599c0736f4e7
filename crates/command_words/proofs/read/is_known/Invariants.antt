use Rattle.std.proofs.Common.{◌≡◌, drop}
use Rattle.command_words.specs.Read.{is_known}
use Rattle.command_words.proofs.read.is_known.Given as goal

abbrev pub invariant-loop-form : goal.invariant-loop-form
invariant-loop-form l = is_known (drop l.form-index l.forms) l.text ≡ is_known l.forms l.text
