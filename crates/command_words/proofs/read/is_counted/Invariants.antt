use Rattle.std.proofs.Common.{◌≡◌, drop}
use Rattle.command_words.specs.Read.{is_counted}
use Rattle.command_words.proofs.read.is_counted.Given as goal

abbrev pub invariant-loop-form : goal.invariant-loop-form
invariant-loop-form l = is_counted (drop l.form-index l.forms) l.text l.count ≡ is_counted l.forms l.text l.count
