use Rattle.std.proofs.Common.{◌≡◌, drop}
use Rattle.command_words.specs.Options.{kind_of_option}
use Rattle.command_words.proofs.options.kind_of_option.Given as goal

abbrev pub invariant-loop-choice : goal.invariant-loop-choice
invariant-loop-choice l = kind_of_option (drop l.choice-index l.choices) l.text ≡ kind_of_option l.choices l.text
