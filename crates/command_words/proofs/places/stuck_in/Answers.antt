use Rattle.std.proofs.Common.{◌∙◌, ap}
use Rattle.command_words.specs.Places.{stuck_options}
use Rattle.command_words.proofs.places.stuck_in.Goals as goal

pub returns : goal.returns
returns c = c.stuck_options.ensures ∙ ap (λ cs. stuck_options cs c.args.words.now) c.choices_in.ensures
