use Rattle.command_words.proofs.LimitLemmas.{commands_keep_their_limits}
use Rattle.command_words.proofs.laws.commands_keep_their_limits.Goals as goal

pub returns : goal.returns
returns c = commands_keep_their_limits
