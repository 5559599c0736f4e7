use Rattle.command_words.proofs.OptionLemmas.{last_place_pair}
use Rattle.std.proofs.Common.{refl}
use Rattle.command_words.proofs.values.after_pair.Goals as goal

pub returns-in-len1-up-after-clause-same : goal.returns-in-len1-up-after-clause-same
returns-in-len1-up-after-clause-same c =
    last_place_pair c.args.option c.args.count c.args.found c.latest.result c.args.words.now _ _ c.key-item.result refl refl c.in-len1-up.len_at_least c.in-len1-up-after.len_at_least c.key-item.is c.latest.ensures
