use Rattle.box_geo.proofs.FaultLemmas.{before_from_word, word_from_before, same_key}
use Rattle.box_geo.proofs.fault.words_order_keys.Goals as goal

pub returns-clause-same : goal.returns-clause-same
returns-clause-same c = same_key

pub returns-clause-order : goal.returns-clause-order
returns-clause-order c = λ k l f g. (word_from_before k l f g, before_from_word k l f g)
