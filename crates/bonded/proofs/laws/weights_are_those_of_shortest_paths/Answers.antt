use Rattle.bonded.proofs.PathLemmas.{apart_weight, shortest_weight}
use Rattle.bonded.proofs.laws.weights_are_those_of_shortest_paths.Goals as goal

pub returns-clause-joined : goal.returns-clause-joined
returns-clause-joined c = λ bonds path weights a b h. shortest_weight bonds weights path a b h

pub returns-clause-apart : goal.returns-clause-apart
returns-clause-apart c = apart_weight
