use Rattle.serial_step.proofs.LeastLemmas.{least-reached, least-below, least-IsPermutation, least-append}
use Rattle.serial_step.proofs.laws.the_least_word.Goals as goal

pub returns-clause-reached : goal.returns-clause-reached
returns-clause-reached c = least-reached

pub returns-clause-least : goal.returns-clause-least
returns-clause-least c = least-below

pub returns-clause-any_order : goal.returns-clause-any_order
returns-clause-any_order c = least-IsPermutation

pub returns-clause-joined : goal.returns-clause-joined
returns-clause-joined c = least-append
