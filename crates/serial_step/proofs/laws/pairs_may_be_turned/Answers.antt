use Rattle.serial_step.proofs.ForceLemmas.{x_brought-turned, y_brought-turned, z_brought-turned, energy-turned, virial-turned, words-turned, lesser_id_first-turns}
use Rattle.serial_step.proofs.laws.pairs_may_be_turned.Goals as goal

pub returns-clause-x : goal.returns-clause-x
returns-clause-x c = λ field s turn word pairs k fair edges only. x_brought-turned field s fair edges turn only word pairs k

pub returns-clause-y : goal.returns-clause-y
returns-clause-y c = λ field s turn word pairs k fair edges only. y_brought-turned field s fair edges turn only word pairs k

pub returns-clause-z : goal.returns-clause-z
returns-clause-z c = λ field s turn word pairs k fair edges only. z_brought-turned field s fair edges turn only word pairs k

pub returns-clause-energy : goal.returns-clause-energy
returns-clause-energy c = λ field s turn pairs fair edges only. energy-turned field s fair edges turn only pairs

pub returns-clause-virial : goal.returns-clause-virial
returns-clause-virial c = λ field s turn pairs fair edges only. virial-turned field s fair edges turn only pairs

pub returns-clause-words : goal.returns-clause-words
returns-clause-words c = λ field s turn pairs fair edges only. words-turned field s fair edges turn only pairs

pub returns-clause-by_id : goal.returns-clause-by_id
returns-clause-by_id c = lesser_id_first-turns
