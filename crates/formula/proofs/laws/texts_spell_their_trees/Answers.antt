use Rattle.std.proofs.Common.{[], refl}
use Rattle.formula.specs.declared.state.State.TheVariants.{Needs}
use Rattle.formula.specs.Spelling.{nothing}
use Rattle.formula.proofs.SpellLemmas.{run_told}
use Rattle.formula.proofs.laws.texts_spell_their_trees.Goals as goal

pub returns : goal.returns
returns c = λ text tree is. run_told text [] 0 (Needs []) tree refl nothing is
