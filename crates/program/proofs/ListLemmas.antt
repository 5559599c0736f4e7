-- What an iterator over the elements of a list gives.
use Rattle.std.proofs.Common.{refl}
use Rattle.std.proofs.lemmas.Iterator.{YieldsList}
use Rattle.std.proofs.lemmas.Iterator.Adapters.{YieldsList-from_vec}
use Rattle.std.specs.Vec.Iter.{into_iter_items, into_iter_steps}
use Rattle.std.specs.declared.vec.IntoIter.{IntoIter}

-- all that is still to come, in order
pub gives_all : {X Z : Type 0} (it : IntoIter X Z) → YieldsList (into_iter_steps {X = X} {Z = Z}) (λ y. y) it (into_iter_items it)
gives_all it = YieldsList-from_vec {s = it} (into_iter_items it) refl it.rest.ok.0
