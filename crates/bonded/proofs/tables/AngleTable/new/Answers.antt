use Rattle.bonded.proofs.TableLemmas.{none_is_set}
use Rattle.bonded.proofs.tables.AngleTable.new.Goals as goal

pub invariant_of-result : goal.invariant_of-result
invariant_of-result c = none_is_set _ 64
