use Rattle.serial_step.proofs.ForceLemmas.{field_of-fair}
use Rattle.serial_step.proofs.laws.fields_are_fair.Goals as goal

pub returns : goal.returns
returns c = field_of-fair
