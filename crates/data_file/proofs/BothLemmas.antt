-- Both of two results, of equal ones.
use Rattle.std.proofs.Common.{◌≡◌, ◌∙◌, Result, ap}
use Rattle.data_file.specs.declared.fault.DataFault.{DataFault}
use Rattle.data_file.specs.Fields.{both}

pub both_same : {A B : Type 0} (a c : Result A DataFault) (b d : Result B DataFault) → a ≡ c → b ≡ d → both a b ≡ both c d
both_same {A} {B} a c b d e f = ap (λ (r : Result A DataFault). both r b) e ∙ ap (λ (r : Result B DataFault). both c r) f
