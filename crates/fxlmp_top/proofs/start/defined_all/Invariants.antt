use Rattle.std.proofs.Common.{◌≡◌, [], drop}
use Rattle.fxlmp_top.specs.Serial.{defined_all}
use Rattle.fxlmp_top.proofs.start.defined_all.Given as goal

abbrev pub invariant-loop-definition : goal.invariant-loop-definition
invariant-loop-definition l = defined_all (drop l.definition-index l.definitions) l.vars ≡ defined_all l.definitions []
