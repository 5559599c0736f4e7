use Rattle.std.proofs.Common.{arith}
use Rattle.std.proofs.lemmas.Int.{to_z-of_z}
use Rattle.box_geo.proofs.sim_box.SimBox.holds.Goals as goal
use Rattle.box_geo.proofs.sim_box.SimBox.holds.Goals.{then-holds, else-holds}

pub returns-then-holds-2 : goal.returns-then-holds-2
returns-then-holds-2 c = elim c.if-holds.branch [ then-holds w ↦ grind (arith, to_z-of_z) | else-holds w ↦ grind (arith, to_z-of_z) ]
