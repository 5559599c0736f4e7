use Rattle.std.proofs.Common.{rules}
use Rattle.box_geo.specs.Sides.{box_refusal}
use Rattle.box_geo.proofs.sim_box.box_fault.Goals as goal

pub returns : goal.returns
unfolding box_refusal
returns c = search rules
