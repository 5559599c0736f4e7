use Rattle.std.proofs.Common.{take}
use Rattle.bonded.specs.Rows.{AreLinks}
use Rattle.bonded.proofs.links.Links.of.Given as goal

abbrev pub invariant-loop-bond : goal.invariant-loop-bond
invariant-loop-bond l = AreLinks (take l.bond-index l.bonds) l.links.neighbours
