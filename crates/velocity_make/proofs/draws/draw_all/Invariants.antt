use Rattle.std.proofs.Common.{◌≡◌, take}
use Rattle.std.specs.List.{All}
use Rattle.velocity_make.specs.Group.{IsCalm}
use Rattle.velocity_make.specs.Make.{drawn_all}
use Rattle.velocity_make.proofs.draws.draw_all.Given as goal

abbrev pub invariant-loop-atom : goal.invariant-loop-atom
invariant-loop-atom l = (l.made.items ≡ drawn_all l.mass l.dim l.ids l.seed (take l.atom-index l.atoms)) × All (IsCalm l.ids) l.made.items
