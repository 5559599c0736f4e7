use Rattle.std.proofs.Common.{◌≡◌, drop, max}
use Rattle.std.specs.List.{fold}
use Rattle.box_geo.specs.declared.atoms.Angle.{Angle}
use Rattle.data_text.specs.DataText.{angle_types}
use Rattle.data_text.proofs.header.angle_types.Given as goal

abbrev pub invariant-loop-angle : goal.invariant-loop-angle
invariant-loop-angle l = fold (λ most (a : Angle). max most a.kind) l.most (drop l.angle-index l.angles) ≡ angle_types l.angles
