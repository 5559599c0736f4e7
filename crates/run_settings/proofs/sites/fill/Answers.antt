use Rattle.std.proofs.Common.{rules, ◌≡◌, ◌≤ℤ◌, w64, FitsSigned}
use Rattle.std.proofs.lemmas.Int.{to_z-of_z}
use Rattle.lattice_fill.specs.Points.{points_of}
use Rattle.meaning.specs.Lattice.{spacing_of_choice}
use Rattle.run_settings.proofs.LatticeLemmas.{filled}
use Rattle.run_settings.proofs.sites.fill.Goals as goal

pub returns-in-Ok : goal.returns-in-Ok
returns-in-Ok c =
    let is : c.in-Ok.points ≡ points_of c.args.choice.now.style (spacing_of_choice c.args.choice.now) c.args.sides = search (rules, to_z-of_z) in
    filled (points_of c.args.choice.now.style (spacing_of_choice c.args.choice.now) c.args.sides) c.in-Ok.points is c.in-Ok.ensures.few
