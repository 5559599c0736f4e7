use Rattle.std.proofs.Common.{refl, ap, Some}
use Rattle.box_geo.specs.declared.sim_box.Sides.{Sides}
use Rattle.run_settings.proofs.LatticeLemmas.{box_sound}
use Rattle.run_settings.proofs.lattice.create_box.Goals as goal

pub returns-clause-sound : goal.returns-clause-sound
returns-clause-sound c =
    box_sound c.args.settings.now
    record { step = 0; sides = c.in-Ok.cell.sides; mass = c.in_ok-mass.mass; atoms = c.new-2.result; bonds = c.new-3.result; angles = c.new-4.result }
    c.args.new.now.kinds c.requires.sound refl c.in-Ok.cell.sound (ap (λ (s : Sides). s.dim) c.in-Ok.ensures.made) c.in_ok-mass.ensures c.requires.kinds
    c.new-2.ensures c.new-3.ensures c.new-4.ensures
