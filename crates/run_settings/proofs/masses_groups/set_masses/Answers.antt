use Rattle.run_settings.proofs.SoundLemmas.{mass_sound}
use Rattle.run_settings.proofs.masses_groups.set_masses.Goals as goal

pub returns-in-Some-clause-sound : goal.returns-in-Some-clause-sound
returns-in-Some-clause-sound c =
    mass_sound c.args.setting.now c.args.settings.now c.in-Some.body c.set_in.new.body c.set_in.result c.requires.sound c.in-Some.is c.requires.mass c.set_in.ensures
