use Rattle.std.proofs.Common.{rules, ◌≡◌, false}
use Rattle.meaning.specs.Lattice.{is_above_kinds}
use Rattle.run_settings.proofs.LatticeLemmas.{created_again}
use Rattle.run_settings.proofs.lattice.create_atoms.Goals as goal

pub returns-in-Some-body-clause-sound : goal.returns-in-Some-body-clause-sound
returns-in-Some-body-clause-sound c =
    let within : is_above_kinds c.args.new.now.kind c.args.settings.now.body ≡ false = search rules in
    created_again c.args.settings.now c.in-Some.body c.in-Some-body.body c.args.new.now c.in-Ok.atoms c.requires.sound c.in-Some.is c.in-Some-body.is c.requires.kind.0 within
    c.in-Ok.ensures
