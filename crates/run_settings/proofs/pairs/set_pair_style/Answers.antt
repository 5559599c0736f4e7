use Rattle.std.proofs.Common.{rules, ◌≡◌, true, w64, FitsSigned}
use Rattle.std.proofs.lemmas.Int.{to_z-of_z}
use Rattle.pair_lj.specs.Pairs.{are_covered, with_cutoffs}
use Rattle.run_settings.proofs.SoundLemmas.{style_sound}
use Rattle.run_settings.proofs.pairs.set_pair_style.Goals as goal

pub returns-clause-sound : goal.returns-clause-sound
returns-clause-sound c =
    let f : FitsSigned w64 c.args.cutoff = search rules in
    let covered : are_covered c.args.cutoff c.args.settings.now.force.pairs ≡ true = search (rules, to_z-of_z) in
    let is : c.set_cutoffs.new.self ≡ with_cutoffs c.args.cutoff c.args.settings.now.force.pairs = search (rules, to_z-of_z) in
    rw to_z-of_z (style_sound c.args.cutoff c.args.settings.now c.set_cutoffs.new.self c.requires.sound c.requires.cutoff covered is)
