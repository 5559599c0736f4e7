use Rattle.std.proofs.Common.{rules, ◌≡◌, false}
use Rattle.std.proofs.lemmas.Int.{to_z-of_z}
use Rattle.meaning.specs.Pairs.{is_uncovered}
use Rattle.run_settings.proofs.SoundLemmas.{coefficients_sound, covered_where}
use Rattle.run_settings.proofs.pairs.set_pair_coefficients.Goals as goal

pub returns-clause-sound : goal.returns-clause-sound
returns-clause-sound c =
    let fits : is_uncovered c.args.command.now c.args.settings.now.force.pair_style ≡ false = search rules in
    let covered = covered_where c.args.command.now c.args.settings.now.force.pair_style c.in-Some-pair_style.cutoff c.in-Some-pair_style.is fits in
    coefficients_sound c.args.command.now c.in-Some-pair_style.cutoff c.given-pair.result c.len-kinds.result c.args.settings.now c.in_ok-settings.field-0 c.requires.sound
    c.in-Some-pair_style.is c.requires.first c.requires.second c.requires.epsilon c.requires.sigma c.requires.cutoff covered (search rules) (search rules) (search rules) (search (rules, to_z-of_z))
    c.in_ok-settings.ensures
