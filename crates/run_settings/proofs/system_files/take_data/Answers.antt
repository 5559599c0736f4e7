use Rattle.std.proofs.Common.{◌≡◌, Result, Ok, List, rules, subst}
use Rattle.std.specs.Prelude.{IfOk, slice_index}
use Rattle.std.specs.List.{All}
use Rattle.data_file.specs.Data.{contents_of}
use Rattle.meaning.specs.declared.code.Code.{Code}
use Rattle.meaning.specs.SystemFiles.{pairs_with}
use Rattle.pair_lj.specs.declared.pair_settings.PairCoefficients.{PairCoefficients}
use Rattle.pair_lj.specs.Pairs.{IsSoundPair}
use Rattle.run_settings.proofs.DataLemmas.{pairs_sound, taken_sound}
use Rattle.run_settings.proofs.system_files.take_data.Goals as goal

pub returns-clause-sound : goal.returns-clause-sound
returns-clause-sound c =
    let f = c.args.settings.now.force in
    let h = c.requires.set in
    let meant : pairs_with f.pair_style c.args.set.pair f.pairs ≡ Ok c.in_ok-pairs.pairs = search rules in
    let pairs : All IsSoundPair c.in_ok-pairs.pairs =
    subst (λ (r : Result (List PairCoefficients) Code). IfOk r (All IsSoundPair)) meant
    (pairs_sound (slice_index c.args.set.kinds 0) f.pair_style c.args.set.pair f.pairs h.kinds.atoms c.requires.sound.force.style h.coefficients.pair c.requires.sound.force.pairs) in
    taken_sound c.args.settings.now (contents_of c.args.set) c.in_ok-pairs.pairs c.requires.sound c.args.set.cell.sound h pairs
