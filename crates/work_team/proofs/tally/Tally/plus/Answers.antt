use Rattle.work_team.proofs.TallyLemmas.{same_tally, sum_is}
use Rattle.work_team.proofs.tally.Tally.plus.Goals as goal

pub returns : goal.returns
returns c =
    let s = c.args.self.now in
    let t = c.args.other.now in
    let here = c.requires.here in
    let there = c.requires.there in
    same_tally _ _
    (sum_is s.pair t.pair here.pair there.pair)
    (sum_is s.bond t.bond here.bond there.bond)
    (sum_is s.angle t.angle here.angle there.angle)
    (sum_is s.virial t.virial here.virial there.virial)
