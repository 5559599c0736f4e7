use Rattle.std.proofs.Common.{◌+◌, rules}
use Rattle.pair_lj.specs.Pairs.{are_had_with, types_from}
use Rattle.pair_lj.proofs.TypeLemmas.{types_step}
use Rattle.pair_lj.proofs.pair_settings.are_all_had.Goals as goal

pub loop-i-preserved : goal.loop-i-preserved
loop-i-preserved c = types_step (λ i. are_had_with c.args.pairs.now i (types_from 1 c.args.kinds)) c.loop-i.i (c.args.kinds + 1) _ c.loop-i-test.true (search rules) c.loop-i.invariant
