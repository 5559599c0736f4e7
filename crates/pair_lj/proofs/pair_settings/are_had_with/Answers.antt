use Rattle.std.proofs.Common.{◌+◌, rules}
use Rattle.std.specs.Option.{is_some}
use Rattle.pair_lj.specs.Pairs.{numbers_at}
use Rattle.pair_lj.proofs.TypeLemmas.{types_step}
use Rattle.pair_lj.proofs.pair_settings.are_had_with.Goals as goal

pub loop-j-preserved : goal.loop-j-preserved
loop-j-preserved c = types_step (λ j. is_some (numbers_at c.args.pairs.now c.args.i j)) c.loop-j.j (c.args.kinds + 1) _ c.loop-j-test.true (search rules) c.loop-j.invariant
