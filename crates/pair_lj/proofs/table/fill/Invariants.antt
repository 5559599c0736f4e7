use Rattle.std.proofs.Common.{◌≡◌, length}
use Rattle.pair_lj.proofs.PlaceLemmas.{IsFilledBelow}
use Rattle.pair_lj.proofs.table.fill.Given as goal

abbrev pub invariant-loop-n : goal.invariant-loop-n
invariant-loop-n l = record {
  squared : length l.places.items ≡ length l.fn.places.items;
  filled : IsFilledBelow l.n l.kinds l.pairs l.places.items;
}
