use Rattle.std.proofs.Common.{◌≡◌, length}
use Rattle.std.specs.List.{All}
use Rattle.cell_bins.specs.Near.{IsSmall}
use Rattle.list_tests.proofs.neighbours.sites_of.Given as goal

abbrev pub invariant-loop-i : goal.invariant-loop-i
invariant-loop-i l = record {
  count : length l.sites ≡ l.i;
  small : All (λ a. IsSmall a.x) l.sites;
}
