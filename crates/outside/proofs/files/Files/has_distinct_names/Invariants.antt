use Rattle.std.proofs.Common.{◌≡◌, length}
use Rattle.outside.specs.Stock.{has_distinct_names}
use Rattle.outside.proofs.files.Files.has_distinct_names.Given as goal

abbrev pub invariant-loop-first : goal.invariant-loop-first
invariant-loop-first l = has_distinct_names l.rest ≡ has_distinct_names l.fn.self

abbrev pub decreases-loop-first : goal.decreases-loop-first
decreases-loop-first l = length l.rest
