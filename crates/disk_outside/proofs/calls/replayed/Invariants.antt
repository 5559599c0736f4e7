use Rattle.std.proofs.Common.{◌≡◌, length}
use Rattle.disk_outside.specs.Memory.{first_bytes, ops_of, pool_length, seen_after}
use Rattle.disk_outside.proofs.calls.replayed.Given as goal

abbrev pub invariant-loop-call : goal.invariant-loop-call
invariant-loop-call l =
    (pool_length l.left ≡ length l.rest)
    × (seen_after l.fn.name (ops_of l.left l.rest) l.bytes.items ≡ seen_after l.fn.name (ops_of l.fn.calls l.fn.pool) (first_bytes l.fn.files l.fn.name))

abbrev pub decreases-loop-call : goal.decreases-loop-call
decreases-loop-call l = length l.left
