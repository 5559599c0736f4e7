use Rattle.std.proofs.Common.{◌≡◌, ◌++◌, drop, filter}
use Rattle.ghost_shell.specs.Halos.{may_meet_on}
use Rattle.ghost_shell.proofs.halo.Halo.near_lengths.Given as goal

abbrev pub invariant-loop-length : goal.invariant-loop-length
invariant-loop-length l =
    l.near.items ++ filter (may_meet_on l.self l.low l.high l.axis) (drop l.length-index l.lengths)
    ≡ filter (may_meet_on l.self l.low l.high l.axis) l.lengths
