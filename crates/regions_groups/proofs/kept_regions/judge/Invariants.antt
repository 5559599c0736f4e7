use Rattle.std.proofs.Common.{◌≡◌, take}
use Rattle.regions_groups.specs.Kept.{answers, latest_first}
use Rattle.regions_groups.proofs.kept_regions.judge.Given as goal

abbrev pub invariant-loop-i : goal.invariant-loop-i
invariant-loop-i l = take l.i l.known ≡ answers (latest_first (take l.i l.kept)) l.x
