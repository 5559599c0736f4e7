use Rattle.std.proofs.Common.{◌≡◌, ◌+◌, drop}
use Rattle.command_words.specs.MassesGroups.{kind_ranges}
use Rattle.command_words.proofs.RangeLemmas.{joined}
use Rattle.command_words.proofs.masses_groups.kind_ranges.Given as goal

-- the ranges so far, joined to those of the rest, are the ranges of all words
abbrev pub invariant-loop-i : goal.invariant-loop-i
invariant-loop-i l = joined l.ranges (kind_ranges (l.place + l.i) (drop l.i l.words)) ≡ kind_ranges l.place l.words
