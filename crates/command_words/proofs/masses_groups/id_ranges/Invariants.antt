use Rattle.std.proofs.Common.{◌≡◌, ◌+◌, drop}
use Rattle.command_words.specs.MassesGroups.{id_ranges}
use Rattle.command_words.proofs.RangeLemmas.{joined}
use Rattle.command_words.proofs.masses_groups.id_ranges.Given as goal

-- the ranges so far, joined to those of the rest, are the ranges of all words
abbrev pub invariant-loop-i : goal.invariant-loop-i
invariant-loop-i l = joined l.ranges (id_ranges (l.place + l.i) (drop l.i l.words)) ≡ id_ranges l.place l.words
