use Rattle.std.proofs.Common.{◌≡◌, ◌+◌, ◌≤◌, drop}
use Rattle.script_lines.specs.Physical.{feeds}
use Rattle.script_lines.proofs.script.feeds.Given as goal

abbrev pub invariant-loop-byte : goal.invariant-loop-byte
invariant-loop-byte l = (l.count + feeds (drop l.byte-index l.text) ≡ feeds l.text) × (l.count ≤ l.byte-index)
