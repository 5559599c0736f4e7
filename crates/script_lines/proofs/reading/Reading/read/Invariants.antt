use Rattle.std.proofs.Common.{◌≡◌, ◌++◌, ℕ, List, drop}
use Rattle.script_lines.specs.Reading.{mode_beyond}
use Rattle.script_lines.proofs.reading.Reading.read.Given as goal

abbrev pub invariant-loop-byte : goal.invariant-loop-byte
invariant-loop-byte l =
    (text : List ℕ) → mode_beyond l.initial.self.mode l.initial.self.opened (l.bytes ++ text) ≡ mode_beyond l.self.mode l.self.opened (drop l.byte-index l.bytes ++ text)
