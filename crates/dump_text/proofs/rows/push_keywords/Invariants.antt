use Rattle.std.proofs.Common.{◌≡◌, ◌++◌, map, take}
use Rattle.std.specs.List.{join_with_byte}
use Rattle.dump_text.specs.Columns.{keyword_of}
use Rattle.dump_text.proofs.rows.push_keywords.Given as goal

abbrev pub invariant-loop-place : goal.invariant-loop-place
invariant-loop-place l = l.text ≡ l.initial.text ++ join_with_byte 32 (map keyword_of (take l.place l.columns))
