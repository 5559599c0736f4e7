use Rattle.std.proofs.Common.{◌≡◌, drop}
use Rattle.std.specs.List.{find}
use Rattle.std.specs.Str.{bytes_eq}
use Rattle.dump_text.specs.Columns.{keyword_of}
use Rattle.dump_text.proofs.columns.first_of.Given as goal

abbrev pub invariant-loop-column : goal.invariant-loop-column
invariant-loop-column l =
    find (λ c. bytes_eq (keyword_of c) l.text) (drop l.column-index l.columns) ≡ find (λ c. bytes_eq (keyword_of c) l.text) l.columns
