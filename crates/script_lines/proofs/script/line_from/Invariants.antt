use Rattle.std.proofs.Common.{◌≡◌, ◌+◌, drop, length}
use Rattle.script_lines.specs.Joining.{Passes}
use Rattle.script_lines.specs.Script.{script_at, script_from}
use Rattle.script_lines.proofs.script.line_from.Given as goal

-- what is left gives the script, and stands behind the place
abbrev pub invariant-lines : goal.invariant-lines
invariant-lines l =
    (script_from (l.ended + 1) l.rest ≡ script_at l.text l.fn.place.at)
    × Passes (drop l.fn.place.at l.text) l.rest l.fn.place.ended l.ended

abbrev pub decreases-lines : goal.decreases-lines
decreases-lines l = length l.rest
