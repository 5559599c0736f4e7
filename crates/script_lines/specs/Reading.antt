-- How a line is read that may go on: which parentheses are open is carried, and none is looked for ahead.
use Rattle.std.specs.Prelude.{◌≡◌, ◌++◌, ◌+◌, ◌==◌, ◌&&◌, Bool, true, false, cond, nat_le, ℕ, List, [], ◌∷◌, drop}
use Rattle.script_lines.specs.declared.modes.Mode.{Mode}
use Rattle.script_lines.specs.declared.modes.Mode.TheVariants.{Formula, Dollar, Word}
use Rattle.script_lines.specs.Modes.{mode_after, next, surplus}

abbrev pub is_dollar : Mode → Bool
is_dollar Dollar = true
is_dollar _ = false

abbrev pub top : List Bool → Bool
top [] = false
top (flag ∷ flags) = flag

-- the parentheses that are open behind a byte, the last first: whether each stands behind the `$` of an unquoted word
abbrev pub open_behind : Mode → List Bool → ℕ → List Bool
open_behind m flags c = cond (c == 40) (is_dollar m ∷ flags) (cond (c == 41) (drop 1 flags) (cond (c == 35) [] flags))

-- the mode behind a byte, where no open parenthesis has its closing one so far
abbrev pub mode_behind : Mode → List Bool → ℕ → Mode
mode_behind m flags c = cond ((c == 41) && top flags) Word (next m c false)

-- what the first of the open parentheses that closes in a text makes of a mode. The last of them is so many deep
abbrev pub settled : ℕ → List Bool → List ℕ → Mode → Mode
settled depth [] text m = m
settled depth (false ∷ flags) text m = settled (depth + 1) flags text m
settled depth (true ∷ flags) text m =
    settled (depth + 1) flags text (cond (nat_le depth (surplus text)) (mode_after (Formula depth) text) m)

-- the mode behind a text that follows
abbrev pub mode_beyond : Mode → List Bool → List ℕ → Mode
mode_beyond m flags text = settled 1 flags text (mode_after m text)

-- from a mode past these bytes to another, whatever follows
abbrev pub GoesPast : List ℕ → Mode → List Bool → Mode → List Bool → Type 0
GoesPast bytes m flags after behind = (text : List ℕ) → mode_beyond m flags (bytes ++ text) ≡ mode_beyond after behind text
