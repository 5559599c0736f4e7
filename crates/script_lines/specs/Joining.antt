-- How physical lines are joined to logical lines.
use Rattle.std.specs.Prelude.{◌≡◌, ◌+◌, ◌-◌, ◌≤◌, ◌==◌, Bool, true, false, cond, ℕ, Option, Some, None, is_some, unwrap_or, List, [], ◌∷◌, ◌++◌, length, take, drop}
use Rattle.script_lines.specs.declared.joining.Joint.{Joint}
use Rattle.script_lines.specs.declared.joining.Joint.TheVariants.{Ends, ByMark, InQuotes}
use Rattle.script_lines.specs.declared.modes.Mode.{Mode}
use Rattle.script_lines.specs.declared.modes.Mode.TheVariants.{Between}
use Rattle.script_lines.specs.Modes.{is_blank, is_triple, mode_after}
use Rattle.script_lines.specs.Physical.{feeds, physical_lines}
use Rattle.script_lines.specs.Reading.{mode_beyond}

-- where the `&` stands that is the last byte of a line but for blanks: it is remembered, blanks keep it, and any
-- other byte forgets it
abbrev pub mark_behind : Option ℕ → ℕ → ℕ → Option ℕ
mark_behind mark i c = cond (c == 38) (Some i) (cond (is_blank c) mark None)

abbrev pub mark_from : Option ℕ → ℕ → List ℕ → Option ℕ
mark_from mark i [] = mark
mark_from mark i (c ∷ line) = mark_from (mark_behind mark i c) (i + 1) line

abbrev pub mark_of : List ℕ → Option ℕ
mark_of line = mark_from None 0 line

-- a line up to that `&`, or all of it
abbrev pub front_of : List ℕ → List ℕ
front_of line = take (unwrap_or (mark_of line) (length line)) line

-- what was joined so far stands before a line; in triple quotes a line feed stands between
abbrev pub before_line : Joint → List ℕ → List ℕ
before_line InQuotes joined = joined ++ 10 ∷ []
before_line _ joined = joined

-- triple quotes go before the `&`, which has no meaning in them
abbrev pub joint_by : Bool → Bool → Joint
joint_by true marked = InQuotes
joint_by false true = ByMark
joint_by false false = Ends

abbrev pub joint_of : List ℕ → List ℕ → Joint
joint_of before line = joint_by (is_triple (mode_after Between (before ++ front_of line))) (is_some (mark_of line))

-- the `&` goes with all behind it, but not in triple quotes
abbrev pub joined_by : Joint → List ℕ → List ℕ → List ℕ
joined_by InQuotes before line = before ++ line
joined_by _ before line = before ++ front_of line

-- a logical line, with the number of its first physical line: its text, or that it goes on behind the end
pub data Logical : Type 0 where
  whole : ℕ → List ℕ → Logical
  unfinished : ℕ → Logical

-- what is left of a logical line where no physical line is left
abbrev pub left_over : Joint → ℕ → List ℕ → List Logical
left_over Ends first joined = []
left_over ByMark first joined = unfinished first ∷ []
left_over InQuotes first joined = whole first joined ∷ []

abbrev pub finished : Joint → ℕ → List ℕ → List Logical
finished Ends first joined = whole first joined ∷ []
finished ByMark first joined = []
finished InQuotes first joined = []

-- the number of the first physical line of the logical line that goes on, or that begins next
abbrev pub first_behind : Joint → ℕ → ℕ → ℕ
first_behind Ends first number = number + 1
first_behind ByMark first number = first
first_behind InQuotes first number = first

abbrev pub joined_behind : Joint → List ℕ → List ℕ
joined_behind Ends text = []
joined_behind _ text = text

-- the logical lines of the physical lines from this number on, behind what was joined so far
abbrev pub joined_lines : Joint → ℕ → List ℕ → ℕ → List (List ℕ) → List Logical
joined_lines joint first joined number [] = left_over joint first joined
joined_lines joint first joined number (line ∷ lines) =
    let before = before_line joint joined in
    let after = joint_of before line in
    let text = joined_by after before line in
    finished after first text
    ++ joined_lines after (first_behind after first number) (joined_behind after text) (number + 1) lines

abbrev pub logical_lines : ℕ → List (List ℕ) → List Logical
logical_lines number lines = joined_lines Ends number [] number lines

-- a logical line: one without a text goes on behind the end
abbrev pub logical : ℕ → Option (List ℕ) → Logical
logical number (Some text) = whole number text
logical number None = unfinished number

-- the first logical line of a text, and the text behind it with the number of its first line
abbrev pub IsLogical : ℕ → List ℕ → Option (List ℕ) → ℕ → List ℕ → Type 0
IsLogical number text line beyond after =
    logical_lines number (physical_lines text) ≡ logical number line ∷ logical_lines beyond (physical_lines after)

-- a text is read up to its end: whatever follows is read in the same mode
abbrev pub IsRead : List ℕ → Mode → List Bool → Type 0
IsRead text m flags = (more : List ℕ) → mode_beyond m flags more ≡ mode_after Between (text ++ more)

-- from one place of a text to a later one, with the number of line feeds before each
pub record Passes (text after : List ℕ) (ended passed : ℕ) : Type 0 where
  pub suffix : after ≡ drop (length text - length after) text
  pub shorter : length after ≤ length text
  pub counted : passed + feeds after ≡ ended + feeds text
  pub bound : passed + length after ≤ ended + length text
