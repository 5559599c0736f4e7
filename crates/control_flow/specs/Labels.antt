-- Labels: where a script goes on behind a jump to one.
use Rattle.std.specs.Prelude.{◌≡◌, ◌&&◌, Bool, false, cond, ℕ, Option, Some, None, Result, Ok, Err, List, [], ◌∷◌, codes}
use Rattle.std.specs.Str.{bytes_eq}
use Rattle.script_lines.specs.declared.refusals.LineRefusal.{LineRefusal}
use Rattle.script_lines.specs.declared.words.RawWord.{RawWord}
use Rattle.script_lines.specs.Script.{NumberedLine, Script, refused_by}
use Rattle.control_flow.specs.declared.refusals.FlowRefusal.{FlowRefusal}
use Rattle.control_flow.specs.declared.refusals.FlowRefusal.TheVariants.{Line, Budget, NoLabel, IncludeTooDeep, NoMemory}

-- whether the words of a line, as they stand in it, are `label` and this name
abbrev pub is_label : List ℕ → List RawWord → Bool
is_label label [] = false
is_label label (word ∷ []) = false
is_label label (word ∷ name ∷ []) = bytes_eq word.text (codes "label") && bytes_eq name.text label
is_label label (word ∷ name ∷ other ∷ words) = false

-- what is left of these lines behind the first that is the label. A line that cannot be read is refused where it stands before that line
abbrev pub lines_behind : List ℕ → List ℕ → Option LineRefusal → List NumberedLine → Result Script FlowRefusal
lines_behind file label None [] = Err (NoLabel label)
lines_behind file label (Some why) [] = Err (Line file why)
lines_behind file label refusal (line ∷ lines) =
    cond (is_label label line.words) (Ok (record { lines = lines; refusal = refusal })) (lines_behind file label refusal lines)

-- what is left of the script of a file behind a label
abbrev pub behind_label : List ℕ → List ℕ → Script → Result Script FlowRefusal
behind_label file label script = lines_behind file label script.refusal script.lines

-- a script of this file begins with a line that cannot be read; want of memory may come wherever
abbrev pub IsUnread : FlowRefusal → List ℕ → Script → Type 0
IsUnread (Line file why) name script = (file ≡ name) × (script ≡ refused_by why)
IsUnread (Budget file number) name script = ⊥
IsUnread (NoLabel label) name script = ⊥
IsUnread IncludeTooDeep name script = ⊥
IsUnread NoMemory name script = Unit {0}

-- a refusal is the one of a definition; want of memory may come wherever
abbrev pub IsRefusal : {X : Type 0} → FlowRefusal → Result X FlowRefusal → Type 0
IsRefusal NoMemory meant = Unit {0}
IsRefusal why meant = meant ≡ Err why
