-- The variables of a script: a list of names, each with its style.
use Rattle.std.specs.Prelude.{◌≡◌, ◌+◌, ◌&&◌, Bool, true, false, not, cond, nat_lt, is_some, ℕ, Option, Some, None, Result, Ok, Err, List, [], ◌∷◌}
use Rattle.std.specs.List.{filter, find, flat_map, list_any}
use Rattle.std.specs.Str.{bytes_eq}
use Rattle.fx_num.specs.declared.faults.VarFault.{VarFault}
use Rattle.fx_num.specs.declared.faults.VarFault.TheVariants.{UnknownVariable, Mixed, NotText, NoMemory}
use Rattle.std.specs.Fmt.{decimal}
use Rattle.var_table.specs.declared.styles.VarStyle.{VarStyle}
use Rattle.var_table.specs.declared.styles.VarStyle.TheVariants.{Index, Loop, Equal, AtomWise, Plain}

-- a variable: its name and its style. The first value of an index variable, and the first number of a loop, is the present one
pub record Named : Type 0 where
  pub name : List ℕ
  pub style : VarStyle

abbrev pub is_named : List ℕ → Named → Bool
is_named name v = bytes_eq v.name name

-- the style of the variable of this name, if there is one
abbrev pub style_in : Option Named → Option VarStyle
style_in (Some v) = Some v.style
style_in None = None

abbrev pub style_of : List Named → List ℕ → Option VarStyle
style_of table name = style_in (find (is_named name) table)

abbrev pub is_there : List Named → List ℕ → Bool
is_there table name = list_any (is_named name) table

-- index and loop leave a name that is there; equal, atom and string define it anew
abbrev pub leaves : VarStyle → Bool
leaves (Index values) = true
leaves (Loop first last) = true
leaves (Equal formula) = false
leaves (AtomWise formula) = false
leaves (Plain text) = false

-- the table with this style for the name, in its place or else at the end
abbrev pub put_in : Bool → Named → List Named → List Named → VarStyle → List Named
put_in true v table rest style = record { name = v.name; style = style } ∷ table
put_in false v table rest style = v ∷ rest

abbrev pub put : List Named → List ℕ → VarStyle → List Named
put [] name style = record { name = name; style = style } ∷ []
put (v ∷ table) name style = put_in (is_named name v) v table (put table name style) style

abbrev pub defined : List Named → List ℕ → VarStyle → List Named
defined table name style = cond (is_there table name && leaves style) table (put table name style)

-- where the first variable of this name stands, from a place on
abbrev pub place_from : ℕ → List Named → List ℕ → Option ℕ
place_from i [] name = None
place_from i (v ∷ table) name = cond (is_named name v) (Some i) (place_from (i + 1) table name)

-- the table without the name
abbrev pub without : List Named → List ℕ → List Named
without table name = filter (λ v. not (is_named name v)) table

-- what a variable holds now: a text, the formula of a value, or the formula of a value for each atom
pub data Held : Type 0 where
  AsText : List ℕ → Held
  AsFormula : List ℕ → Held
  AsAtomFormula : List ℕ → Held

abbrev pub first_of : List (List ℕ) → List ℕ
first_of [] = []
first_of (value ∷ values) = value

-- an index variable holds its present value, a loop its present number in decimal digits
abbrev pub held_by : VarStyle → Held
held_by (Index values) = AsText (first_of values)
held_by (Loop first last) = AsText (decimal first)
held_by (Equal formula) = AsFormula formula
held_by (AtomWise formula) = AsAtomFormula formula
held_by (Plain text) = AsText text

abbrev pub held_in_style : Option VarStyle → Option Held
held_in_style (Some style) = Some (held_by style)
held_in_style None = None

-- what the variable of this name holds, if there is one
abbrev pub held_in : List Named → List ℕ → Option Held
held_in table name = held_in_style (style_of table name)

-- the text that a variable holds; a formula is no text
abbrev pub text_held : List ℕ → Held → Result (List ℕ) VarFault
text_held name (AsText text) = Ok text
text_held name (AsFormula formula) = Err (NotText name)
text_held name (AsAtomFormula formula) = Err (NotText name)

abbrev pub text_or_unknown : Option Held → List ℕ → Result (List ℕ) VarFault
text_or_unknown (Some held) name = text_held name held
text_or_unknown None name = Err (UnknownVariable name)

abbrev pub text_in : List Named → List ℕ → Result (List ℕ) VarFault
text_in table name = text_or_unknown (held_in table name) name

-- the style with its next value, or none where the present value is the last
abbrev pub index_after : List (List ℕ) → Option VarStyle
index_after [] = None
index_after (value ∷ []) = None
index_after (value ∷ next ∷ values) = Some (Index (next ∷ values))

abbrev pub next_style : VarStyle → Option VarStyle
next_style (Index values) = index_after values
next_style (Loop first last) = cond (nat_lt first last) (Some (Loop (first + 1) last)) None
next_style (Equal formula) = None
next_style (AtomWise formula) = None
next_style (Plain text) = None

-- two styles that have a next together: index variables alone, or loop variables alone
abbrev pub go_together : Option VarStyle → Option VarStyle → Bool
go_together (Some (Index values)) (Some (Index others)) = true
go_together (Some (Loop first last)) (Some (Loop low high)) = true
go_together _ _ = false

-- the first name that is not there, and the first with which the names so far have no next
abbrev pub first_unknown : List Named → List (List ℕ) → Option (List ℕ)
first_unknown table names = find (λ name. not (is_there table name)) names

abbrev pub first_unlike : List Named → Option VarStyle → List (List ℕ) → Option (List ℕ)
first_unlike table style names = find (λ name. not (go_together style (style_of table name))) names

abbrev pub first_mixed : List Named → List (List ℕ) → Option (List ℕ)
first_mixed table [] = None
first_mixed table (name ∷ names) = first_unlike table (style_of table name) (name ∷ names)

-- the next value of each variable that is named, once each; one that has none is deleted
abbrev pub is_among : List (List ℕ) → Named → Bool
is_among names v = list_any (λ name. is_named name v) names

abbrev pub with_style : Named → Option VarStyle → List Named
with_style v (Some style) = record { name = v.name; style = style } ∷ []
with_style v None = []

abbrev pub next_of : List (List ℕ) → Named → List Named
next_of names v = cond (is_among names v) (with_style v (next_style v.style)) (v ∷ [])

abbrev pub all_next : List (List ℕ) → List Named → List Named
all_next names table = flat_map (next_of names) table

-- whether a variable that is named has no next value
abbrev pub is_exhausted : List (List ℕ) → Named → Bool
is_exhausted names v = is_among names v && not (is_some (next_style v.style))

-- why names have no next, if they have none
abbrev pub mixed_fault : Option (List ℕ) → Option VarFault
mixed_fault (Some name) = Some (Mixed name)
mixed_fault None = None

abbrev pub fault_of : Option (List ℕ) → Option (List ℕ) → Option VarFault
fault_of (Some name) mixed = Some (UnknownVariable name)
fault_of None mixed = mixed_fault mixed

abbrev pub next_fault : List Named → List (List ℕ) → Option VarFault
next_fault table names = fault_of (first_unknown table names) (first_mixed table names)

-- a refusal is the one of a definition; want of memory may come wherever
abbrev pub IsFault : VarFault → Option VarFault → Type 0
IsFault NoMemory meant = Unit {0}
IsFault why meant = meant ≡ Some why

abbrev pub IsTextFault : VarFault → Result (List ℕ) VarFault → Type 0
IsTextFault NoMemory meant = Unit {0}
IsTextFault why meant = meant ≡ Err why
