-- `group` by the values of a variable: it adds the atoms for which the value is not 0.
use Rattle.std.specs.Prelude.{Bool, false, not, cond, ℕ, ℤ, pos, Option, Some, None, Result, Ok, Err, List, [], ◌∷◌}
use Rattle.std.specs.List.{filter}
use Rattle.std.specs.Ordering.{int_eq}
use Rattle.box_geo.specs.declared.atoms.Atom.{Atom}
use Rattle.meaning.specs.declared.code.Code.{Code}
use Rattle.meaning.specs.declared.code.Code.TheVariants.{NoBox, UnknownName}
use Rattle.meaning.specs.declared.settings.Body.{Body}
use Rattle.meaning.specs.declared.settings.Settings.{Settings}
use Rattle.meaning.specs.Known.{atom_numbers, known_in}
use Rattle.meaning.specs.MassesGroups.{groups_with, ids_of, with_groups}
use Rattle.meaning.specs.Variables.{valued}
use Rattle.var_table.specs.Variables.{is_there}
use Rattle.variable_values.specs.Values.{value_of}

-- the value of a variable for an atom
abbrev pub value_for : Settings → Body → List ℕ → Atom → Result ℤ Code
value_for s b name a = valued (value_of s.vars (record { state = known_in s; atom = atom_numbers b.mass a }) name 0)

-- the code of the first atom, in order of id, for which the variable has no value
abbrev pub code_or : Result ℤ Code → Option Code → Option Code
code_or (Ok v) rest = rest
code_or (Err why) rest = Some why

abbrev pub first_code : (Atom → Result ℤ Code) → List Atom → Option Code
first_code value [] = None
first_code value (a ∷ atoms) = code_or (value a) (first_code value atoms)

-- the ids of the atoms for which the value is not 0
abbrev pub is_nonzero : Result ℤ Code → Bool
is_nonzero (Ok v) = not (int_eq v (pos 0))
is_nonzero (Err why) = false

abbrev pub nonzero_ids : (Atom → Result ℤ Code) → List Atom → List ℕ
nonzero_ids value atoms = ids_of (filter (λ a. is_nonzero (value a)) atoms)

abbrev pub unless_coded : Option Code → List ℕ → Result (List ℕ) Code
unless_coded (Some why) ids = Err why
unless_coded None ids = Ok ids

abbrev pub valued_ids : (Atom → Result ℤ Code) → List Atom → Result (List ℕ) Code
valued_ids value atoms = unless_coded (first_code value atoms) (nonzero_ids value atoms)

abbrev pub with_ids : Settings → List ℕ → Result (List ℕ) Code → Result Settings Code
with_ids s id (Ok ids) = with_groups s (groups_with s.named.groups id ids)
with_ids s id (Err why) = Err why

abbrev pub grouped_by_values : List ℕ → List ℕ → Settings → Option Body → Result Settings Code
grouped_by_values id name s None = Err NoBox
grouped_by_values id name s (Some b) = with_ids s id (valued_ids (value_for s b name) b.atoms)

-- the group's name, and the variable's
abbrev pub group_by_values : List ℕ → List ℕ → Settings → Result Settings Code
group_by_values id name s = cond (is_there s.vars name) (grouped_by_values id name s s.body) (Err UnknownName)
