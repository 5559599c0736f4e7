-- Fixes as a script defines them. A fix of the name, group and style of an old one takes its place.
use Rattle.std.specs.Prelude.{◌&&◌, Bool, cond, is_some, nat_le, not, ℕ, Result, Ok, Err, List, [], ◌∷◌, ◌++◌, map}
use Rattle.std.specs.List.{filter, list_any}
use Rattle.std.specs.Str.{bytes_eq}
use Rattle.box_geo.specs.declared.atoms.Atom.{Atom}
use Rattle.fix_list.specs.declared.fixes.Fix.TheVariants.{Nve}
use Rattle.fix_list.specs.declared.fixes.NamedFix.{NamedFix}
use Rattle.fix_list.specs.Fixes.{movers}
use Rattle.meaning.specs.declared.code.Code.{Code}
use Rattle.meaning.specs.declared.code.Code.TheVariants.{NameExists, NoBox, UnknownName}
use Rattle.command_words.specs.declared.fixes.NewFix.{NewFix}
use Rattle.meaning.specs.declared.settings.Settings.{Settings}
use Rattle.meaning.specs.MassesGroups.{ids_in, ids_of}
use Rattle.regions_groups.specs.declared.group_table.NamedGroup.{NamedGroup}
use Rattle.regions_groups.specs.Groups.{is_there}

abbrev pub has_fix : List NewFix → List ℕ → Bool
has_fix fixes id = list_any (λ f. bytes_eq f.id id) fixes

-- whether a fix of this ID has another group
abbrev pub has_other : List NewFix → NewFix → Bool
has_other fixes new = list_any (λ f. bytes_eq f.id new.id && not (bytes_eq f.group new.group)) fixes

-- a fix more; one of the ID, group and style of an old one takes its place. There is one style yet.
abbrev pub fixes_with : NewFix → List NewFix → Result (List NewFix) Code
fixes_with new fixes = cond (has_other fixes new) (Err NameExists) (Ok (cond (has_fix fixes new.id) fixes (fixes ++ new ∷ [])))

abbrev pub with_fixes : Settings → Result (List NewFix) Code → Result Settings Code
with_fixes s (Ok fixes) = cond (is_some s.body) (Ok (record s { named = record s.named { fixes = fixes } })) (Err NoBox)
with_fixes s (Err why) = Err why

abbrev pub fix : NewFix → Settings → Result Settings Code
fix f s = cond (is_there s.named.groups f.group) (with_fixes s (fixes_with f s.named.fixes)) (Err UnknownName)

abbrev pub fixes_without : List ℕ → List NewFix → List NewFix
fixes_without name fixes = filter (λ f. not (bytes_eq f.id name)) fixes

abbrev pub unfix : List ℕ → Settings → Result Settings Code
unfix name s =
    cond (has_fix s.named.fixes name)
    (Ok (record s { named = record s.named { fixes = fixes_without name s.named.fixes } }))
    (Err UnknownName)

-- the fixes of a run, with the members that their groups have when it begins
abbrev pub fix_over : List NamedGroup → List Atom → NewFix → NamedFix
fix_over groups atoms f = record { name = f.id; fix = Nve (ids_in groups atoms f.group) }

abbrev pub fixes_over : List NamedGroup → List Atom → List NewFix → List NamedFix
fixes_over groups atoms fixes = map (fix_over groups atoms) fixes

-- whether two fixes of a list move an atom
abbrev pub is_twice : List NamedFix → ℕ → Bool
is_twice fixes id = nat_le 2 (movers fixes id)

abbrev pub move_twice : List NamedFix → List Atom → Bool
move_twice fixes atoms = list_any (is_twice fixes) (ids_of atoms)
