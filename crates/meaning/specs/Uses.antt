-- The uses of file names in a call of the program, and pieces under names. The first use of a name fixes what it is used for; a piece is fresh where it
-- is the first under its name.
use Rattle.std.specs.Prelude.{◌&&◌, Bool, true, false, cond, ℕ, Option, Some, None, Result, Ok, Err, List, [], ◌∷◌, ◌++◌, map}
use Rattle.std.specs.List.{list_any}
use Rattle.std.specs.Str.{bytes_eq}
use Rattle.meaning.specs.declared.code.Code.{Code}
use Rattle.meaning.specs.declared.code.Code.TheVariants as code
use Rattle.meaning.specs.declared.uses.NameUse.{NameUse}
use Rattle.meaning.specs.declared.uses.UseKind.{UseKind}
use Rattle.meaning.specs.declared.uses.UseKind.TheVariants.{Fetched, Put, Kept, Report}
use Rattle.names.specs.Names.{is_compressed}

abbrev pub is_same_kind : UseKind → UseKind → Bool
is_same_kind Fetched Fetched = true
is_same_kind Put Put = true
is_same_kind Kept Kept = true
is_same_kind Report Report = true
is_same_kind a b = false

-- what a name is used for
abbrev pub kind_of : List NameUse → List ℕ → Option UseKind
kind_of [] name = None
kind_of (u ∷ uses) name = cond (bytes_eq u.name name) (Some u.kind) (kind_of uses name)

abbrev pub used_beside : UseKind → List ℕ → List NameUse → Option UseKind → Result (List NameUse) Code
used_beside kind name uses None = Ok (uses ++ record { name = name; kind = kind; begun = false } ∷ [])
used_beside kind name uses (Some old) = cond (is_same_kind kind old) (Ok uses) (Err code.NameUse)

-- the uses once a name is used so; refused where it has another use, and then where it stands for a compressed file
abbrev pub used_as : UseKind → List ℕ → List NameUse → Result (List NameUse) Code
used_as kind name uses = used_beside kind name uses (kind_of uses name)

abbrev pub uncompressed : List ℕ → Result (List NameUse) Code → Result (List NameUse) Code
uncompressed name (Ok uses) = cond (is_compressed name) (Err code.CompressedName) (Ok uses)
uncompressed name (Err why) = Err why

abbrev pub names : UseKind → List ℕ → List NameUse → Result (List NameUse) Code
names kind name uses = uncompressed name (used_as kind name uses)

-- the code with which a use is refused
abbrev pub code_in : Result (List NameUse) Code → Option Code
code_in (Ok uses) = None
code_in (Err why) = Some why

-- whether a piece was put under a name
abbrev pub has_begun : List NameUse → List ℕ → Bool
has_begun uses name = list_any (λ u. u.begun && bytes_eq u.name name) uses

-- the uses once a piece was put under a name
abbrev pub begun_at : List ℕ → NameUse → NameUse
begun_at name u = cond (bytes_eq u.name name) (record u { begun = true }) u

abbrev pub begun : List ℕ → List NameUse → List NameUse
begun name uses = map (begun_at name) uses
