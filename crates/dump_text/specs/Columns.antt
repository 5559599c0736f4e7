-- The columns of a dump frame: their keywords, and the columns of the two styles of dumps (after the manual's page on `dump`).
use Rattle.std.specs.Prelude.{Bool, true, false, codes, ℕ, Option, Some, None, List, [], ◌∷◌}
use Rattle.std.specs.List.{find}
use Rattle.std.specs.Str.{bytes_eq}
use Rattle.dump_text.specs.declared.columns.Column.{Column}
use Rattle.dump_text.specs.declared.columns.Column.TheVariants.{Id, Mol, Kind, Mass, X, Y, Z, Xs, Ys, Zs, Ix, Iy, Iz, Vx, Vy, Vz, Fx, Fy, Fz}

-- the keyword of a column
abbrev pub keyword_of : Column → List ℕ
keyword_of Id = codes "id"
keyword_of Mol = codes "mol"
keyword_of Kind = codes "type"
keyword_of Mass = codes "mass"
keyword_of X = codes "x"
keyword_of Y = codes "y"
keyword_of Z = codes "z"
keyword_of Xs = codes "xs"
keyword_of Ys = codes "ys"
keyword_of Zs = codes "zs"
keyword_of Ix = codes "ix"
keyword_of Iy = codes "iy"
keyword_of Iz = codes "iz"
keyword_of Vx = codes "vx"
keyword_of Vy = codes "vy"
keyword_of Vz = codes "vz"
keyword_of Fx = codes "fx"
keyword_of Fy = codes "fy"
keyword_of Fz = codes "fz"

-- all columns
abbrev pub all_columns : List Column
all_columns =
    Id ∷ Mol ∷ Kind ∷ Mass ∷ X ∷ Y ∷ Z ∷ Xs ∷ Ys ∷ Zs ∷ Ix ∷ Iy ∷ Iz ∷ Vx ∷ Vy ∷ Vz ∷ Fx ∷ Fy ∷ Fz ∷ []

-- the column of which a text is the keyword, if there is one
unfoldable pub column_of : List ℕ → Option Column
column_of text = find (λ c. bytes_eq (keyword_of c) text) all_columns

-- the columns of style atom: id, type and position, scaled by the box or not
abbrev pub style_atom : Bool → List Column
style_atom true = Id ∷ Kind ∷ Xs ∷ Ys ∷ Zs ∷ []
style_atom false = Id ∷ Kind ∷ X ∷ Y ∷ Z ∷ []

-- a column before others, where each is one
abbrev pub column_before : Option Column → Option (List Column) → Option (List Column)
column_before None others = None
column_before (Some c) None = None
column_before (Some c) (Some others) = Some (c ∷ others)

-- the columns of style custom: those of the keywords, in their order, none where one of them is no keyword
abbrev pub style_custom : List (List ℕ) → Option (List Column)
style_custom [] = Some []
style_custom (keyword ∷ keywords) = column_before (column_of keyword) (style_custom keywords)
