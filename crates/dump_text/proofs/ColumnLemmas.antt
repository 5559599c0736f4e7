-- Keywords and columns are one to one.
use Rattle.std.proofs.Common.{◌≡◌, ◌∙◌, ◌++◌, ℕ, Bool, true, false, cond, Option, Some, None, List, [], ◌∷◌, refl, ap, sym, append_assoc}
use Rattle.std.specs.List.{find}
use Rattle.std.specs.Option.{option_map}
use Rattle.std.specs.Str.{bytes_eq}
use Rattle.std.proofs.lemmas.Slice.Eq.{bytes_eq-Decides}
use Rattle.dump_text.specs.declared.columns.Column.{Column}
use Rattle.dump_text.specs.declared.columns.Column.TheVariants.{Id, Mol, Kind, Mass, X, Y, Z, Xs, Ys, Zs, Ix, Iy, Iz, Vx, Vy, Vz, Fx, Fy, Fz}
use Rattle.dump_text.specs.Columns.{all_columns, column_before, column_of, keyword_of}

-- a column's keyword is that of no column before it
pub reads : (c : Column) → column_of (keyword_of c) ≡ Some c
unfolding column_of
reads Id = refl
reads Mol = refl
reads Kind = refl
reads Mass = refl
reads X = refl
reads Y = refl
reads Z = refl
reads Xs = refl
reads Ys = refl
reads Zs = refl
reads Ix = refl
reads Iy = refl
reads Iz = refl
reads Vx = refl
reads Vy = refl
reads Vz = refl
reads Fx = refl
reads Fy = refl
reads Fz = refl

named_by : (b : Bool) (x c : Column) (text : List ℕ) (rest : Option Column) → bytes_eq (keyword_of x) text ≡ b → cond b (Some x) rest ≡ Some c
    → (rest ≡ Some c → text ≡ keyword_of c) → text ≡ keyword_of c
named_by true x c text rest t e go =
    let same : x ≡ c = cc in
    sym ((bytes_eq-Decides (keyword_of x) text).0 t) ∙ ap keyword_of same
named_by false x c text rest t e go = go e

-- the column that is found has the text as its keyword
named : (cs : List Column) (text : List ℕ) (c : Column) → find (λ x. bytes_eq (keyword_of x) text) cs ≡ Some c → text ≡ keyword_of c
named [] text c e = cc
named (x ∷ cs) text c e =
    named_by (bytes_eq (keyword_of x) text) x c text (find (λ y. bytes_eq (keyword_of y) text) cs) refl e (named cs text c)

pub only : (text : List ℕ) (c : Column) → column_of text ≡ Some c → text ≡ keyword_of c
unfolding column_of
only text c e = named all_columns text c e

-- columns with others behind them
abbrev pub with_others : List Column → Option (List Column) → Option (List Column)
with_others columns others = option_map (λ o. columns ++ o) others

-- one more column
pub column_more : (columns : List Column) (c : Column) (others : Option (List Column)) → with_others (columns ++ c ∷ []) others ≡ with_others columns (column_before (Some c) others)
column_more columns c None = refl
column_more columns c (Some others) = ap Some (append_assoc columns (c ∷ []) others)
