-- The words of formulas: keywords, names of functions, and names of variables and computes.
use Rattle.std.specs.Prelude.{◌==◌, ◌||◌, ◌&&◌, cond, Bool, nat_eq, ℕ, Option, Some, None, List, [], ◌∷◌, length, drop, codes}
use Rattle.std.specs.List.{list_any, starts_with}
use Rattle.std.specs.Str.{bytes_eq}
use Rattle.names.specs.Names.{is_id}
use Rattle.formula.specs.declared.tree.Function.{Function}
use Rattle.formula.specs.declared.tree.Function.TheVariants.{Sqrt, Abs, Floor, Ceil, Round}

-- the function of a name
abbrev pub function_of : List ℕ → Option Function
function_of name =
    cond (bytes_eq name (codes "sqrt")) (Some Sqrt)
    (cond (bytes_eq name (codes "abs")) (Some Abs)
    (cond (bytes_eq name (codes "floor")) (Some Floor)
    (cond (bytes_eq name (codes "ceil")) (Some Ceil)
    (cond (bytes_eq name (codes "round")) (Some Round) None))))

-- the keywords that stand for a number: of a run, and of an atom
unfoldable pub keywords : List (List ℕ)
keywords =
    codes "step" ∷ codes "atoms" ∷ codes "dt" ∷ codes "time" ∷ codes "vol" ∷ codes "lx" ∷ codes "ly" ∷ codes "lz"
    ∷ codes "temp" ∷ codes "press" ∷ codes "pe" ∷ codes "ke" ∷ codes "etotal" ∷ codes "epair" ∷ codes "emol"
    ∷ codes "id" ∷ codes "type" ∷ codes "mass" ∷ codes "x" ∷ codes "y" ∷ codes "z" ∷ codes "vx" ∷ codes "vy" ∷ codes "vz" ∷ []

-- the keywords, and the names of the functions
unfoldable pub words : List (List ℕ)
words = codes "sqrt" ∷ codes "abs" ∷ codes "floor" ∷ codes "ceil" ∷ codes "round" ∷ keywords

-- `v_` before the name of a variable, `c_` before that of a compute
abbrev pub has_name_mark : List ℕ → Bool
has_name_mark text = starts_with nat_eq text (codes "v_") || starts_with nat_eq text (codes "c_")

-- an operand with a name: a keyword, `v_NAME` or `c_ID`
abbrev pub is_operand_name : List ℕ → Bool
is_operand_name text = list_any (λ word. bytes_eq word text) keywords || (has_name_mark text && is_id (drop 2 text))

-- a text with which a word begins
abbrev pub is_word_front : List ℕ → Bool
is_word_front text =
    list_any (λ word. starts_with nat_eq word text) words || (has_name_mark text && ((length text == 2) || is_id (drop 2 text)))
