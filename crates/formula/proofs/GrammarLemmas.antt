-- The lexemes of a text from the front, what stands behind an operand, and facts of every tree.
use Rattle.std.proofs.Common.{◌≡◌, ◌==◌, ◌+◌, ◌<◌, ◌&&◌, not, Bool, true, false, ℕ, ℤ, Option, List, [], ◌∷◌, ◌++◌, length, ⊎_elim, arith, refl, sym, ap, ◌∙◌, subst, append_assoc, append-nil}
use Rattle.std.specs.List.{list_all}
use Rattle.std.proofs.lemmas.Bool.{eqb-true}
use Rattle.std.proofs.lemmas.List.{length-append}
use Rattle.std.proofs.lemmas.List.Folds.{list_all-append}
use Rattle.formula.specs.declared.tree.Expr.{Expr}
use Rattle.formula.specs.declared.tree.Expr.TheVariants as expr
use Rattle.formula.specs.declared.tree.Expr.TheOpen.{Expr-F}
use Rattle.formula.specs.declared.tree.Expr.TheFolds.{ind-Expr, map-Expr}
use Rattle.formula.specs.declared.tree.Expr.TheViews.{roll-Expr}
use Rattle.formula.specs.declared.tree.Operator.{Operator}
use Rattle.formula.specs.declared.tree.Sign.{Sign}
use Rattle.formula.specs.declared.tree.Sign.TheVariants.{Minus, Not}
use Rattle.formula.specs.declared.tree.Function.{Function}
use Rattle.formula.specs.Words.{is_operand_name, is_word_front}
use Rattle.formula.specs.Numbers.{begins_number}
use Rattle.formula.specs.Spelling.{Lexeme, Literal, Name, FunctionName, OperatorMark, SignMark, Opening, Closing, sign_text, is_unsigned, IsLexeme, Spells, nothing, and_blank, and_lexeme}
use Rattle.formula.specs.Reading.{is_blank}
use Rattle.formula.proofs.CloseLemmas.{first_true, second_true}
use Rattle.formula.proofs.WordFronts.{either, is_letter, letter_of, operand_fronts, function_fronts}
use Rattle.formula.proofs.LexemeLemmas.{Heads, is_mark, is_no_equals, blank_is_mark, operator_is_mark, open_is_mark, close_is_mark, some_name, some_function}

-- a lexeme at the front of a text, behind blanks, and what is said of the rest
pub record First (at : ℕ) (text : List ℕ) (one : Lexeme) (Then : ℕ → List ℕ → Type 0) : Type 0 where
  pub blanks : List ℕ
  pub bytes : List ℕ
  pub rest : List ℕ
  pub is_text : text ≡ blanks ++ (bytes ++ rest)
  pub all_blank : list_all is_blank blanks ≡ true
  pub is_lexeme : IsLexeme (at + length blanks) bytes one
  pub behind : Then (at + length blanks + length bytes) rest

-- a text from a place on is these lexemes, read from the front
abbrev pub Spelled : ℕ → List ℕ → List Lexeme → Type 0
Spelled at text [] = list_all is_blank text ≡ true
Spelled at text (one ∷ lexemes) = First at text one (λ place rest. Spelled place rest lexemes)

blank_behind : (lexemes : List Lexeme) (at : ℕ) (text : List ℕ) (c : ℕ) → is_blank c ≡ true → Spelled at text lexemes → Spelled at (text ++ c ∷ []) lexemes
blank_behind [] at text c blank spelled = list_all-append is_blank text (c ∷ []) ∙ rw spelled (rw blank refl)
blank_behind (one ∷ lexemes) at text c blank f = record {
  blanks = f.blanks;
  bytes = f.bytes;
  rest = f.rest ++ c ∷ [];
  is_text = ap (λ t. t ++ c ∷ []) f.is_text ∙ append_assoc f.blanks (f.bytes ++ f.rest) (c ∷ []) ∙ ap (λ t. f.blanks ++ t) (append_assoc f.bytes f.rest (c ∷ []));
  all_blank = f.all_blank;
  is_lexeme = f.is_lexeme;
  behind = blank_behind lexemes (at + length f.blanks + length f.bytes) f.rest c blank f.behind;
}

lexeme_behind : (lexemes : List Lexeme) (at place : ℕ) (text bytes : List ℕ) (last : Lexeme) → place ≡ at + length text → IsLexeme place bytes last → Spelled at text lexemes → Spelled at (text ++ bytes) (lexemes ++ last ∷ [])
lexeme_behind [] at place text bytes last here is spelled = record {
  blanks = text;
  bytes = bytes;
  rest = [];
  is_text = ap (λ t. text ++ t) (sym (append-nil bytes));
  all_blank = spelled;
  is_lexeme = subst (λ (p : ℕ). IsLexeme p bytes last) here is;
  behind = refl;
}
lexeme_behind (one ∷ lexemes) at place text bytes last here is f =
    let long : length text ≡ length f.blanks + (length f.bytes + length f.rest) = ap length f.is_text ∙ length-append f.blanks (f.bytes ++ f.rest) ∙ ap (λ (n : ℕ). length f.blanks + n) (length-append f.bytes f.rest) in
    record {
      blanks = f.blanks;
      bytes = f.bytes;
      rest = f.rest ++ bytes;
      is_text = ap (λ t. t ++ bytes) f.is_text ∙ append_assoc f.blanks (f.bytes ++ f.rest) bytes ∙ ap (λ t. f.blanks ++ t) (append_assoc f.bytes f.rest bytes);
      all_blank = f.all_blank;
      is_lexeme = f.is_lexeme;
      behind = lexeme_behind lexemes (at + length f.blanks + length f.bytes) place f.rest bytes last (omega (arith, here, long)) is f.behind;
    }

pub from_front : (text : List ℕ) (lexemes : List Lexeme) → Spells text lexemes → Spelled 0 text lexemes
from_front text lexemes nothing = refl
from_front text lexemes (and_blank before some c blank told) = blank_behind some 0 before c blank (from_front before some told)
from_front text lexemes (and_lexeme before some bytes one is told) = lexeme_behind some 0 (length before) before bytes one (omega arith) is (from_front before some told)

-- what stands behind an operand: an operator, a closing parenthesis or nothing
abbrev pub ends_operand : List Lexeme → Bool
ends_operand [] = true
ends_operand (OperatorMark place o ∷ lexemes) = true
ends_operand (Closing ∷ lexemes) = true
ends_operand (Literal place units ∷ lexemes) = false
ends_operand (Name place name ∷ lexemes) = false
ends_operand (FunctionName place f ∷ lexemes) = false
ends_operand (SignMark s ∷ lexemes) = false
ends_operand (Opening ∷ lexemes) = false

-- the first byte of a text from that of its first lexeme
heads_first : (test : ℕ → Bool) (text blanks bytes rest : List ℕ) → text ≡ blanks ++ (bytes ++ rest) → list_all is_blank blanks ≡ true → ((c : ℕ) → is_blank c ≡ true → test c ≡ true) → Heads test (bytes ++ rest) → Heads test text
heads_first test text [] bytes rest is all blank head = subst (Heads test) (sym is) head
heads_first test text (c ∷ blanks) bytes rest is all blank head = subst (Heads test) (sym is) (blank c (first_true (is_blank c) (list_all is_blank blanks) all))

blank_heads : (text : List ℕ) → list_all is_blank text ≡ true → Heads is_mark text
blank_heads [] all = tt
blank_heads (c ∷ text) all = blank_is_mark c (first_true (is_blank c) (list_all is_blank text) all)

mark_heads : (one : Lexeme) (at : ℕ) (bytes rest : List ℕ) → ends_operand (one ∷ []) ≡ true → IsLexeme at bytes one → Heads is_mark (bytes ++ rest)
mark_heads (OperatorMark place o) at bytes rest ends is = subst (λ b. Heads is_mark (b ++ rest)) (sym is.1) (operator_is_mark o rest)
mark_heads Closing at bytes rest ends is = subst (λ b. Heads is_mark (b ++ rest)) (sym is) close_is_mark
mark_heads (Literal place units) at bytes rest ends is = absurd (cc)
mark_heads (Name place name) at bytes rest ends is = absurd (cc)
mark_heads (FunctionName place f) at bytes rest ends is = absurd (cc)
mark_heads (SignMark s) at bytes rest ends is = absurd (cc)
mark_heads Opening at bytes rest ends is = absurd (cc)

ends_first : (one : Lexeme) (lexemes : List Lexeme) → ends_operand (one ∷ lexemes) ≡ true → ends_operand (one ∷ []) ≡ true
ends_first (OperatorMark place o) lexemes ends = refl
ends_first Closing lexemes ends = refl
ends_first (Literal place units) lexemes ends = ends
ends_first (Name place name) lexemes ends = ends
ends_first (FunctionName place f) lexemes ends = ends
ends_first (SignMark s) lexemes ends = ends
ends_first Opening lexemes ends = ends

pub mark_behind : (lexemes : List Lexeme) (at : ℕ) (text : List ℕ) → ends_operand lexemes ≡ true → Spelled at text lexemes → Heads is_mark text
mark_behind [] at text ends spelled = blank_heads text spelled
mark_behind (one ∷ lexemes) at text ends f = heads_first is_mark text f.blanks f.bytes f.rest f.is_text f.all_blank blank_is_mark (mark_heads one (at + length f.blanks) f.bytes f.rest (ends_first one lexemes ends) f.is_lexeme)

pub opening_behind : (lexemes : List Lexeme) (at : ℕ) (text : List ℕ) → Spelled at text (Opening ∷ lexemes) → Heads is_mark text
opening_behind lexemes at text f = heads_first is_mark text f.blanks f.bytes f.rest f.is_text f.all_blank blank_is_mark (subst (λ b. Heads is_mark (b ++ f.rest)) (sym f.is_lexeme) open_is_mark)

-- what an operand begins with is no `=`
abbrev pub starts_operand : List Lexeme → Bool
starts_operand [] = false
starts_operand (OperatorMark place o ∷ lexemes) = false
starts_operand (Closing ∷ lexemes) = false
starts_operand (Literal place units ∷ lexemes) = true
starts_operand (Name place name ∷ lexemes) = true
starts_operand (FunctionName place f ∷ lexemes) = true
starts_operand (SignMark s ∷ lexemes) = true
starts_operand (Opening ∷ lexemes) = true

pub starts_more : (xs ys : List Lexeme) → starts_operand xs ≡ true → starts_operand (xs ++ ys) ≡ true
starts_more [] ys starts = absurd (cc)
starts_more (OperatorMark place o ∷ xs) ys starts = absurd (cc)
starts_more (Closing ∷ xs) ys starts = absurd (cc)
starts_more (Literal place units ∷ xs) ys starts = refl
starts_more (Name place name ∷ xs) ys starts = refl
starts_more (FunctionName place f ∷ xs) ys starts = refl
starts_more (SignMark s ∷ xs) ys starts = refl
starts_more (Opening ∷ xs) ys starts = refl

blank_is_no_equals : (c : ℕ) → is_blank c ≡ true → is_no_equals c ≡ true
blank_is_no_equals c blank = ⊎_elim (λ space. ap is_no_equals (eqb-true c 32 space)) (λ tab. ap is_no_equals (eqb-true c 9 tab)) (either (c == 32) (c == 9) blank)

letter_is_no_equals : (c : ℕ) → is_letter c ≡ true → is_no_equals c ≡ true
letter_is_no_equals c letter = second_true (not (begins_number c)) (not (c == 61)) (second_true (not (c == 40)) (not (begins_number c) && not (c == 61)) (second_true (not (is_blank c)) (not (c == 40) && (not (begins_number c) && not (c == 61))) letter))

digit_is_no_equals : (c : ℕ) → begins_number c ≡ true → is_no_equals c ≡ true
digit_is_no_equals c begins = by_test (c == 61) refl
  where
    by_test : (b : Bool) → (c == 61) ≡ b → not b ≡ true
    by_test false e = refl
    by_test true e = let never : begins_number 61 ≡ true = subst (λ (z : ℕ). begins_number z ≡ true) (eqb-true c 61 e) begins in absurd (cc)

literal_heads : (bytes rest : List ℕ) → is_unsigned bytes ≡ true → Heads is_no_equals (bytes ++ rest)
literal_heads [] rest unsigned = absurd (cc)
literal_heads (c ∷ bytes) rest unsigned = digit_is_no_equals c unsigned

word_heads : (bytes rest : List ℕ) → 0 < length bytes → ((p q : List ℕ) → p ++ q ≡ bytes → 0 < length p → is_word_front p ≡ true) → Heads is_no_equals (bytes ++ rest)
word_heads [] rest some fronts = absurd (omega arith)
word_heads (c ∷ bytes) rest some fronts = letter_is_no_equals c (letter_of c (fronts (c ∷ []) bytes refl (omega arith)))

sign_heads : (s : Sign) (rest : List ℕ) → Heads is_no_equals (sign_text s ++ rest)
sign_heads Minus rest = refl
sign_heads Not rest = refl

start_heads : (one : Lexeme) (at : ℕ) (bytes rest : List ℕ) → starts_operand (one ∷ []) ≡ true → IsLexeme at bytes one → Heads is_no_equals (bytes ++ rest)
start_heads (OperatorMark place o) at bytes rest starts is = absurd (cc)
start_heads Closing at bytes rest starts is = absurd (cc)
start_heads (Literal place units) at bytes rest starts is = literal_heads bytes rest is.1
start_heads (Name place name) at bytes rest starts is =
    let name_is : is_operand_name bytes ≡ true = ap is_operand_name is.1 ∙ is.2 in
    word_heads bytes rest (some_name bytes name_is) (operand_fronts bytes name_is)
start_heads (FunctionName place f) at bytes rest starts is = word_heads bytes rest (some_function bytes f is.1) (function_fronts bytes f is.1)
start_heads (SignMark s) at bytes rest starts is = subst (λ b. Heads is_no_equals (b ++ rest)) (sym is) (sign_heads s rest)
start_heads Opening at bytes rest starts is = subst (λ b. Heads is_no_equals (b ++ rest)) (sym is) refl

starts_first : (one : Lexeme) (lexemes : List Lexeme) → starts_operand (one ∷ lexemes) ≡ true → starts_operand (one ∷ []) ≡ true
starts_first (OperatorMark place o) lexemes starts = starts
starts_first Closing lexemes starts = starts
starts_first (Literal place units) lexemes starts = refl
starts_first (Name place name) lexemes starts = refl
starts_first (FunctionName place f) lexemes starts = refl
starts_first (SignMark s) lexemes starts = refl
starts_first Opening lexemes starts = refl

pub start_behind : (lexemes : List Lexeme) (at : ℕ) (text : List ℕ) → starts_operand lexemes ≡ true → Spelled at text lexemes → Heads is_no_equals text
start_behind [] at text starts spelled = absurd (cc)
start_behind (one ∷ lexemes) at text starts f = heads_first is_no_equals text f.blanks f.bytes f.rest f.is_text f.all_blank blank_is_no_equals (start_heads one (at + length f.blanks) f.bytes f.rest (starts_first one lexemes starts) f.is_lexeme)

-- a fact of every tree, from each kind
pub record Kinds (P : Expr → Type 0) : Type 0 where
  pub number : (place : ℕ) (units : Option ℤ) → P (expr.Number place units)
  pub named : (place : ℕ) (name : List ℕ) → P (expr.Named place name)
  pub group : (inner : Expr) → P inner → P (expr.Group inner)
  pub call : (place : ℕ) (f : Function) (inner : Expr) → P inner → P (expr.Call place f inner)
  pub signed : (s : Sign) (inner : Expr) → P inner → P (expr.Signed s inner)
  pub binary : (place : ℕ) (o : Operator) (left right : Expr) → P left → P right → P (expr.Binary place o left right)

by_kind : (P : Expr → Type 0) → Kinds P → (y : Expr-F ((t : Expr) × P t)) → P (roll-Expr (map-Expr ((t : Expr) × P t) Expr (λ k. k.0) y))
by_kind P kinds (Expr-F.Number place units) = subst P (sym (expr.rolls-Number place units)) (kinds.number place units)
by_kind P kinds (Expr-F.Named place name) = subst P (sym (expr.rolls-Named place name)) (kinds.named place name)
by_kind P kinds (Expr-F.Group inner) = subst P (sym (expr.rolls-Group inner.0)) (kinds.group inner.0 inner.1)
by_kind P kinds (Expr-F.Call place f inner) = subst P (sym (expr.rolls-Call place f inner.0)) (kinds.call place f inner.0 inner.1)
by_kind P kinds (Expr-F.Signed s inner) = subst P (sym (expr.rolls-Signed s inner.0)) (kinds.signed s inner.0 inner.1)
by_kind P kinds (Expr-F.Binary place o left right) = subst P (sym (expr.rolls-Binary place o left.0 right.0)) (kinds.binary place o left.0 right.0 left.1 right.1)

pub every_tree : (P : Expr → Type 0) → Kinds P → (tree : Expr) → P tree
every_tree P kinds tree = ind-Expr P (λ x y is. subst (λ z. P (roll-Expr z)) is (by_kind P kinds y)) tree
