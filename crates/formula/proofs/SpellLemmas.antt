-- A text that is read spells its tree.
use Rattle.std.proofs.Common.{◌≡◌, ◌==◌, ◌+◌, ◌&&◌, cond, nat_le, Bool, true, false, ℕ, ℤ, Option, Ok, Err, Some, None, List, [], ◌∷◌, ◌++◌, length, arith, refl, sym, ap, ◌∙◌, subst, append_assoc, append-nil}
use Rattle.std.proofs.lemmas.Bool.{eqb-true}
use Rattle.std.proofs.lemmas.List.{length-append}
use Rattle.formula.proofs.CloseLemmas.{first_true, second_true}
use Rattle.formula.specs.declared.tree.Expr.{Expr}
use Rattle.formula.specs.declared.tree.Expr.TheVariants as expr
use Rattle.formula.specs.declared.tree.Expr.TheOpen.{Expr-F}
use Rattle.formula.specs.declared.tree.Expr.TheFolds.{fold-roll-Expr}
use Rattle.formula.specs.declared.tree.Operator.{Operator}
use Rattle.formula.specs.declared.tree.Operator.TheVariants.{Or, And, Equal, NotEqual, Less, LessEqual, Greater, GreaterEqual, Add, Subtract, Multiply, Divide, Remainder, Power}
use Rattle.formula.specs.declared.tree.Sign.{Sign}
use Rattle.formula.specs.declared.tree.Sign.TheVariants.{Minus, Not}
use Rattle.formula.specs.declared.tree.Function.{Function}
use Rattle.formula.specs.declared.state.Frame.{Frame}
use Rattle.formula.specs.declared.state.Frame.TheVariants.{Group, Call, Signed, Left}
use Rattle.formula.specs.declared.state.State.{State}
use Rattle.formula.specs.declared.state.State.TheVariants.{Needs, Called, Has, Number, Word, Half}
use Rattle.formula.specs.Words.{function_of, is_operand_name, is_word_front}
use Rattle.formula.specs.Numbers.{literal_of, is_number_front, begins_number}
use Rattle.formula.specs.Spelling.{Lexeme, Literal, Name, FunctionName, OperatorMark, SignMark, Opening, Closing, operator_text, sign_text, is_unsigned, IsLexeme, Spells, and_blank, and_lexeme, spelling, spelling_step}
use Rattle.formula.specs.Reading.{level_of, begins_pair, run, step, ok_or, finish, complete, whole, ended, close, joined, with_operator, signed, sign_of, is_blank, is_behind_power, after_need, after_call, after_operand, operated, operator_of, outside, second, pair_of, single_of, number_end, word_end, literal, called_by}

pub spells_number : (place : ℕ) (units : Option ℤ) → spelling (expr.Number place units) ≡ Literal place units ∷ []
spells_number place units = ap spelling (sym (expr.rolls-Number place units)) ∙ fold-roll-Expr (List Lexeme) spelling_step (Expr-F.Number place units)

pub spells_named : (place : ℕ) (name : List ℕ) → spelling (expr.Named place name) ≡ Name place name ∷ []
spells_named place name = ap spelling (sym (expr.rolls-Named place name)) ∙ fold-roll-Expr (List Lexeme) spelling_step (Expr-F.Named place name)

pub spells_group : (inner : Expr) → spelling (expr.Group inner) ≡ Opening ∷ (spelling inner ++ Closing ∷ [])
spells_group inner = ap spelling (sym (expr.rolls-Group inner)) ∙ fold-roll-Expr (List Lexeme) spelling_step (Expr-F.Group inner)

pub spells_call : (place : ℕ) (f : Function) (inner : Expr) → spelling (expr.Call place f inner) ≡ FunctionName place f ∷ (Opening ∷ (spelling inner ++ Closing ∷ []))
spells_call place f inner = ap spelling (sym (expr.rolls-Call place f inner)) ∙ fold-roll-Expr (List Lexeme) spelling_step (Expr-F.Call place f inner)

pub spells_signed : (s : Sign) (inner : Expr) → spelling (expr.Signed s inner) ≡ SignMark s ∷ spelling inner
spells_signed s inner = ap spelling (sym (expr.rolls-Signed s inner)) ∙ fold-roll-Expr (List Lexeme) spelling_step (Expr-F.Signed s inner)

pub spells_binary : (place : ℕ) (o : Operator) (left right : Expr) → spelling (expr.Binary place o left right) ≡ spelling left ++ (OperatorMark place o ∷ spelling right)
spells_binary place o left right = ap spelling (sym (expr.rolls-Binary place o left right)) ∙ fold-roll-Expr (List Lexeme) spelling_step (Expr-F.Binary place o left right)

-- what was read before what is open now
abbrev pub before : List Frame → List Lexeme
before [] = []
before (Group ∷ frames) = before frames ++ Opening ∷ []
before (Call at f ∷ frames) = (before frames ++ FunctionName at f ∷ []) ++ Opening ∷ []
before (Signed s ∷ frames) = before frames ++ SignMark s ∷ []
before (Left at o left ∷ frames) = (before frames ++ spelling left) ++ OperatorMark at o ∷ []

-- joining changes no lexeme
joined_spells : (m : ℕ) (frames : List Frame) (e : Expr) → before (joined m frames e).0 ++ spelling (joined m frames e).1 ≡ before frames ++ spelling e
joined_spells m [] e = refl
joined_spells m (Group ∷ frames) e = refl
joined_spells m (Call at f ∷ frames) e = refl
joined_spells m (Signed s ∷ frames) e = by_test (nat_le m 7) (joined_spells m frames (expr.Signed s e))
  where
    by_test : (b : Bool) → before (joined m frames (expr.Signed s e)).0 ++ spelling (joined m frames (expr.Signed s e)).1 ≡ before frames ++ spelling (expr.Signed s e) → before (cond b (joined m frames (expr.Signed s e)) (Signed s ∷ frames, e)).0 ++ spelling (cond b (joined m frames (expr.Signed s e)) (Signed s ∷ frames, e)).1 ≡ (before frames ++ SignMark s ∷ []) ++ spelling e
    by_test true again = again ∙ ap (λ x. before frames ++ x) (spells_signed s e) ∙ sym (append_assoc (before frames) (SignMark s ∷ []) (spelling e))
    by_test false again = refl
joined_spells m (Left at o left ∷ frames) e = by_test (nat_le m (level_of o)) (joined_spells m frames (expr.Binary at o left e))
  where
    by_test : (b : Bool) → before (joined m frames (expr.Binary at o left e)).0 ++ spelling (joined m frames (expr.Binary at o left e)).1 ≡ before frames ++ spelling (expr.Binary at o left e) → before (cond b (joined m frames (expr.Binary at o left e)) (Left at o left ∷ frames, e)).0 ++ spelling (cond b (joined m frames (expr.Binary at o left e)) (Left at o left ∷ frames, e)).1 ≡ ((before frames ++ spelling left) ++ OperatorMark at o ∷ []) ++ spelling e
    by_test true again = again ∙ ap (λ x. before frames ++ x) (spells_binary at o left e) ∙ sym (append_assoc (before frames) (spelling left) (OperatorMark at o ∷ spelling e)) ∙ sym (append_assoc (before frames ++ spelling left) (OperatorMark at o ∷ []) (spelling e))
    by_test false again = refl

-- a part of the text that is being read, behind what is spelled
pub record Part (text : List ℕ) (lexemes : List Lexeme) (place : ℕ) (bytes : List ℕ) : Type 0 where
  pub front : List ℕ
  pub is_text : text ≡ front ++ bytes
  pub spelled : Spells front lexemes
  pub is_place : place ≡ length front

-- what is known of the text before a state
abbrev pub Told : List ℕ → State → Type 0
Told text (Needs frames) = Spells text (before frames)
Told text (Called frames at f) = Spells text (before frames ++ FunctionName at f ∷ [])
Told text (Has frames e) = Spells text (before frames ++ spelling e)
Told text (Number frames at bytes) = Part text (before frames) at bytes × (is_unsigned bytes ≡ true)
Told text (Word frames at bytes) = Part text (before frames) at bytes
Told text (Half frames e at first) = Part text (before frames ++ spelling e) at (first ∷ [])

abbrev pub ToldNext : List ℕ → Option State → Type 0
ToldNext text None = Unit {0}
ToldNext text (Some s) = Told text s

either_next : (text : List ℕ) (b : Bool) (x y : Option State) → (b ≡ true → ToldNext text x) → (b ≡ false → ToldNext text y) → ToldNext text (cond b x y)
either_next text true x y first second = first refl
either_next text false x y first second = second refl

one_byte : (c n : ℕ) → (c == n) ≡ true → c ∷ [] ≡ n ∷ []
one_byte c n same = ap (λ (x : ℕ). x ∷ []) (eqb-true c n same)

-- the marks
by_mark : (b : Bool) (o : Operator) (c n : ℕ) (rest : Option Operator) → (c == n) ≡ b → operator_text o ≡ n ∷ [] → ((p : Operator) → rest ≡ Some p → c ∷ [] ≡ operator_text p) → (p : Operator) → cond b (Some o) rest ≡ Some p → c ∷ [] ≡ operator_text p
by_mark true o c n rest same text again p is = let one : o ≡ p = cc in one_byte c n same ∙ sym text ∙ ap operator_text one
by_mark false o c n rest same text again p is = again p is

operator_bytes : (c : ℕ) (o : Operator) → operator_of c ≡ Some o → c ∷ [] ≡ operator_text o
operator_bytes c =
    by_mark (c == 43) Add c 43 _ refl refl (by_mark (c == 45) Subtract c 45 _ refl refl (by_mark (c == 42) Multiply c 42 _ refl refl (by_mark (c == 47) Divide c 47 _ refl refl (by_mark (c == 37) Remainder c 37 _ refl refl (by_mark (c == 94) Power c 94 None refl refl (λ p is. absurd (cc)))))))

single_bytes : (c : ℕ) (o : Operator) → single_of c ≡ Some o → c ∷ [] ≡ operator_text o
single_bytes c = by_mark (c == 60) Less c 60 _ refl refl (by_mark (c == 62) Greater c 62 None refl refl (λ p is. absurd (cc)))

sign_bytes : (c : ℕ) (s : Sign) → sign_of c ≡ Some s → c ∷ [] ≡ sign_text s
sign_bytes c s is = minus (c == 45) refl is
  where
    exclamation : (b : Bool) → (c == 33) ≡ b → cond b (Some Not) None ≡ Some s → c ∷ [] ≡ sign_text s
    exclamation true same e = let one : Not ≡ s = cc in one_byte c 33 same ∙ ap sign_text one
    exclamation false other e = absurd (cc)

    minus : (b : Bool) → (c == 45) ≡ b → cond b (Some Minus) (cond (c == 33) (Some Not) None) ≡ Some s → c ∷ [] ≡ sign_text s
    minus true same e = let one : Minus ≡ s = cc in one_byte c 45 same ∙ ap sign_text one
    minus false other e = exclamation (c == 33) refl e

by_marks : (b : Bool) (o : Operator) (first c m n : ℕ) (rest : Option Operator) → ((first == m) && (c == n)) ≡ b → operator_text o ≡ m ∷ n ∷ [] → ((p : Operator) → rest ≡ Some p → first ∷ c ∷ [] ≡ operator_text p) → (p : Operator) → cond b (Some o) rest ≡ Some p → first ∷ c ∷ [] ≡ operator_text p
by_marks true o first c m n rest same text again p is =
    let one : o ≡ p = cc in
    let a : first ≡ m = eqb-true first m (first_true (first == m) (c == n) same) in
    let b : c ≡ n = eqb-true c n (second_true (first == m) (c == n) same) in
    ap (λ (x : ℕ). x ∷ c ∷ []) a ∙ ap (λ (x : ℕ). m ∷ x ∷ []) b ∙ sym text ∙ ap operator_text one
by_marks false o first c m n rest same text again p is = again p is

pair_bytes : (first c : ℕ) (o : Operator) → pair_of first c ≡ Some o → first ∷ c ∷ [] ≡ operator_text o
pair_bytes first c =
    by_marks ((first == 38) && (c == 38)) And first c 38 38 _ refl refl (by_marks ((first == 124) && (c == 124)) Or first c 124 124 _ refl refl (by_marks ((first == 60) && (c == 61)) LessEqual first c 60 61 _ refl refl (by_marks ((first == 62) && (c == 61)) GreaterEqual first c 62 61 _ refl refl (by_marks ((first == 61) && (c == 61)) Equal first c 61 61 _ refl refl (by_marks ((first == 33) && (c == 61)) NotEqual first c 33 61 None refl refl (λ p is. absurd (cc)))))))

-- a lexeme of the byte that was read
with_byte : (text : List ℕ) (lexemes : List Lexeme) (c : ℕ) (one : Lexeme) → IsLexeme (length text) (c ∷ []) one → Spells text lexemes → Spells (text ++ c ∷ []) (lexemes ++ one ∷ [])
with_byte text lexemes c one is told = and_lexeme text lexemes (c ∷ []) one is told

-- a part that is complete
with_part : (text : List ℕ) (lexemes : List Lexeme) (place : ℕ) (bytes : List ℕ) (one : Lexeme) → (part : Part text lexemes place bytes) → IsLexeme (length part.front) bytes one → Spells text (lexemes ++ one ∷ [])
with_part text lexemes place bytes one part is = subst (λ x. Spells x (lexemes ++ one ∷ [])) (sym part.is_text) (and_lexeme part.front lexemes bytes one is part.spelled)

-- a part with a byte more
longer_part : (text : List ℕ) (lexemes : List Lexeme) (place : ℕ) (bytes : List ℕ) (c : ℕ) → Part text lexemes place bytes → Part (text ++ c ∷ []) lexemes place (bytes ++ c ∷ [])
longer_part text lexemes place bytes c part = record {
  front = part.front;
  is_text = ap (λ x. x ++ c ∷ []) part.is_text ∙ append_assoc part.front bytes (c ∷ []);
  spelled = part.spelled;
  is_place = part.is_place;
}

-- an operator behind an operand
operator_told : (text : List ℕ) (at : ℕ) (o : Operator) (frames : List Frame) (e : Expr) → Spells text ((before frames ++ spelling e) ++ OperatorMark at o ∷ []) → Spells text (before (with_operator at o frames e))
operator_told text at o frames e told = subst (λ x. Spells text (x ++ OperatorMark at o ∷ [])) (sym (joined_spells (level_of o) frames e)) told

operated_told : (text : List ℕ) (at : ℕ) (o : Option Operator) (frames : List Frame) (e : Expr) → ((p : Operator) → o ≡ Some p → Spells text ((before frames ++ spelling e) ++ OperatorMark at p ∷ [])) → ToldNext text (operated at o frames e)
operated_told text at None frames e told = tt
operated_told text at (Some o) frames e told = operator_told text at o frames e (told o refl)

-- a closing parenthesis
close_told : (text : List ℕ) (c : ℕ) (frames : List Frame) (e : Expr) → (c == 41) ≡ true → Spells text (before frames ++ spelling e) → ToldNext (text ++ c ∷ []) (close frames e)
close_told text c [] e is told = tt
close_told text c (Group ∷ frames) e is told =
    let now = with_byte text ((before frames ++ Opening ∷ []) ++ spelling e) c Closing (one_byte c 41 is) told in
    let same : ((before frames ++ Opening ∷ []) ++ spelling e) ++ Closing ∷ [] ≡ before frames ++ spelling (expr.Group e) = append_assoc (before frames ++ Opening ∷ []) (spelling e) (Closing ∷ []) ∙ append_assoc (before frames) (Opening ∷ []) (spelling e ++ Closing ∷ []) ∙ ap (λ x. before frames ++ x) (sym (spells_group e)) in
    subst (Spells (text ++ c ∷ [])) same now
close_told text c (Call at f ∷ frames) e is told =
    let now = with_byte text (((before frames ++ FunctionName at f ∷ []) ++ Opening ∷ []) ++ spelling e) c Closing (one_byte c 41 is) told in
    let same : (((before frames ++ FunctionName at f ∷ []) ++ Opening ∷ []) ++ spelling e) ++ Closing ∷ [] ≡ before frames ++ spelling (expr.Call at f e) = append_assoc ((before frames ++ FunctionName at f ∷ []) ++ Opening ∷ []) (spelling e) (Closing ∷ []) ∙ append_assoc (before frames ++ FunctionName at f ∷ []) (Opening ∷ []) (spelling e ++ Closing ∷ []) ∙ append_assoc (before frames) (FunctionName at f ∷ []) (Opening ∷ (spelling e ++ Closing ∷ [])) ∙ ap (λ x. before frames ++ x) (sym (spells_call at f e)) in
    subst (Spells (text ++ c ∷ [])) same now
close_told text c (Signed s ∷ frames) e is told = tt
close_told text c (Left at o left ∷ frames) e is told = tt

-- each byte
signed_told : (text : List ℕ) (c : ℕ) (o : Option Sign) (frames : List Frame) → sign_of c ≡ o → Spells text (before frames) → ToldNext (text ++ c ∷ []) (signed o frames)
signed_told text c None frames is told = tt
signed_told text c (Some s) frames is told = either_next (text ++ c ∷ []) (is_behind_power frames) None (Some (Needs (Signed s ∷ frames))) (λ e. tt) (λ e. with_byte text (before frames) c (SignMark s) (sign_bytes c s is) told)

new_part : (text : List ℕ) (lexemes : List Lexeme) (at c : ℕ) → at ≡ length text → Spells text lexemes → Part (text ++ c ∷ []) lexemes at (c ∷ [])
new_part text lexemes at c place told = record { front = text; is_text = refl; spelled = told; is_place = place }

need_told : (text : List ℕ) (at c : ℕ) (frames : List Frame) → at ≡ length text → Spells text (before frames) → ToldNext (text ++ c ∷ []) (after_need at c frames)
need_told text at c frames place told =
    either_next (text ++ c ∷ []) (is_blank c) _ _ (λ e. and_blank text (before frames) c e told) (λ e. either_next (text ++ c ∷ []) (c == 40) _ _ (λ f. with_byte text (before frames) c Opening (one_byte c 40 f) told) (λ f. either_next (text ++ c ∷ []) (begins_number c) _ _ (λ n. (new_part text (before frames) at c place told, n)) (λ n. either_next (text ++ c ∷ []) (is_word_front (c ∷ [])) _ _ (λ w. new_part text (before frames) at c place told) (λ w. signed_told text c (sign_of c) frames refl told))))

call_told : (text : List ℕ) (c : ℕ) (frames : List Frame) (at : ℕ) (f : Function) → Spells text (before frames ++ FunctionName at f ∷ []) → ToldNext (text ++ c ∷ []) (after_call c frames at f)
call_told text c frames at f told =
    either_next (text ++ c ∷ []) (is_blank c) _ _ (λ e. and_blank text (before frames ++ FunctionName at f ∷ []) c e told) (λ e. either_next (text ++ c ∷ []) (c == 40) _ _ (λ g. with_byte text (before frames ++ FunctionName at f ∷ []) c Opening (one_byte c 40 g) told) (λ g. tt))

operand_told : (text : List ℕ) (at c : ℕ) (frames : List Frame) (e : Expr) → at ≡ length text → Spells text (before frames ++ spelling e) → ToldNext (text ++ c ∷ []) (after_operand at c frames e)
operand_told text at c frames e place told =
    either_next (text ++ c ∷ []) (is_blank c) _ _ (λ b. and_blank text (before frames ++ spelling e) c b told) (λ b. either_next (text ++ c ∷ []) (c == 41) _ _ (λ f. close_told text c (joined 0 frames e).0 (joined 0 frames e).1 f (subst (Spells text) (sym (joined_spells 0 frames e)) told)) (λ f. either_next (text ++ c ∷ []) (begins_pair c) _ _ (λ p. new_part text (before frames ++ spelling e) at c place told) (λ p. operated_told (text ++ c ∷ []) at (operator_of c) frames e (λ o is. with_byte text (before frames ++ spelling e) c (OperatorMark at o) (place, operator_bytes c o is) told))))

-- what was being read is complete
literal_told : (text : List ℕ) (frames : List Frame) (at : ℕ) (bytes : List ℕ) (o : Option (Option ℤ)) → literal_of bytes ≡ o → Part text (before frames) at bytes → is_unsigned bytes ≡ true → ToldNext text (literal frames at o)
literal_told text frames at bytes None is part unsigned = tt
literal_told text frames at bytes (Some units) is part unsigned =
    let now = with_part text (before frames) at bytes (Literal at units) part (part.is_place, unsigned, is) in
    subst (λ x. Spells text (before frames ++ x)) (sym (spells_number at units)) now

called_told : (text : List ℕ) (frames : List Frame) (at : ℕ) (bytes : List ℕ) (o : Option Function) → function_of bytes ≡ o → Part text (before frames) at bytes → ToldNext text (called_by frames at o)
called_told text frames at bytes None is part = tt
called_told text frames at bytes (Some f) is part = with_part text (before frames) at bytes (FunctionName at f) part (part.is_place, is)

word_told : (text : List ℕ) (frames : List Frame) (at : ℕ) (bytes : List ℕ) → Part text (before frames) at bytes → ToldNext text (word_end frames at bytes)
word_told text frames at bytes part =
    either_next text (is_operand_name bytes) _ _ (λ name. subst (λ x. Spells text (before frames ++ x)) (sym (spells_named at bytes)) (with_part text (before frames) at bytes (Name at bytes) part (part.is_place, refl, name))) (λ other. called_told text frames at bytes (function_of bytes) refl part)

single_told : (text : List ℕ) (frames : List Frame) (e : Expr) (at first : ℕ) → Part text (before frames ++ spelling e) at (first ∷ []) → ToldNext text (operated at (single_of first) frames e)
single_told text frames e at first part = operated_told text at (single_of first) frames e (λ o is. with_part text (before frames ++ spelling e) at (first ∷ []) (OperatorMark at o) part (part.is_place, single_bytes first o is))

outside_told : (text : List ℕ) (at c : ℕ) (o : Option State) → at ≡ length text → ToldNext text o → ToldNext (text ++ c ∷ []) (outside at c o)
outside_told text at c None place told = tt
outside_told text at c (Some (Needs frames)) place told = need_told text at c frames place told
outside_told text at c (Some (Called frames p f)) place told = call_told text c frames p f told
outside_told text at c (Some (Has frames e)) place told = operand_told text at c frames e place told
outside_told text at c (Some (Number frames p bytes)) place told = tt
outside_told text at c (Some (Word frames p bytes)) place told = tt
outside_told text at c (Some (Half frames e p first)) place told = tt

second_told : (text : List ℕ) (c place first : ℕ) (o : Option Operator) (frames : List Frame) (e : Expr) (next : Option State) → pair_of first c ≡ o → Part text (before frames ++ spelling e) place (first ∷ []) → ToldNext (text ++ c ∷ []) next → ToldNext (text ++ c ∷ []) (second place o frames e next)
second_told text c place first None frames e next is part told = told
second_told text c place first (Some o) frames e next is part told =
    let both = longer_part text (before frames ++ spelling e) place (first ∷ []) c part in
    operator_told (text ++ c ∷ []) place o frames e (with_part (text ++ c ∷ []) (before frames ++ spelling e) place (first ∷ c ∷ []) (OperatorMark place o) both (both.is_place, pair_bytes first c o is))

unsigned_more : (bytes : List ℕ) (c : ℕ) → is_unsigned bytes ≡ true → is_unsigned (bytes ++ c ∷ []) ≡ true
unsigned_more [] c some = absurd (cc)
unsigned_more (b ∷ bytes) c some = some

step_told : (text : List ℕ) (at c : ℕ) (s : State) → at ≡ length text → Told text s → ToldNext (text ++ c ∷ []) (step at c s)
step_told text at c (Needs frames) place told = need_told text at c frames place told
step_told text at c (Called frames p f) place told = call_told text c frames p f told
step_told text at c (Has frames e) place told = operand_told text at c frames e place told
step_told text at c (Number frames p bytes) place told =
    either_next (text ++ c ∷ []) (is_number_front (bytes ++ c ∷ [])) _ _ (λ f. (longer_part text (before frames) p bytes c told.0, unsigned_more bytes c told.1)) (λ f. outside_told text at c (number_end frames p bytes) place (literal_told text frames p bytes (literal_of bytes) refl told.0 told.1))
step_told text at c (Word frames p bytes) place told =
    either_next (text ++ c ∷ []) (is_word_front (bytes ++ c ∷ [])) _ _ (λ f. longer_part text (before frames) p bytes c told) (λ f. outside_told text at c (word_end frames p bytes) place (word_told text frames p bytes told))
step_told text at c (Half frames e p first) place told =
    second_told text c p first (pair_of first c) frames e (outside at c (operated p (single_of first) frames e)) refl told (outside_told text at c (operated p (single_of first) frames e) place (single_told text frames e p first told))

ended_told : (text : List ℕ) (s : State) → Told text s → ToldNext text (ended s)
ended_told text (Needs frames) told = told
ended_told text (Called frames at f) told = told
ended_told text (Has frames e) told = told
ended_told text (Number frames at bytes) told = literal_told text frames at bytes (literal_of bytes) refl told.0 told.1
ended_told text (Word frames at bytes) told = word_told text frames at bytes told
ended_told text (Half frames e at first) told = single_told text frames e at first told

-- the tree that is answered
abbrev pub ToldTree : List ℕ → Option Expr → Type 0
ToldTree text None = Unit {0}
ToldTree text (Some tree) = Spells text (spelling tree)

whole_told : (text : List ℕ) (frames : List Frame) (e : Expr) → Spells text (before frames ++ spelling e) → ToldTree text (whole frames e)
whole_told text [] e told = told
whole_told text (frame ∷ frames) e told = tt

complete_told : (text : List ℕ) (o : Option State) → ToldNext text o → ToldTree text (complete o)
complete_told text None told = tt
complete_told text (Some (Has frames e)) told = whole_told text (joined 0 frames e).0 (joined 0 frames e).1 (subst (Spells text) (sym (joined_spells 0 frames e)) told)
complete_told text (Some (Needs frames)) told = tt
complete_told text (Some (Called frames at f)) told = tt
complete_told text (Some (Number frames at bytes)) told = tt
complete_told text (Some (Word frames at word)) told = tt
complete_told text (Some (Half frames e at first)) told = tt

found_tree : (text : List ℕ) (at : ℕ) (o : Option Expr) (tree : Expr) → ToldTree text o → ok_or at o ≡ Ok tree → Spells text (spelling tree)
found_tree text at None tree told is = absurd (cc)
found_tree text at (Some t) tree told is = let same : t ≡ tree = cc in subst (λ x. Spells text (spelling x)) same told

pub run_told : (rest text : List ℕ) (at : ℕ) (s : State) (tree : Expr) → at ≡ length text → Told text s → run at rest s ≡ Ok tree → Spells (text ++ rest) (spelling tree)
run_told [] text at s tree place told is = subst (λ x. Spells x (spelling tree)) (sym (append-nil text)) (found_tree text at (finish s) tree (complete_told text (ended s) (ended_told text s told)) is)
run_told (c ∷ rest) text at s tree place told is = by_step (step at c s) refl (run_told rest (text ++ c ∷ []) (at + 1))
  where
    by_step : (o : Option State) → step at c s ≡ o → ((t : State) (u : Expr) → at + 1 ≡ length (text ++ c ∷ []) → Told (text ++ c ∷ []) t → run (at + 1) rest t ≡ Ok u → Spells ((text ++ c ∷ []) ++ rest) (spelling u)) → Spells (text ++ c ∷ rest) (spelling tree)
    by_step None e again = let no : Err at ≡ Ok tree = rw e at is in absurd (cc)
    by_step (Some t) e again =
        let long : length (text ++ c ∷ []) ≡ length text + 1 = length-append text (c ∷ []) in
        let now = again t tree (omega (arith, long, place)) (subst (ToldNext (text ++ c ∷ [])) e (step_told text at c s place told)) (rw e at is) in
        subst (λ x. Spells x (spelling tree)) (append_assoc text (c ∷ []) rest) now
