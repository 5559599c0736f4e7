-- What reading a lexeme does to the state.
use Rattle.std.proofs.Common.{◌≡◌, ◌==◌, ◌+◌, ◌<◌, ◌≤◌, ◌&&◌, ◌||◌, not, nat_le, Bool, true, false, ℕ, ℤ, Option, Some, List, [], ◌∷◌, ◌++◌, length, codes, ⊎_elim, arith, refl, sym, ap, ◌∙◌, subst, append_assoc, append-nil}
use Rattle.std.specs.Char.{is_ascii_digit}
use Rattle.std.specs.List.{list_all, list_any}
use Rattle.std.proofs.lemmas.Bool.{eqb-true, ne_eqb, leb-true}
use Rattle.names.specs.Names.{is_id_byte}
use Rattle.formula.specs.declared.tree.Expr.{Expr}
use Rattle.formula.specs.declared.tree.Expr.TheVariants as expr
use Rattle.formula.specs.declared.tree.Operator.{Operator}
use Rattle.formula.specs.declared.tree.Operator.TheVariants.{Or, And, Equal, NotEqual, Less, LessEqual, Greater, GreaterEqual, Add, Subtract, Multiply, Divide, Remainder, Power}
use Rattle.formula.specs.declared.tree.Sign.{Sign}
use Rattle.formula.specs.declared.tree.Sign.TheVariants.{Minus, Not}
use Rattle.formula.specs.declared.tree.Function.{Function}
use Rattle.formula.specs.declared.state.Frame.{Frame}
use Rattle.formula.specs.declared.state.Frame.TheVariants.{Group, Call, Signed}
use Rattle.formula.specs.declared.state.State.{State}
use Rattle.formula.specs.declared.state.State.TheVariants.{Needs, Called, Has, Number, Word, Half}
use Rattle.formula.specs.Words.{words, keywords, function_of, is_operand_name, is_word_front}
use Rattle.formula.specs.Numbers.{literal_of, is_number_front, begins_number}
use Rattle.formula.specs.Spelling.{operator_text, sign_text, is_unsigned}
use Rattle.formula.specs.Reading.{run, step, is_blank, is_behind_power, with_operator, joined, close}
use Rattle.formula.proofs.CloseLemmas.{first_true, second_true, and_false, other_than, word_ends}
use Rattle.formula.proofs.NumberLemmas.{ends_well, number_ends}
use Rattle.formula.proofs.NumberFronts.{front_is}
use Rattle.formula.proofs.WordFronts.{either, HasFronts, letter_of, operand_fronts, function_fronts, function_apart}

-- blanks, parentheses and the first bytes of operators: they stand in no number and no word
marks : List ℕ
marks = 32 ∷ 9 ∷ 40 ∷ 41 ∷ 60 ∷ 62 ∷ 61 ∷ 33 ∷ 38 ∷ 124 ∷ 43 ∷ 45 ∷ 42 ∷ 47 ∷ 37 ∷ 94 ∷ []

pub is_mark : ℕ → Bool
is_mark c = list_any (λ m. c == m) marks

pub blank_is_mark : (c : ℕ) → is_blank c ≡ true → is_mark c ≡ true
unfolding is_mark marks
blank_is_mark c blank = ⊎_elim (λ space. ap is_mark (eqb-true c 32 space)) (λ tab. ap is_mark (eqb-true c 9 tab)) (either (c == 32) (c == 9) blank)

pub open_is_mark : is_mark 40 ≡ true
unfolding is_mark marks
open_is_mark = refl

pub close_is_mark : is_mark 41 ≡ true
unfolding is_mark marks
close_is_mark = refl

-- what holds of all bytes of a list holds of each
each_passes : (test : ℕ → Bool) (c : ℕ) (list : List ℕ) → list_any (λ m. c == m) list ≡ true → list_all test list ≡ true → test c ≡ true
each_passes test c [] some all = absurd (cc)
each_passes test c (m ∷ list) some all =
    ⊎_elim (λ here. ap test (eqb-true c m here) ∙ first_true (test m) (list_all test list) all) (λ more. each_passes test c list more (second_true (test m) (list_all test list) all)) (either (c == m) (list_any (λ x. c == x) list) some)

is_false : (b : Bool) → not b ≡ true → b ≡ false
is_false true never = absurd (cc)
is_false false never = refl

ends_word : ℕ → Bool
ends_word c = not (95 == c) && (not (is_id_byte c) && list_all (list_all (other_than c)) words)

marks_end_words : list_all ends_word marks ≡ true
unfolding words keywords ends_word marks
marks_end_words = refl

word_stops : (word : List ℕ) (c : ℕ) → is_mark c ≡ true → is_word_front (word ++ c ∷ []) ≡ false
unfolding is_mark ends_word
word_stops word c mark =
    let all : ends_word c ≡ true = each_passes ends_word c marks mark marks_end_words in
    let rest = second_true (not (95 == c)) (not (is_id_byte c) && list_all (list_all (other_than c)) words) all in
    word_ends word c (is_false (95 == c) (first_true (not (95 == c)) (not (is_id_byte c) && list_all (list_all (other_than c)) words) all)) (is_false (is_id_byte c) (first_true (not (is_id_byte c)) (list_all (list_all (other_than c)) words) rest)) (second_true (not (is_id_byte c)) (list_all (list_all (other_than c)) words) rest)

ends_number : ℕ → Bool
ends_number c = not (is_ascii_digit c || (c == 46) || (c == 101) || (c == 69))

marks_end_numbers : list_all ends_number marks ≡ true
unfolding ends_number marks
marks_end_numbers = refl

no_letter : (a : ℕ) → ends_well a ≡ true → ((a == 101) || (a == 69)) ≡ false
no_letter a well = by_test ((a == 101) || (a == 69)) refl
  where
    by_test : (b : Bool) → ((a == 101) || (a == 69)) ≡ b → b ≡ false
    by_test false e = refl
    by_test true e = ⊎_elim (λ small. (let no : ends_well 101 ≡ true = subst (λ (z : ℕ). ends_well z ≡ true) (eqb-true a 101 small) well in absurd (cc))) (λ capital. (let no : ends_well 69 ≡ true = subst (λ (z : ℕ). ends_well z ≡ true) (eqb-true a 69 capital) well in absurd (cc))) (either (a == 101) (a == 69) e)

number_stops : (text : List ℕ) (units : Option ℤ) (c : ℕ) → literal_of text ≡ Some units → is_mark c ≡ true → is_number_front (text ++ c ∷ []) ≡ false
unfolding is_mark ends_number
number_stops text units c is mark =
    let outside : (is_ascii_digit c || (c == 46) || (c == 101) || (c == 69)) ≡ false = is_false (is_ascii_digit c || (c == 46) || (c == 101) || (c == 69)) (each_passes ends_number c marks mark marks_end_numbers) in
    number_ends text units c is (λ a well. (let other = no_letter a well in rw outside (rw other (and_false ((c == 43) || (c == 45))))))

-- the first byte of a text, if it has one, passes a test
abbrev pub Heads : (ℕ → Bool) → List ℕ → Type 0
Heads test [] = Unit {0}
Heads test (c ∷ text) = test c ≡ true

pub operator_is_mark : (o : Operator) (rest : List ℕ) → Heads is_mark (operator_text o ++ rest)
unfolding is_mark marks
operator_is_mark Or rest = refl
operator_is_mark And rest = refl
operator_is_mark Equal rest = refl
operator_is_mark NotEqual rest = refl
operator_is_mark Less rest = refl
operator_is_mark LessEqual rest = refl
operator_is_mark Greater rest = refl
operator_is_mark GreaterEqual rest = refl
operator_is_mark Add rest = refl
operator_is_mark Subtract rest = refl
operator_is_mark Multiply rest = refl
operator_is_mark Divide rest = refl
operator_is_mark Remainder rest = refl
operator_is_mark Power rest = refl

-- a number
first_digit : (c : ℕ) → begins_number c ≡ true → (46 ≤ c) × (c ≤ 57)
first_digit c begins = ⊎_elim (λ digit. (omega (arith, leb-true 48 c (first_true (nat_le 48 c) (nat_le c 57) digit)), leb-true c 57 (second_true (nat_le 48 c) (nat_le c 57) digit))) (λ dot. (let same : c ≡ 46 = eqb-true c 46 dot in (omega (arith, same), omega (arith, same)))) (either (is_ascii_digit c) (c == 46) begins)

number_begins : (at c : ℕ) (frames : List Frame) → begins_number c ≡ true → step at c (Needs frames) ≡ Some (Number frames at (c ∷ []))
number_begins at c frames begins =
    let range = first_digit c begins in
    let blank : (c == 32) ≡ false = ne_eqb c 32 (λ e. omega (arith, range.0)) in
    let tab : (c == 9) ≡ false = ne_eqb c 9 (λ e. omega (arith, range.0)) in
    let group : (c == 40) ≡ false = ne_eqb c 40 (λ e. omega (arith, range.0)) in
    rw blank (rw tab (rw group (rw begins refl)))

number_end : (at place : ℕ) (text rest : List ℕ) (units : Option ℤ) (frames : List Frame) → literal_of text ≡ Some units → Heads is_mark rest → run at rest (Number frames place text) ≡ run at rest (Has frames (expr.Number place units))
number_end at place text [] units frames is mark = rw is refl
number_end at place text (c ∷ rest) units frames is mark = let here : is_number_front (text ++ c ∷ []) ≡ false = number_stops text units c is mark in rw here (rw is refl)

unsigned_before : (front tail : List ℕ) → is_unsigned front ≡ true → is_unsigned (front ++ tail) ≡ true
unsigned_before [] tail some = absurd (cc)
unsigned_before (c ∷ front) tail some = some

number_goes : (tail front rest : List ℕ) (at stop place : ℕ) (units : Option ℤ) (frames : List Frame) → stop ≡ at + length tail → is_unsigned front ≡ true → literal_of (front ++ tail) ≡ Some units → Heads is_mark rest → run at (tail ++ rest) (Number frames place front) ≡ run stop rest (Has frames (expr.Number place units))
number_goes [] front rest at stop place units frames end unsigned is mark =
    let here : stop ≡ at = omega (arith, end) in
    let whole : literal_of front ≡ Some units = ap literal_of (sym (append-nil front)) ∙ is in
    number_end at place front rest units frames whole mark ∙ ap (λ (p : ℕ). run p rest (Has frames (expr.Number place units))) (sym here)
number_goes (c ∷ tail) front rest at stop place units frames end unsigned is mark =
    let whole : (front ++ c ∷ []) ++ tail ≡ front ++ c ∷ tail = append_assoc front (c ∷ []) tail in
    let longer : is_unsigned (front ++ c ∷ []) ≡ true = unsigned_before front (c ∷ []) unsigned in
    let read : literal_of ((front ++ c ∷ []) ++ tail) ≡ Some units = ap literal_of whole ∙ is in
    let goes : is_number_front (front ++ c ∷ []) ≡ true = front_is (front ++ c ∷ []) tail units longer read in
    let again = number_goes tail (front ++ c ∷ []) rest (at + 1) stop place units frames (omega (arith, end)) longer read mark in
    rw goes again

pub literal_reads : (at stop : ℕ) (bytes rest : List ℕ) (units : Option ℤ) (frames : List Frame) → stop ≡ at + length bytes → is_unsigned bytes ≡ true → literal_of bytes ≡ Some units → Heads is_mark rest → run at (bytes ++ rest) (Needs frames) ≡ run stop rest (Has frames (expr.Number at units))
literal_reads at stop [] rest units frames end unsigned is mark = absurd (cc)
literal_reads at stop (c ∷ bytes) rest units frames end unsigned is mark =
    let first = number_begins at c frames unsigned in
    let again = number_goes bytes (c ∷ []) rest (at + 1) stop at units frames (omega (arith, end)) unsigned is mark in
    rw first again

-- a word
word_begins : (at c : ℕ) (frames : List Frame) → is_word_front (c ∷ []) ≡ true → step at c (Needs frames) ≡ Some (Word frames at (c ∷ []))
word_begins at c frames front =
    let letter = letter_of c front in
    let blank : is_blank c ≡ false = is_false (is_blank c) (first_true (not (is_blank c)) (not (c == 40) && (not (begins_number c) && not (c == 61))) letter) in
    let more = second_true (not (is_blank c)) (not (c == 40) && (not (begins_number c) && not (c == 61))) letter in
    let group : (c == 40) ≡ false = is_false (c == 40) (first_true (not (c == 40)) (not (begins_number c) && not (c == 61)) more) in
    let number : begins_number c ≡ false = is_false (begins_number c) (first_true (not (begins_number c)) (not (c == 61)) (second_true (not (c == 40)) (not (begins_number c) && not (c == 61)) more)) in
    rw blank (rw group (rw number (rw front refl)))

word_goes : (tail front rest : List ℕ) (at stop place : ℕ) (frames : List Frame) → stop ≡ at + length tail → HasFronts (front ++ tail) → run at (tail ++ rest) (Word frames place front) ≡ run stop rest (Word frames place (front ++ tail))
word_goes [] front rest at stop place frames end fronts =
    let here : at ≡ stop = omega (arith, end) in
    ap (λ (p : ℕ). run p rest (Word frames place front)) here ∙ ap (λ w. run stop rest (Word frames place w)) (sym (append-nil front))
word_goes (c ∷ tail) front rest at stop place frames end fronts =
    let whole : (front ++ c ∷ []) ++ tail ≡ front ++ c ∷ tail = append_assoc front (c ∷ []) tail in
    let goes : is_word_front (front ++ c ∷ []) ≡ true = fronts (front ++ c ∷ []) tail whole (some_more front c) in
    let again = word_goes tail (front ++ c ∷ []) rest (at + 1) stop place frames (omega (arith, end)) (subst HasFronts (sym whole) fronts) in
    rw goes (again ∙ ap (λ w. run stop rest (Word frames place w)) whole)
  where
    some_more : (text : List ℕ) (b : ℕ) → 0 < length (text ++ b ∷ [])
    some_more [] b = omega arith
    some_more (x ∷ text) b = omega arith

word_reads : (at stop : ℕ) (bytes rest : List ℕ) (frames : List Frame) → stop ≡ at + length bytes → 0 < length bytes → HasFronts bytes → run at (bytes ++ rest) (Needs frames) ≡ run stop rest (Word frames at bytes)
word_reads at stop [] rest frames end some fronts = absurd (omega arith)
word_reads at stop (c ∷ bytes) rest frames end some fronts =
    let first = word_begins at c frames (fronts (c ∷ []) bytes refl (omega arith)) in
    let again = word_goes bytes (c ∷ []) rest (at + 1) stop at frames (omega (arith, end)) fronts in
    rw first again

name_end : (at place : ℕ) (word rest : List ℕ) (frames : List Frame) → is_operand_name word ≡ true → Heads is_mark rest → run at rest (Word frames place word) ≡ run at rest (Has frames (expr.Named place word))
name_end at place word [] frames is mark = rw is refl
name_end at place word (c ∷ rest) frames is mark = let here : is_word_front (word ++ c ∷ []) ≡ false = word_stops word c mark in rw here (rw is refl)

pub some_name : (word : List ℕ) → is_operand_name word ≡ true → 0 < length word
unfolding keywords
some_name [] is = absurd (cc)
some_name (c ∷ word) is = omega arith

pub name_reads : (at stop : ℕ) (bytes rest : List ℕ) (frames : List Frame) → stop ≡ at + length bytes → is_operand_name bytes ≡ true → Heads is_mark rest → run at (bytes ++ rest) (Needs frames) ≡ run stop rest (Has frames (expr.Named at bytes))
name_reads at stop bytes rest frames end is mark =
    word_reads at stop bytes rest frames end (some_name bytes is) (operand_fronts bytes is) ∙ name_end stop at bytes rest frames is mark

function_end : (at place : ℕ) (word rest : List ℕ) (f : Function) (frames : List Frame) → is_operand_name word ≡ false → function_of word ≡ Some f → Heads is_mark rest → run at rest (Word frames place word) ≡ run at rest (Called frames place f)
function_end at place word [] f frames other is mark = rw other (rw is refl)
function_end at place word (c ∷ rest) f frames other is mark = let here : is_word_front (word ++ c ∷ []) ≡ false = word_stops word c mark in rw here (rw other (rw is refl))

pub some_function : (word : List ℕ) (f : Function) → function_of word ≡ Some f → 0 < length word
some_function [] f is = absurd (cc)
some_function (c ∷ word) f is = omega arith

pub function_reads : (at stop : ℕ) (bytes rest : List ℕ) (f : Function) (frames : List Frame) → stop ≡ at + length bytes → function_of bytes ≡ Some f → Heads is_mark rest → run at (bytes ++ rest) (Needs frames) ≡ run stop rest (Called frames at f)
function_reads at stop bytes rest f frames end is mark =
    word_reads at stop bytes rest frames end (some_function bytes f is) (function_fronts bytes f is) ∙ function_end stop at bytes rest f frames (function_apart bytes f is) is mark

-- an operator, behind which no `=` stands
abbrev pub is_no_equals : ℕ → Bool
is_no_equals c = not (c == 61)

less_end : (at place : ℕ) (rest : List ℕ) (frames : List Frame) (e : Expr) → Heads is_no_equals rest → run at rest (Half frames e place 60) ≡ run at rest (Needs (with_operator place Less frames e))
less_end at place [] frames e head = refl
less_end at place (c ∷ rest) frames e head = let other : (c == 61) ≡ false = is_false (c == 61) head in rw other refl

greater_end : (at place : ℕ) (rest : List ℕ) (frames : List Frame) (e : Expr) → Heads is_no_equals rest → run at rest (Half frames e place 62) ≡ run at rest (Needs (with_operator place Greater frames e))
greater_end at place [] frames e head = refl
greater_end at place (c ∷ rest) frames e head = let other : (c == 61) ≡ false = is_false (c == 61) head in rw other refl

moved : (at stop : ℕ) (rest : List ℕ) (s : State) → stop ≡ at → run at rest s ≡ run stop rest s
moved at stop rest s same = ap (λ (p : ℕ). run p rest s) (sym same)

operator_goes : (o : Operator) (at stop : ℕ) (rest : List ℕ) (frames : List Frame) (e : Expr) → stop ≡ at + length (operator_text o) → Heads is_no_equals rest → run at (operator_text o ++ rest) (Has frames e) ≡ run stop rest (Needs (with_operator at o frames e))
operator_goes Or at stop rest frames e end head = moved (at + 1 + 1) stop rest (Needs (with_operator at Or frames e)) (omega (arith, end))
operator_goes And at stop rest frames e end head = moved (at + 1 + 1) stop rest (Needs (with_operator at And frames e)) (omega (arith, end))
operator_goes Equal at stop rest frames e end head = moved (at + 1 + 1) stop rest (Needs (with_operator at Equal frames e)) (omega (arith, end))
operator_goes NotEqual at stop rest frames e end head = moved (at + 1 + 1) stop rest (Needs (with_operator at NotEqual frames e)) (omega (arith, end))
operator_goes Less at stop rest frames e end head = less_end (at + 1) at rest frames e head ∙ moved (at + 1) stop rest (Needs (with_operator at Less frames e)) (omega (arith, end))
operator_goes LessEqual at stop rest frames e end head = moved (at + 1 + 1) stop rest (Needs (with_operator at LessEqual frames e)) (omega (arith, end))
operator_goes Greater at stop rest frames e end head = greater_end (at + 1) at rest frames e head ∙ moved (at + 1) stop rest (Needs (with_operator at Greater frames e)) (omega (arith, end))
operator_goes GreaterEqual at stop rest frames e end head = moved (at + 1 + 1) stop rest (Needs (with_operator at GreaterEqual frames e)) (omega (arith, end))
operator_goes Add at stop rest frames e end head = moved (at + 1) stop rest (Needs (with_operator at Add frames e)) (omega (arith, end))
operator_goes Subtract at stop rest frames e end head = moved (at + 1) stop rest (Needs (with_operator at Subtract frames e)) (omega (arith, end))
operator_goes Multiply at stop rest frames e end head = moved (at + 1) stop rest (Needs (with_operator at Multiply frames e)) (omega (arith, end))
operator_goes Divide at stop rest frames e end head = moved (at + 1) stop rest (Needs (with_operator at Divide frames e)) (omega (arith, end))
operator_goes Remainder at stop rest frames e end head = moved (at + 1) stop rest (Needs (with_operator at Remainder frames e)) (omega (arith, end))
operator_goes Power at stop rest frames e end head = moved (at + 1) stop rest (Needs (with_operator at Power frames e)) (omega (arith, end))

pub operator_reads : (o : Operator) (at stop : ℕ) (bytes rest : List ℕ) (frames : List Frame) (e : Expr) → bytes ≡ operator_text o → stop ≡ at + length bytes → Heads is_no_equals rest → run at (bytes ++ rest) (Has frames e) ≡ run stop rest (Needs (with_operator at o frames e))
operator_reads o at stop bytes rest frames e is end head =
    ap (λ b. run at (b ++ rest) (Has frames e)) is ∙ operator_goes o at stop rest frames e (end ∙ ap (λ (b : List ℕ). at + length b) is) head

-- a sign, which does not stand behind `^`
sign_goes : (s : Sign) (at stop : ℕ) (rest : List ℕ) (frames : List Frame) → stop ≡ at + length (sign_text s) → is_behind_power frames ≡ false → run at (sign_text s ++ rest) (Needs frames) ≡ run stop rest (Needs (Signed s ∷ frames))
unfolding words keywords
sign_goes Minus at stop rest frames end before = rw before (moved (at + 1) stop rest (Needs (Signed Minus ∷ frames)) (omega (arith, end)))
sign_goes Not at stop rest frames end before = rw before (moved (at + 1) stop rest (Needs (Signed Not ∷ frames)) (omega (arith, end)))

pub sign_reads : (s : Sign) (at stop : ℕ) (bytes rest : List ℕ) (frames : List Frame) → bytes ≡ sign_text s → stop ≡ at + length bytes → is_behind_power frames ≡ false → run at (bytes ++ rest) (Needs frames) ≡ run stop rest (Needs (Signed s ∷ frames))
sign_reads s at stop bytes rest frames is end before =
    ap (λ b. run at (b ++ rest) (Needs frames)) is ∙ sign_goes s at stop rest frames (end ∙ ap (λ (b : List ℕ). at + length b) is) before

-- parentheses
pub opening_reads : (at stop : ℕ) (bytes rest : List ℕ) (frames : List Frame) → bytes ≡ codes "(" → stop ≡ at + length bytes → run at (bytes ++ rest) (Needs frames) ≡ run stop rest (Needs (Group ∷ frames))
opening_reads at stop bytes rest frames is end =
    ap (λ b. run at (b ++ rest) (Needs frames)) is ∙ moved (at + 1) stop rest (Needs (Group ∷ frames)) (end ∙ ap (λ (b : List ℕ). at + length b) is)

pub call_reads : (at stop place : ℕ) (bytes rest : List ℕ) (f : Function) (frames : List Frame) → bytes ≡ codes "(" → stop ≡ at + length bytes → run at (bytes ++ rest) (Called frames place f) ≡ run stop rest (Needs (Call place f ∷ frames))
call_reads at stop place bytes rest f frames is end =
    ap (λ b. run at (b ++ rest) (Called frames place f)) is ∙ moved (at + 1) stop rest (Needs (Call place f ∷ frames)) (end ∙ ap (λ (b : List ℕ). at + length b) is)

pub closing_reads : (at stop : ℕ) (bytes rest : List ℕ) (frames outer after : List Frame) (e inner whole : Expr) → bytes ≡ codes ")" → stop ≡ at + length bytes → joined 0 frames e ≡ (outer, inner) → close outer inner ≡ Some (Has after whole) → run at (bytes ++ rest) (Has frames e) ≡ run stop rest (Has after whole)
closing_reads at stop bytes rest frames outer after e inner whole is end all closes =
    ap (λ b. run at (b ++ rest) (Has frames e)) is ∙ rw all (rw closes (moved (at + 1) stop rest (Has after whole) (end ∙ ap (λ (b : List ℕ). at + length b) is)))

-- blanks, where the state stays as it is
abbrev pub IsIdle : State → Type 0
IsIdle s = (at c : ℕ) → is_blank c ≡ true → step at c s ≡ Some s

pub idle_needs : (frames : List Frame) → IsIdle (Needs frames)
idle_needs frames = λ at c blank. rw blank refl

pub idle_called : (frames : List Frame) (place : ℕ) (f : Function) → IsIdle (Called frames place f)
idle_called frames place f = λ at c blank. rw blank refl

pub idle_has : (frames : List Frame) (e : Expr) → IsIdle (Has frames e)
idle_has frames e = λ at c blank. rw blank refl

pub blanks_read : (blanks rest : List ℕ) (at stop : ℕ) (s : State) → stop ≡ at + length blanks → list_all is_blank blanks ≡ true → IsIdle s → run at (blanks ++ rest) s ≡ run stop rest s
blanks_read [] rest at stop s end all idle = moved at stop rest s (omega (arith, end))
blanks_read (c ∷ blanks) rest at stop s end all idle =
    let stays = idle at c (first_true (is_blank c) (list_all is_blank blanks) all) in
    let again = blanks_read blanks rest (at + 1) stop s (omega (arith, end)) (second_true (is_blank c) (list_all is_blank blanks) all) idle in
    rw stays again
