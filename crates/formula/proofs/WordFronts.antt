-- Every front of a word goes on to a word.
use Rattle.std.proofs.Common.{append-nil, ◌⊎◌, ◌≡◌, ◌==◌, ◌+◌, ◌<◌, ◌≤◌, ◌&&◌, ◌||◌, not, cond, nat_le, Bool, true, false, nat_eq, ℕ, Some, None, List, [], ◌∷◌, ◌++◌, length, drop, ⊎_elim, arith, refl, sym, ap, ◌∙◌, subst, append_assoc, inl, inr, codes}
use Rattle.std.specs.List.{list_all, list_any, starts_with}
use Rattle.std.specs.Str.{bytes_eq}
use Rattle.std.proofs.lemmas.Bool.{and_from, eqb-true, eq-eqb, leb-true, le-leb}
use Rattle.std.proofs.lemmas.List.{length-append}
use Rattle.std.proofs.lemmas.List.Folds.{list_all-append}
use Rattle.box_geo.specs.declared.limits.TheConstants.{MAX_NAME_BYTES}
use Rattle.names.specs.Names.{is_id, is_id_byte}
use Rattle.formula.specs.declared.tree.Function.{Function}
use Rattle.formula.specs.declared.tree.Function.TheVariants.{Sqrt, Abs, Floor, Ceil, Round}
use Rattle.formula.specs.declared.state.Frame.{Frame}
use Rattle.formula.specs.declared.state.State.TheVariants.{Word}
use Rattle.formula.specs.Words.{words, keywords, function_of, has_name_mark, is_operand_name, is_word_front}
use Rattle.formula.specs.Numbers.{begins_number}
use Rattle.formula.specs.Reading.{is_blank}
use Rattle.formula.proofs.CloseLemmas.{first_true, second_true, either_false}
use Rattle.formula.proofs.FrontLemmas.{Completes, steps_to, whole_completes, whole_word}

-- a word of a list: it passes every test that all of them pass
Among : List (List ℕ) → List ℕ → Type 0
Among list word = (test : List ℕ → Bool) → list_all test list ≡ true → test word ≡ true

-- some word passes a test, or all pass its contrary
some_or_none : (test : List ℕ → Bool) (list : List (List ℕ)) → (list_any test list ≡ true) ⊎ (list_all (λ w. not (test w)) list ≡ true)
some_or_none test [] = inr refl
some_or_none test (w ∷ list) = by_test (test w) refl (some_or_none test list)
  where
    by_test : (b : Bool) → test w ≡ b → (list_any test list ≡ true) ⊎ (list_all (λ v. not (test v)) list ≡ true) → ((test w || list_any test list) ≡ true) ⊎ ((not (test w) && list_all (λ v. not (test v)) list) ≡ true)
    by_test true e behind = inl (rw e refl)
    by_test false e behind = ⊎_elim (λ some. inl (rw e some)) (λ none. inr (rw e none)) behind

-- a word of the list that passes a test shows that some word does
shown_by : (test : List ℕ → Bool) (list : List (List ℕ)) (word : List ℕ) → Among list word → test word ≡ true → list_any test list ≡ true
unfolding Among
shown_by test list word among passes =
    ⊎_elim (λ some. some) (λ none. let never : not (test word) ≡ true = among (λ w. not (test w)) none in let no : not true ≡ true = ap not (sym passes) ∙ never in absurd (cc)) (some_or_none test list)

-- where some word passes a test, there is one
record Found (test : List ℕ → Bool) (list : List (List ℕ)) : Type 0 where
  pub word : List ℕ
  pub among : Among list word
  pub passes : test word ≡ true

found : (test : List ℕ → Bool) (list : List (List ℕ)) → list_any test list ≡ true → Found test list
unfolding Among
found test [] some = absurd (cc)
found test (w ∷ list) some = by_test (test w) refl (found test list)
  where
    rest : Found test list → Found test (w ∷ list)
    rest f = record { word = f.word; among = λ t all. f.among t (second_true (t w) (list_all t list) all); passes = f.passes }

    by_test : (b : Bool) → test w ≡ b → (list_any test list ≡ true → Found test list) → Found test (w ∷ list)
    by_test true e behind = record { word = w; among = λ t all. first_true (t w) (list_all t list) all; passes = e }
    by_test false e behind = rest (behind (rw e at some))

-- what a word begins with, and the rest of it
record Splits (word front : List ℕ) : Type 0 where
  pub tail : List ℕ
  pub is_word : word ≡ front ++ tail

split_front : (word front : List ℕ) → starts_with nat_eq word front ≡ true → Splits word front
split_front word [] begins = record { tail = word; is_word = refl }
split_front [] (y ∷ front) begins = absurd (cc)
split_front (x ∷ word) (y ∷ front) begins =
    let same : y ≡ x = eqb-true y x (first_true (nat_eq y x) (starts_with nat_eq word front) begins) in
    let inner = split_front word front (second_true (nat_eq y x) (starts_with nat_eq word front) begins) in
    record { tail = inner.tail; is_word = ap (λ (z : ℕ). z ∷ word) (sym same) ∙ ap (λ w. y ∷ w) inner.is_word }

begins_with : (front tail : List ℕ) → starts_with nat_eq (front ++ tail) front ≡ true
begins_with [] tail = refl
begins_with (x ∷ front) tail = let same : (x == x) ≡ true = eq-eqb x x refl in rw same (begins_with front tail)

-- a front of a word of the list is one
listed_front : (front tail : List ℕ) → Among words (front ++ tail) → is_word_front front ≡ true
listed_front front tail among =
    let some : list_any (λ w. starts_with nat_eq w front) words ≡ true = shown_by (λ w. starts_with nat_eq w front) words (front ++ tail) among (begins_with front tail) in
    rw some refl

all_whole : list_all whole_word words ≡ true
unfolding words keywords
all_whole = refl

listed_completes : (at : ℕ) (frames : List Frame) (place : ℕ) (tail front : List ℕ) → Among words (front ++ tail) → Completes at (Word frames place front)
unfolding Among
listed_completes at frames place [] front among =
    whole_completes at frames place front (rw append-nil at (among whole_word all_whole))
listed_completes at frames place (c ∷ tail) front among =
    let regroup : front ++ c ∷ tail ≡ (front ++ c ∷ []) ++ tail = sym (append_assoc front (c ∷ []) tail) in
    let longer : Among words ((front ++ c ∷ []) ++ tail) = subst (Among words) regroup among in
    let goes : is_word_front (front ++ c ∷ []) ≡ true = listed_front (front ++ c ∷ []) tail longer in
    steps_to at c (Word frames place front) (Word frames place (front ++ c ∷ [])) (rw goes refl) (listed_completes (at + 1) frames place tail (front ++ c ∷ []) longer)

-- a name, or its mark alone
pub or_true : (a b : Bool) → b ≡ true → (a || b) ≡ true
or_true true b e = refl
or_true false b e = e

named_completes : (at : ℕ) (frames : List Frame) (place : ℕ) (word : List ℕ) → has_name_mark word ≡ true → is_id (drop 2 word) ≡ true → Completes at (Word frames place word)
named_completes at frames place word mark id =
    let both : (has_name_mark word && is_id (drop 2 word)) ≡ true = rw mark id in
    let name : is_operand_name word ≡ true = or_true (list_any (λ w. bytes_eq w word) keywords) (has_name_mark word && is_id (drop 2 word)) both in
    whole_completes at frames place word (rw name refl)

mark_completes : (at : ℕ) (frames : List Frame) (place : ℕ) (word : List ℕ) → has_name_mark word ≡ true → (length word == 2) ≡ true → Completes at (Word frames place word)
mark_completes at frames place [] mark two = absurd (cc)
mark_completes at frames place (x ∷ []) mark two = absurd (cc)
mark_completes at frames place (x ∷ y ∷ []) mark two =
    let longer : has_name_mark (x ∷ y ∷ 120 ∷ []) ≡ true = mark in
    let both : (has_name_mark (x ∷ y ∷ 120 ∷ []) && ((length (x ∷ y ∷ 120 ∷ []) == 2) || is_id (drop 2 (x ∷ y ∷ 120 ∷ [])))) ≡ true = rw longer refl in
    let goes : is_word_front (x ∷ y ∷ 120 ∷ []) ≡ true = or_true (list_any (λ w. starts_with nat_eq w (x ∷ y ∷ 120 ∷ [])) words) _ both in
    steps_to at 120 (Word frames place (x ∷ y ∷ [])) (Word frames place (x ∷ y ∷ 120 ∷ [])) (rw goes refl) (named_completes (at + 1) frames place (x ∷ y ∷ 120 ∷ []) longer refl)
mark_completes at frames place (x ∷ y ∷ z ∷ word) mark two = let same : length (x ∷ y ∷ z ∷ word) ≡ 2 = eqb-true (length (x ∷ y ∷ z ∷ word)) 2 two in absurd (omega (arith, same))

pub either : (a b : Bool) → (a || b) ≡ true → (a ≡ true) ⊎ (b ≡ true)
either true b some = inl refl
either false b some = inr some

pub word_completes : (at : ℕ) (frames : List Frame) (place : ℕ) (word : List ℕ) → is_word_front word ≡ true → Completes at (Word frames place word)
word_completes at frames place word front =
    ⊎_elim listed named (either (list_any (λ w. starts_with nat_eq w word) words) (has_name_mark word && ((length word == 2) || is_id (drop 2 word))) front)
  where
    listed : list_any (λ w. starts_with nat_eq w word) words ≡ true → Completes at (Word frames place word)
    listed some =
        let f = found (λ w. starts_with nat_eq w word) words some in
        let s = split_front f.word word f.passes in
        listed_completes at frames place s.tail word (subst (Among words) s.is_word f.among)

    named : (has_name_mark word && ((length word == 2) || is_id (drop 2 word))) ≡ true → Completes at (Word frames place word)
    named both =
        let mark = first_true (has_name_mark word) ((length word == 2) || is_id (drop 2 word)) both in
        ⊎_elim (λ two. mark_completes at frames place word mark two) (λ id. named_completes at frames place word mark id) (either (length word == 2) (is_id (drop 2 word)) (second_true (has_name_mark word) ((length word == 2) || is_id (drop 2 word)) both))

-- a text each of whose fronts is a front of a word
abbrev pub HasFronts : List ℕ → Type 0
HasFronts word = (p q : List ℕ) → p ++ q ≡ word → 0 < length p → is_word_front p ≡ true

same_bytes : (xs ys : List ℕ) → bytes_eq xs ys ≡ true → xs ≡ ys
same_bytes [] [] same = refl
same_bytes [] (y ∷ ys) same = absurd (cc)
same_bytes (x ∷ xs) [] same = absurd (cc)
same_bytes (x ∷ xs) (y ∷ ys) same =
    ap (λ (z : ℕ). z ∷ xs) (eqb-true x y (first_true (nat_eq x y) (bytes_eq xs ys) same)) ∙ ap (λ zs. y ∷ zs) (same_bytes xs ys (second_true (nat_eq x y) (bytes_eq xs ys) same))

listed_fronts : (word : List ℕ) → Among words word → HasFronts word
listed_fronts word among = λ p q whole some. listed_front p q (subst (Among words) (sym whole) among)

-- a keyword is a word
last_of_six : (a b c d e f : Bool) → (a && (b && (c && (d && (e && f))))) ≡ true → f ≡ true
last_of_six true true true true true f all = all
last_of_six true true true true false f all = absurd (cc)
last_of_six true true true false e f all = absurd (cc)
last_of_six true true false d e f all = absurd (cc)
last_of_six true false c d e f all = absurd (cc)
last_of_six false b c d e f all = absurd (cc)

keyword_among : (word : List ℕ) → Among keywords word → Among words word
unfolding Among words
keyword_among word among = λ test all.
    among test (last_of_six (test (codes "sqrt")) (test (codes "abs")) (test (codes "floor")) (test (codes "ceil")) (test (codes "round")) (list_all test keywords) all)

keyword_fronts : (word : List ℕ) → list_any (λ w. bytes_eq w word) keywords ≡ true → HasFronts word
keyword_fronts word some =
    let f = found (λ w. bytes_eq w word) keywords some in
    let same : f.word ≡ word = same_bytes f.word word f.passes in
    listed_fronts word (keyword_among word (subst (Among keywords) same f.among))

-- the names of functions
first_of : (a b c d e f : Bool) → (a && (b && (c && (d && (e && f))))) ≡ true → (a ≡ true) × (b ≡ true) × (c ≡ true) × (d ≡ true) × (e ≡ true)
first_of true true true true true f all = (refl, refl, refl, refl, refl)
first_of true true true true false f all = absurd (cc)
first_of true true true false e f all = absurd (cc)
first_of true true false d e f all = absurd (cc)
first_of true false c d e f all = absurd (cc)
first_of false b c d e f all = absurd (cc)

-- what holds of the names of functions holds of a text that is one
by_function : (P : List ℕ → Type 0) → P (codes "sqrt") → P (codes "abs") → P (codes "floor") → P (codes "ceil") → P (codes "round") → (name : List ℕ) (f : Function) → function_of name ≡ Some f → P name
by_function P sqrt abs floor ceil round name f is = of_sqrt (bytes_eq name (codes "sqrt")) refl is
  where
    of_round : (b : Bool) → bytes_eq name (codes "round") ≡ b → cond b (Some Round) None ≡ Some f → P name
    of_round true e read = subst P (sym (same_bytes name (codes "round") e)) round
    of_round false e read = absurd (cc)

    of_ceil : (b : Bool) → bytes_eq name (codes "ceil") ≡ b → cond b (Some Ceil) (cond (bytes_eq name (codes "round")) (Some Round) None) ≡ Some f → P name
    of_ceil true e read = subst P (sym (same_bytes name (codes "ceil") e)) ceil
    of_ceil false e read = of_round (bytes_eq name (codes "round")) refl read

    of_floor : (b : Bool) → bytes_eq name (codes "floor") ≡ b → cond b (Some Floor) (cond (bytes_eq name (codes "ceil")) (Some Ceil) (cond (bytes_eq name (codes "round")) (Some Round) None)) ≡ Some f → P name
    of_floor true e read = subst P (sym (same_bytes name (codes "floor") e)) floor
    of_floor false e read = of_ceil (bytes_eq name (codes "ceil")) refl read

    of_abs : (b : Bool) → bytes_eq name (codes "abs") ≡ b → cond b (Some Abs) (cond (bytes_eq name (codes "floor")) (Some Floor) (cond (bytes_eq name (codes "ceil")) (Some Ceil) (cond (bytes_eq name (codes "round")) (Some Round) None))) ≡ Some f → P name
    of_abs true e read = subst P (sym (same_bytes name (codes "abs") e)) abs
    of_abs false e read = of_floor (bytes_eq name (codes "floor")) refl read

    of_sqrt : (b : Bool) → bytes_eq name (codes "sqrt") ≡ b → cond b (Some Sqrt) (cond (bytes_eq name (codes "abs")) (Some Abs) (cond (bytes_eq name (codes "floor")) (Some Floor) (cond (bytes_eq name (codes "ceil")) (Some Ceil) (cond (bytes_eq name (codes "round")) (Some Round) None)))) ≡ Some f → P name
    of_sqrt true e read = subst P (sym (same_bytes name (codes "sqrt") e)) sqrt
    of_sqrt false e read = of_abs (bytes_eq name (codes "abs")) refl read

function_among : (name : List ℕ) (f : Function) → function_of name ≡ Some f → Among words name
unfolding Among words
function_among = by_function (Among words)
    (λ test all. (first_of (test (codes "sqrt")) (test (codes "abs")) (test (codes "floor")) (test (codes "ceil")) (test (codes "round")) (list_all test keywords) all).0)
    (λ test all. (first_of (test (codes "sqrt")) (test (codes "abs")) (test (codes "floor")) (test (codes "ceil")) (test (codes "round")) (list_all test keywords) all).1)
    (λ test all. (first_of (test (codes "sqrt")) (test (codes "abs")) (test (codes "floor")) (test (codes "ceil")) (test (codes "round")) (list_all test keywords) all).2)
    (λ test all. (first_of (test (codes "sqrt")) (test (codes "abs")) (test (codes "floor")) (test (codes "ceil")) (test (codes "round")) (list_all test keywords) all).3)
    (λ test all. (first_of (test (codes "sqrt")) (test (codes "abs")) (test (codes "floor")) (test (codes "ceil")) (test (codes "round")) (list_all test keywords) all).4)

pub function_fronts : (name : List ℕ) (f : Function) → function_of name ≡ Some f → HasFronts name
function_fronts name f is = listed_fronts name (function_among name f is)

pub function_apart : (name : List ℕ) (f : Function) → function_of name ≡ Some f → is_operand_name name ≡ false
unfolding keywords
function_apart = by_function (λ name. is_operand_name name ≡ false) refl refl refl refl refl

-- names behind their mark
id_front : (c : ℕ) (p q : List ℕ) → is_id ((c ∷ p) ++ q) ≡ true → is_id (c ∷ p) ≡ true
id_front c p q id =
    let sizes = first_true (nat_le 1 (length (c ∷ (p ++ q))) && nat_le (length (c ∷ (p ++ q))) MAX_NAME_BYTES) (list_all is_id_byte (c ∷ (p ++ q))) id in
    let bytes = second_true (nat_le 1 (length (c ∷ (p ++ q))) && nat_le (length (c ∷ (p ++ q))) MAX_NAME_BYTES) (list_all is_id_byte (c ∷ (p ++ q))) id in
    let most : length (c ∷ (p ++ q)) ≤ MAX_NAME_BYTES = leb-true (length (c ∷ (p ++ q))) MAX_NAME_BYTES (second_true (nat_le 1 (length (c ∷ (p ++ q)))) (nat_le (length (c ∷ (p ++ q))) MAX_NAME_BYTES) sizes) in
    let few : length (c ∷ p) ≤ MAX_NAME_BYTES = omega (arith, most, length-append p q) in
    let all : list_all is_id_byte (c ∷ p) ≡ true = first_true (list_all is_id_byte (c ∷ p)) (list_all is_id_byte q) (sym (list_all-append is_id_byte (c ∷ p) q) ∙ bytes) in
    and_from (nat_le 1 (length (c ∷ p)) && nat_le (length (c ∷ p)) MAX_NAME_BYTES) (list_all is_id_byte (c ∷ p))
    (and_from (nat_le 1 (length (c ∷ p))) (nat_le (length (c ∷ p)) MAX_NAME_BYTES) (le-leb 1 (length (c ∷ p)) (omega arith)) (le-leb (length (c ∷ p)) MAX_NAME_BYTES few)) all

-- the first byte of a mark begins a keyword or the name of a function
mark_front : (x y : ℕ) (rest : List ℕ) → has_name_mark (x ∷ y ∷ rest) ≡ true → is_word_front (x ∷ []) ≡ true
unfolding words keywords
mark_front x y rest mark = ⊎_elim variable computed (either (starts_with nat_eq (x ∷ y ∷ rest) (codes "v_")) (starts_with nat_eq (x ∷ y ∷ rest) (codes "c_")) mark)
  where
    variable : starts_with nat_eq (x ∷ y ∷ rest) (codes "v_") ≡ true → is_word_front (x ∷ []) ≡ true
    variable is = ap (λ (z : ℕ). is_word_front (z ∷ [])) (sym (eqb-true 118 x (first_true (nat_eq 118 x) (starts_with nat_eq (y ∷ rest) (codes "_")) is)))

    computed : starts_with nat_eq (x ∷ y ∷ rest) (codes "c_") ≡ true → is_word_front (x ∷ []) ≡ true
    computed is = ap (λ (z : ℕ). is_word_front (z ∷ [])) (sym (eqb-true 99 x (first_true (nat_eq 99 x) (starts_with nat_eq (y ∷ rest) (codes "_")) is)))

by_name : (word : List ℕ) → (has_name_mark word && ((length word == 2) || is_id (drop 2 word))) ≡ true → is_word_front word ≡ true
by_name word is = or_true (list_any (λ w. starts_with nat_eq w word) words) (has_name_mark word && ((length word == 2) || is_id (drop 2 word))) is

head_or : ℕ → List ℕ → ℕ
head_or x [] = x
head_or x (c ∷ text) = c

behind_head : List ℕ → List ℕ
behind_head [] = []
behind_head (c ∷ text) = text

pub first_byte : (x y : ℕ) (s t : List ℕ) → x ∷ s ≡ y ∷ t → x ≡ y
unfolding head_or
first_byte x y s t e = ap (head_or x) e

pub other_bytes : (x y : ℕ) (s t : List ℕ) → x ∷ s ≡ y ∷ t → s ≡ t
unfolding behind_head
other_bytes x y s t e = ap behind_head e

same_mark : (a b x y : ℕ) (s t : List ℕ) → a ≡ x → b ≡ y → has_name_mark (x ∷ y ∷ t) ≡ true → has_name_mark (a ∷ b ∷ s) ≡ true
same_mark a b x y s t first second mark = ap (λ (z : ℕ). has_name_mark (z ∷ b ∷ s)) first ∙ ap (λ (z : ℕ). has_name_mark (x ∷ z ∷ s)) second ∙ mark

marked_fronts : (x y : ℕ) (id p q : List ℕ) → has_name_mark (x ∷ y ∷ id) ≡ true → is_id id ≡ true → p ++ q ≡ x ∷ y ∷ id → 0 < length p → is_word_front p ≡ true
marked_fronts x y id [] q mark is whole some = absurd (omega arith)
marked_fronts x y id (a ∷ []) q mark is whole some = mark_front a y id (subst (λ (z : ℕ). has_name_mark (z ∷ y ∷ id) ≡ true) (sym (first_byte a x q (y ∷ id) whole)) mark)
marked_fronts x y id (a ∷ b ∷ []) q mark is whole some =
    let here : has_name_mark (a ∷ b ∷ []) ≡ true = same_mark a b x y [] id (first_byte a x (b ∷ q) (y ∷ id) whole) (first_byte b y q id (other_bytes a x (b ∷ q) (y ∷ id) whole)) mark in
    by_name (a ∷ b ∷ []) (rw here refl)
marked_fronts x y id (a ∷ b ∷ c ∷ p) q mark is whole some =
    let behind = other_bytes a x (b ∷ c ∷ (p ++ q)) (y ∷ id) whole in
    let here : has_name_mark (a ∷ b ∷ c ∷ p) ≡ true = same_mark a b x y (c ∷ p) id (first_byte a x (b ∷ c ∷ (p ++ q)) (y ∷ id) whole) (first_byte b y (c ∷ (p ++ q)) id behind) mark in
    let name : is_id (c ∷ p) ≡ true = id_front c p q (subst (λ t. is_id t ≡ true) (sym (other_bytes b y (c ∷ (p ++ q)) id behind)) is) in
    by_name (a ∷ b ∷ c ∷ p) (rw here (or_true (length (a ∷ b ∷ c ∷ p) == 2) (is_id (c ∷ p)) name))

named_fronts : (word : List ℕ) → has_name_mark word ≡ true → is_id (drop 2 word) ≡ true → HasFronts word
named_fronts [] mark is = absurd (cc)
named_fronts (x ∷ []) mark is = absurd (cc)
named_fronts (x ∷ y ∷ id) mark is = λ p q whole some. marked_fronts x y id p q mark is whole some

pub operand_fronts : (word : List ℕ) → is_operand_name word ≡ true → HasFronts word
operand_fronts word is =
    ⊎_elim (λ key. keyword_fronts word key) (λ name. named_fronts word (first_true (has_name_mark word) (is_id (drop 2 word)) name) (second_true (has_name_mark word) (is_id (drop 2 word)) name)) (either (list_any (λ w. bytes_eq w word) keywords) (has_name_mark word && is_id (drop 2 word)) is)

-- the first byte of a word is no blank, no parenthesis, begins no number, and is no `=`
abbrev pub is_letter : ℕ → Bool
is_letter c = not (is_blank c) && (not (c == 40) && (not (begins_number c) && not (c == 61)))

begins_well : List ℕ → Bool
begins_well [] = false
begins_well (c ∷ word) = is_letter c

all_well : list_all begins_well words ≡ true
unfolding words keywords begins_well
all_well = refl

first_letter : (c : ℕ) (word : List ℕ) → starts_with nat_eq word (c ∷ []) ≡ true → begins_well word ≡ true → is_letter c ≡ true
unfolding begins_well
first_letter c [] begins well = absurd (cc)
first_letter c (x ∷ word) begins well = ap is_letter (eqb-true c x (first_true (nat_eq c x) (starts_with nat_eq word []) begins)) ∙ well

pub letter_of : (c : ℕ) → is_word_front (c ∷ []) ≡ true → is_letter c ≡ true
unfolding Among
letter_of c front = ⊎_elim listed (λ marked. (let mark : has_name_mark (c ∷ []) ≡ false = either_false (118 == c) (99 == c) in let none : false ≡ true = rw mark at marked in absurd (cc))) (either (list_any (λ w. starts_with nat_eq w (c ∷ [])) words) (has_name_mark (c ∷ []) && ((length (c ∷ []) == 2) || is_id (drop 2 (c ∷ [])))) front)
  where
    listed : list_any (λ w. starts_with nat_eq w (c ∷ [])) words ≡ true → is_letter c ≡ true
    listed some = let f = found (λ w. starts_with nat_eq w (c ∷ [])) words some in first_letter c f.word f.passes (f.among begins_well all_well)
