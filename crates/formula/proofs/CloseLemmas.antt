-- No decimal text, and no front of a word, goes on with a parenthesis.
use Rattle.std.proofs.Common.{ℤ, ◌⊎◌, nat_le, append_assoc, ◌≡◌, ◌==◌, ◌+◌, ◌&&◌, ◌||◌, not, Bool, true, false, nat_eq, ℕ, suc, None, List, [], ◌∷◌, ◌++◌, length, drop, ⊎_elim, arith, refl, sym, ap, ◌∙◌, subst}
use Rattle.std.specs.Char.{is_ascii_digit}
use Rattle.std.specs.List.{list_all, list_any, starts_with, AllPass}
use Rattle.std.proofs.lemmas.Bool.{eqb-true, eqb-false, ne_eqb}
use Rattle.std.proofs.lemmas.List.{length-append}
use Rattle.std.proofs.lemmas.List.Folds.{list_all-append}
use Rattle.box_geo.specs.declared.limits.TheConstants.{MAX_NAME_BYTES}
use Rattle.names.specs.Names.{is_id, is_id_byte}
use Rattle.fx_num.specs.Decimal.{Decimal, IsDecimalText, IsSign, IsPoint, IsExponent}
use Rattle.fx_num.proofs.DecimalLemmas.{not_number-no_form}
use Rattle.formula.specs.Numbers.{literal_of, literal_from, is_number_front}
use Rattle.formula.specs.Words.{words, keywords, has_name_mark, is_word_front}

-- another byte than c
abbrev pub other_than : ℕ → ℕ → Bool
other_than c x = not (x == c)

pub and_false : (b : Bool) → (b && false) ≡ false
and_false true = refl
and_false false = refl

-- `)` is in no decimal text

digit_is_no_close : (c : ℕ) → is_ascii_digit c ≡ true → other_than 41 c ≡ true
digit_is_no_close c digit = by_test (c == 41) refl
  where
    by_test : (b : Bool) → (c == 41) ≡ b → not b ≡ true
    by_test false e = refl
    by_test true e = let same : c ≡ 41 = eqb-true c 41 e in let no : is_ascii_digit 41 ≡ true = subst (λ (x : ℕ). is_ascii_digit x ≡ true) same digit in cc

digits_without : (ds : List ℕ) → AllPass is_ascii_digit ds → list_all (other_than 41) ds ≡ true
digits_without [] pass = refl
digits_without (c ∷ ds) pass =
    let first : other_than 41 c ≡ true = digit_is_no_close c (pass 0 0 (omega arith)) in
    rw first (digits_without ds (λ k d below. pass (suc k) d (omega arith)))

sign_without : (negative : Bool) (sign : List ℕ) → IsSign negative sign → list_all (other_than 41) sign ≡ true
sign_without true sign is = ap (list_all (other_than 41)) is
sign_without false sign is = ⊎_elim (λ e. ap (list_all (other_than 41)) e) (λ e. ap (list_all (other_than 41)) e) is

point_without : (fraction point : List ℕ) → IsPoint fraction point → list_all (other_than 41) point ≡ true
point_without fraction point is = ⊎_elim (λ e. ap (list_all (other_than 41)) e) (λ e. ap (list_all (other_than 41)) e.0) is

both_without : (xs ys : List ℕ) → list_all (other_than 41) xs ≡ true → list_all (other_than 41) ys ≡ true → list_all (other_than 41) (xs ++ ys) ≡ true
both_without xs ys a b = list_all-append (other_than 41) xs ys ∙ rw a b

letter_without : (c : ℕ) → (c ≡ 101) ⊎ (c ≡ 69) → other_than 41 c ≡ true
letter_without c is = ⊎_elim (λ e. ap (other_than 41) e) (λ e. ap (other_than 41) e) is

exponent_without : (e : ℤ) (text : List ℕ) → IsExponent e text → list_all (other_than 41) text ≡ true
exponent_without e text is = ⊎_elim (λ none. ap (list_all (other_than 41)) none.0) (λ w. ap (list_all (other_than 41)) w.is_text ∙ (let l : other_than 41 w.letter ≡ true = letter_without w.letter w.is_letter in rw l (both_without w.sign w.digits (sign_without w.negative w.sign w.is_sign) (digits_without w.digits w.all_digits)))) is

decimal_without : (text : List ℕ) (d : Decimal) → IsDecimalText text d → list_all (other_than 41) text ≡ true
decimal_without text d form =
    let rest = both_without form.point (d.fraction ++ form.exponent) (point_without d.fraction form.point form.is_point) (both_without d.fraction form.exponent (digits_without d.fraction form.fraction_digits) (exponent_without d.exponent form.exponent form.is_exponent)) in
    let whole = both_without d.whole (form.point ++ (d.fraction ++ form.exponent)) (digits_without d.whole form.whole_digits) rest in
    ap (list_all (other_than 41)) form.is_text ∙ both_without form.sign (d.whole ++ (form.point ++ (d.fraction ++ form.exponent))) (sign_without d.negative form.sign form.is_sign) whole

closed_within : (t more : List ℕ) → list_all (other_than 41) (t ++ 41 ∷ more) ≡ false
closed_within t more = list_all-append (other_than 41) t (41 ∷ more) ∙ and_false (list_all (other_than 41) t)

no_number : (t more : List ℕ) → literal_of (t ++ 41 ∷ more) ≡ None
no_number t more =
    ap literal_from (not_number-no_form (t ++ 41 ∷ more) (λ d form. let a : list_all (other_than 41) (t ++ 41 ∷ more) ≡ true = decimal_without (t ++ 41 ∷ more) d form in let b = closed_within t more in let no : true ≡ false = sym a ∙ b in absurd (cc)))

pub number_closed : (t : List ℕ) → is_number_front (t ++ 41 ∷ []) ≡ false
number_closed t =
    let a : literal_of (t ++ 41 ∷ []) ≡ None = no_number t [] in
    let b : literal_of ((t ++ 41 ∷ []) ++ 48 ∷ []) ≡ None = rw append_assoc (no_number t (48 ∷ [])) in
    rw a (rw b refl)

pub first_true : (a b : Bool) → (a && b) ≡ true → a ≡ true
first_true true b both = refl
first_true false b both = both

pub second_true : (a b : Bool) → (a && b) ≡ true → b ≡ true
second_true true b both = both
second_true false b both = cc

apart : (x c : ℕ) → other_than c x ≡ true → (c == x) ≡ false
apart x c other = ne_eqb c x (λ same. by_test (x == c) refl same other)
  where
    by_test : (b : Bool) → (x == c) ≡ b → c ≡ x → not b ≡ true → ⊥
    by_test true e same other = absurd (cc)
    by_test false e same other = eqb-false x c e (sym same)

-- a word without c does not begin with a text that ends with c
no_prefix : (c : ℕ) (text word : List ℕ) → list_all (other_than c) word ≡ true → starts_with nat_eq word (text ++ c ∷ []) ≡ false
no_prefix c [] [] without = refl
no_prefix c [] (x ∷ word) without =
    let other : (c == x) ≡ false = apart x c (first_true (other_than c x) (list_all (other_than c) word) without) in
    rw other refl
no_prefix c (y ∷ text) [] without = refl
no_prefix c (y ∷ text) (x ∷ word) without = rw (no_prefix c text word (second_true (other_than c x) (list_all (other_than c) word) without)) (and_false (nat_eq y x))

-- no word goes on with c
no_word : (c : ℕ) (text : List ℕ) (list : List (List ℕ)) → list_all (list_all (other_than c)) list ≡ true → list_any (λ word. starts_with nat_eq word (text ++ c ∷ [])) list ≡ false
no_word c text [] without = refl
no_word c text (word ∷ list) without =
    let here = no_prefix c text word (first_true (list_all (other_than c) word) (list_all (list_all (other_than c)) list) without) in
    rw here (no_word c text list (second_true (list_all (other_than c) word) (list_all (list_all (other_than c)) list) without))

-- no name goes on with a byte that stands in none
all_but : (text : List ℕ) (c : ℕ) → is_id_byte c ≡ false → list_all is_id_byte (text ++ c ∷ []) ≡ false
all_but text c never = list_all-append is_id_byte text (c ∷ []) ∙ rw never (and_false (list_all is_id_byte text))

no_id : (text : List ℕ) (c : ℕ) → is_id_byte c ≡ false → is_id (text ++ c ∷ []) ≡ false
no_id text c never = rw (all_but text c never) (and_false (nat_le 1 (length (text ++ c ∷ [])) && nat_le (length (text ++ c ∷ [])) MAX_NAME_BYTES))

pub either_false : (a b : Bool) → ((a && false) || (b && false)) ≡ false
either_false true true = refl
either_false true false = refl
either_false false true = refl
either_false false false = refl

-- a text of two bytes that ends with c has no mark of a name
no_mark : (x c : ℕ) → (95 == c) ≡ false → has_name_mark (x ∷ c ∷ []) ≡ false
no_mark x c other = rw other (either_false (118 == x) (99 == x))

goes_on_as_name : List ℕ → Bool
goes_on_as_name text = has_name_mark text && ((length text == 2) || is_id (drop 2 text))

no_name : (text : List ℕ) (c : ℕ) → (95 == c) ≡ false → is_id_byte c ≡ false → goes_on_as_name (text ++ c ∷ []) ≡ false
unfolding goes_on_as_name
no_name [] c other never =
    let mark : has_name_mark (c ∷ []) ≡ false = either_false (118 == c) (99 == c) in
    rw mark refl
no_name (x ∷ []) c other never = rw (no_mark x c other) refl
no_name (x ∷ y ∷ text) c other never =
    let some : length (text ++ c ∷ []) ≡ length text + 1 = length-append text (c ∷ []) in
    let long : (length (x ∷ y ∷ (text ++ c ∷ [])) == 2) ≡ false = ne_eqb (length (x ∷ y ∷ (text ++ c ∷ []))) 2 (λ same. omega (arith, same, some)) in
    rw long (rw (no_id text c never) (and_false (has_name_mark (x ∷ y ∷ (text ++ c ∷ [])))))

pub word_ends : (text : List ℕ) (c : ℕ) → (95 == c) ≡ false → is_id_byte c ≡ false → list_all (list_all (other_than c)) words ≡ true → is_word_front (text ++ c ∷ []) ≡ false
unfolding goes_on_as_name
word_ends text c other never without = rw (no_word c text words without) (no_name text c other never)

pub word_closed : (text : List ℕ) → is_word_front (text ++ 41 ∷ []) ≡ false
unfolding words keywords
word_closed text = word_ends text 41 refl refl refl

pub word_opened : (text : List ℕ) → is_word_front (text ++ 40 ∷ []) ≡ false
unfolding words keywords
word_opened text = word_ends text 40 refl refl refl
