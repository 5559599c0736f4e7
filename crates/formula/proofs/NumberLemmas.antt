-- Where a decimal text ends: it goes on with no blank, parenthesis or operator; and each front of one goes on to one.
use Rattle.std.proofs.Common.{◌⊎◌, ◌≡◌, ◌==◌, ◌+◌, ◌<◌, ◌≤◌, ◌^◌, ◌&&◌, ◌||◌, cond, nat_le, Bool, true, false, ℕ, suc, ℤ, Option, Ok, Err, Some, None, List, [], ◌∷◌, ◌++◌, length, ⊎_elim, arith, refl, sym, ap, ◌∙◌, subst, append_assoc, append-nil}
use Rattle.std.specs.Char.{is_ascii_digit}
use Rattle.std.specs.List.{AllPass}
use Rattle.std.proofs.lemmas.Bool.{and_from, le-leb, leb-true}
use Rattle.fx_num.specs.Rounding.{with_sign}
use Rattle.fx_num.specs.Decimal.{Decimal, IsDecimalText, IsSign, IsPoint, IsExponent, decimal_of, decimal_units, digits_of, number_of, read_number, significant}
use Rattle.fx_num.specs.declared.decimal.NumError.TheVariants.{TooManyDigits, OutOfRange}
use Rattle.fx_num.proofs.DecimalLemmas.{decimal_of-form, form_from_decimal_of, not_number-no_form}
use Rattle.formula.specs.Numbers.{literal_of, literal_from, is_there, is_number_front}
use Rattle.formula.proofs.CloseLemmas.{first_true, second_true}

-- which byte may stand behind which in a decimal text
abbrev pub goes_on : ℕ → ℕ → Bool
goes_on a c = is_ascii_digit c || (c == 46) || (c == 101) || (c == 69) || (((c == 43) || (c == 45)) && ((a == 101) || (a == 69)))

chain : ℕ → List ℕ → Bool
chain a [] = true
chain a (c ∷ text) = goes_on a c && chain c text

-- a text that may stand behind every byte
Free : List ℕ → Type 0
Free text = (a : ℕ) → chain a text ≡ true

digit_goes_on : (a c : ℕ) → is_ascii_digit c ≡ true → goes_on a c ≡ true
digit_goes_on a c digit = rw digit refl

free_digits : (ds rest : List ℕ) → AllPass is_ascii_digit ds → Free rest → Free (ds ++ rest)
unfolding chain Free
free_digits [] rest all free = free
free_digits (d ∷ ds) rest all free = λ a.
    and_from (goes_on a d) (chain d (ds ++ rest)) (digit_goes_on a d (all 0 0 (omega arith))) (free_digits ds rest (λ k x below. all (suc k) x (omega arith)) free d)

free_point : (fraction point rest : List ℕ) → IsPoint fraction point → Free rest → Free (point ++ rest)
unfolding chain Free
free_point fraction point rest is free =
    ⊎_elim (λ dot. subst (λ p. Free (p ++ rest)) (sym dot) (λ a. free 46)) (λ none. subst (λ p. Free (p ++ rest)) (sym none.0) free) is

sign_goes_on : (a : ℕ) (negative : Bool) (sign rest : List ℕ) → goes_on a 45 ≡ true → goes_on a 43 ≡ true → IsSign negative sign → Free rest → chain a (sign ++ rest) ≡ true
unfolding chain Free
sign_goes_on a true sign rest minus plus is free = subst (λ s. chain a (s ++ rest) ≡ true) (sym is) (and_from (goes_on a 45) (chain 45 rest) minus (free 45))
sign_goes_on a false sign rest minus plus is free =
    ⊎_elim (λ none. subst (λ s. chain a (s ++ rest) ≡ true) (sym none) (free a)) (λ one. subst (λ s. chain a (s ++ rest) ≡ true) (sym one) (and_from (goes_on a 43) (chain 43 rest) plus (free 43))) is

free_letter : (c : ℕ) (negative : Bool) (sign digits : List ℕ) → (c ≡ 101) ⊎ (c ≡ 69) → IsSign negative sign → Free digits → Free (c ∷ (sign ++ digits))
unfolding chain Free
free_letter c negative sign digits letter is free =
    ⊎_elim (λ e. subst (λ (x : ℕ). Free (x ∷ (sign ++ digits))) (sym e) (λ a. sign_goes_on 101 negative sign digits refl refl is free)) (λ e. subst (λ (x : ℕ). Free (x ∷ (sign ++ digits))) (sym e) (λ a. sign_goes_on 69 negative sign digits refl refl is free)) letter

free_nothing : Free []
unfolding chain Free
free_nothing = λ a. refl

free_exponent : (e : ℤ) (text : List ℕ) → IsExponent e text → Free text
free_exponent e text is =
    ⊎_elim (λ none. subst Free (sym none.0) free_nothing) (λ w. subst Free (sym w.is_text) (free_letter w.letter w.negative w.sign w.digits w.is_letter w.is_sign (subst Free (append-nil w.digits) (free_digits w.digits [] w.all_digits free_nothing)))) is

decimal_chain : (text : List ℕ) (d : Decimal) → IsDecimalText text d → chain 101 text ≡ true
decimal_chain text d form =
    let tail = free_digits d.fraction form.exponent form.fraction_digits (free_exponent d.exponent form.exponent form.is_exponent) in
    let all = free_digits d.whole (form.point ++ (d.fraction ++ form.exponent)) form.whole_digits (free_point d.fraction form.point (d.fraction ++ form.exponent) form.is_point tail) in
    subst (λ t. chain 101 t ≡ true) (sym form.is_text) (sign_goes_on 101 d.negative form.sign (d.whole ++ (form.point ++ (d.fraction ++ form.exponent))) refl refl form.is_sign all)

-- the last byte of a text, or the one before it
last_of : ℕ → List ℕ → ℕ
last_of a [] = a
last_of a (c ∷ text) = last_of c text

chain_at : (a : ℕ) (text : List ℕ) (c : ℕ) (more : List ℕ) → chain a (text ++ c ∷ more) ≡ true → goes_on (last_of a text) c ≡ true
unfolding chain last_of
chain_at a [] c more all = first_true (goes_on a c) (chain c more) all
chain_at a (x ∷ text) c more all = chain_at x text c more (second_true (goes_on a x) (chain x (text ++ c ∷ more)) all)

last_append : (a : ℕ) (x y : List ℕ) → last_of a (x ++ y) ≡ last_of (last_of a x) y
unfolding last_of
last_append a [] y = refl
last_append a (c ∷ x) y = last_append c x y

-- a byte with which a decimal text may end
abbrev pub ends_well : ℕ → Bool
ends_well a = is_ascii_digit a || (a == 46)

Ends : List ℕ → Type 0
Ends text = (a : ℕ) → ends_well a ≡ true → ends_well (last_of a text) ≡ true

Closes : List ℕ → Type 0
Closes text = (a : ℕ) → ends_well (last_of a text) ≡ true

closes_behind : (x y : List ℕ) → Closes y → Closes (x ++ y)
unfolding Closes
closes_behind x y closes = λ a. subst (λ (z : ℕ). ends_well z ≡ true) (sym (last_append a x y)) (closes (last_of a x))

closes_before : (x y : List ℕ) → Closes x → Ends y → Closes (x ++ y)
unfolding Closes Ends
closes_before x y closes ends = λ a. subst (λ (z : ℕ). ends_well z ≡ true) (sym (last_append a x y)) (ends (last_of a x) (closes a))

ends_both : (x y : List ℕ) → Ends x → Ends y → Ends (x ++ y)
unfolding Ends
ends_both x y first second = λ a well. subst (λ (z : ℕ). ends_well z ≡ true) (sym (last_append a x y)) (second (last_of a x) (first a well))

digit_well : (d : ℕ) → is_ascii_digit d ≡ true → ends_well d ≡ true
digit_well d digit = rw digit refl

ends_digits : (ds : List ℕ) → AllPass is_ascii_digit ds → Ends ds
unfolding Ends last_of
ends_digits [] all = λ a well. well
ends_digits (d ∷ ds) all = λ a well. ends_digits ds (λ k x below. all (suc k) x (omega arith)) d (digit_well d (all 0 0 (omega arith)))

closes_digits : (ds : List ℕ) → AllPass is_ascii_digit ds → 0 < length ds → Closes ds
unfolding Closes Ends last_of
closes_digits [] all some = absurd (omega arith)
closes_digits (d ∷ ds) all some = λ a. ends_digits ds (λ k x below. all (suc k) x (omega arith)) d (digit_well d (all 0 0 (omega arith)))

ends_point : (fraction point : List ℕ) → IsPoint fraction point → Ends point
unfolding Ends last_of
ends_point fraction point is = ⊎_elim (λ dot. subst Ends (sym dot) (λ a well. refl)) (λ none. subst Ends (sym none.0) (λ a well. well)) is

ends_exponent : (e : ℤ) (text : List ℕ) → IsExponent e text → Ends text
unfolding Ends Closes last_of
ends_exponent e text is =
    ⊎_elim (λ none. subst Ends (sym none.0) (λ a well. well)) (λ w. subst Ends (sym w.is_text) (λ a well. closes_behind (w.letter ∷ w.sign) w.digits (closes_digits w.digits w.all_digits w.some_digit) a)) is

closes_parts : (whole point fraction tail : List ℕ) → AllPass is_ascii_digit whole → AllPass is_ascii_digit fraction → Ends point → Ends tail → 0 < length whole + length fraction → Closes (whole ++ (point ++ (fraction ++ tail)))
closes_parts [] point fraction tail whole_digits fraction_digits pointed ends some =
    closes_behind point (fraction ++ tail) (closes_before fraction tail (closes_digits fraction fraction_digits (omega arith)) ends)
closes_parts (w ∷ whole) point fraction tail whole_digits fraction_digits pointed ends some =
    closes_before (w ∷ whole) (point ++ (fraction ++ tail)) (closes_digits (w ∷ whole) whole_digits (omega arith)) (ends_both point (fraction ++ tail) pointed (ends_both fraction tail (ends_digits fraction fraction_digits) ends))

decimal_closes : (text : List ℕ) (d : Decimal) → IsDecimalText text d → Closes text
decimal_closes text d form =
    let parts = closes_parts d.whole form.point d.fraction form.exponent form.whole_digits form.fraction_digits (ends_point d.fraction form.point form.is_point) (ends_exponent d.exponent form.exponent form.is_exponent) form.some_digit in
    subst Closes (sym form.is_text) (closes_behind form.sign (d.whole ++ (form.point ++ (d.fraction ++ form.exponent))) parts)

-- a decimal text and its parts, and back
pub record Formed (text : List ℕ) : Type 0 where
  pub parts : Decimal
  pub form : IsDecimalText text parts
  pub few : significant (digits_of parts) ≤ 24

pub formed : (text : List ℕ) (units : Option ℤ) → literal_of text ≡ Some units → Formed text
unfolding read_number
formed text units is = by_parts (decimal_of text) refl is
  where
    by_count : (d : Decimal) (b : Bool) → decimal_of text ≡ Some d → nat_le (significant (digits_of d)) 24 ≡ b → literal_from (cond b (cond (nat_le (decimal_units d) (2 ^ 62)) (Ok (with_sign d.negative (decimal_units d))) (Err OutOfRange)) (Err TooManyDigits)) ≡ Some units → Formed text
    by_count d true e few read = record { parts = d; form = form_from_decimal_of text d e; few = leb-true (significant (digits_of d)) 24 few }
    by_count d false e many read = absurd (cc)

    by_parts : (o : Option Decimal) → decimal_of text ≡ o → literal_from (number_of o) ≡ Some units → Formed text
    by_parts None e read = absurd (cc)
    by_parts (Some d) e read = by_count d (nat_le (significant (digits_of d)) 24) e refl read

there_in_range : (d : Decimal) (b : Bool) → is_there (literal_from (cond b (Ok (with_sign d.negative (decimal_units d))) (Err OutOfRange))) ≡ true
there_in_range d true = refl
there_in_range d false = refl

pub there : (text : List ℕ) (d : Decimal) → IsDecimalText text d → significant (digits_of d) ≤ 24 → is_there (literal_of text) ≡ true
unfolding read_number
there text d form few =
    let parts : decimal_of text ≡ Some d = decimal_of-form text d form in
    let count : nat_le (significant (digits_of d)) 24 ≡ true = le-leb (significant (digits_of d)) 24 few in
    rw parts (rw count (there_in_range d (nat_le (decimal_units d) (2 ^ 62))))

-- no decimal text goes on with a byte that stands behind no end of one
never_goes_on : (text : List ℕ) (units : Option ℤ) (c : ℕ) (more : List ℕ) → literal_of text ≡ Some units → ((a : ℕ) → ends_well a ≡ true → goes_on a c ≡ false) → literal_of (text ++ c ∷ more) ≡ None
unfolding Closes
never_goes_on text units c more is never =
    let f = formed text units is in
    let end : ends_well (last_of 101 text) ≡ true = decimal_closes text f.parts f.form 101 in
    ap literal_from (not_number-no_form (text ++ c ∷ more) (λ d form. let a : goes_on (last_of 101 text) c ≡ true = chain_at 101 text c more (decimal_chain (text ++ c ∷ more) d form) in let b = never (last_of 101 text) end in let no : true ≡ false = sym a ∙ b in absurd (cc)))

pub number_ends : (text : List ℕ) (units : Option ℤ) (c : ℕ) → literal_of text ≡ Some units → ((a : ℕ) → ends_well a ≡ true → goes_on a c ≡ false) → is_number_front (text ++ c ∷ []) ≡ false
number_ends text units c is never =
    let a : literal_of (text ++ c ∷ []) ≡ None = never_goes_on text units c [] is never in
    let b : literal_of ((text ++ c ∷ []) ++ 48 ∷ []) ≡ None = ap literal_of (append_assoc text (c ∷ []) (48 ∷ [])) ∙ never_goes_on text units c (48 ∷ []) is never in
    rw a (rw b refl)
