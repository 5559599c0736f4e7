-- What proofs on number texts cite: digits and their values, powers of ten, and the scale of a decimal text.
use Rattle.std.proofs.Common.{◌≡◌, ◌+◌, ◌-◌, ◌*◌, ◌^◌, ◌<◌, ◌≤◌, ◌==◌, ◌&&◌, ◌||◌, ◌⊎◌, inl, inr, ⊎_elim, Bool, true, false, cond, nat_lt, nat_le, ℕ, ℤ, suc, Option, Some, None, Ok, Err, List, [], ◌∷◌, ◌++◌, length, take, drop, get_or, arith, refl, sym, ap, ◌∙◌, subst, one-add}
use Rattle.std.specs.Bool.{IsTrue}
use Rattle.std.specs.Char.{is_ascii_digit, digit_value}
use Rattle.std.specs.List.{prefix_len, list_all, AllPass}
use Rattle.std.specs.Str.Parse.{digits_value, digits_value_after, AllDigits}
use Rattle.std.proofs.lemmas.Bool.{and_parts, or_cases, eqb-true, eqb-false, leb-true, ltb-true, eq-eqb, ne_eqb, and_from, lt-ltb, le-leb}
use Rattle.std.proofs.lemmas.Bool.Decides.{nat_tests}
use Rattle.std.proofs.lemmas.Int.Digits.{digits_value-lt}
use Rattle.std.proofs.lemmas.List.{length-drop, length-append, get_or-take, at_drop_more, take-append-drop, take_at, drop_at}
use Rattle.std.proofs.lemmas.List.Folds.{list_all-append, length-prefix_len, prefix_len-append}
use Rattle.std.proofs.lemmas.List.Sums.{AllPass-from_list_all, list_all-from_AllPass, prefix_len_passes, prefix_len_is}
use Rattle.std.proofs.lemmas.Nat.{mul-le, pow-add}
use Rattle.std.proofs.Math.Nat.{pow-le-pow_right, mul_assoc}
use Rattle.fx_num.specs.Rounding.{nearest_of, with_sign}
use Rattle.fx_num.specs.Decimal.{Decimal, significant, digits_of, decimal_units, above_zero, below_zero, leading_digits, after_digits, has_minus, after_sign, fraction_digits, after_fraction, is_exponent_digits, exponent_of, decimal_with, decimal_of, number_of, read_number, IsSign, IsPoint, IsExponent, WritesExponent, IsDecimalText}
use Rattle.fx_num.specs.declared.decimal.NumError.TheVariants.{NotNumber, TooManyDigits, OutOfRange}
use Rattle.fx_num.proofs.RoundingLemmas.{rounded_is, nearest_of-mul, nearest_of-extend}

-- powers of ten
pub ten-pow-le : (i j : ℕ) → i ≤ j → 10 ^ i ≤ 10 ^ j
ten-pow-le i j le = pow-le-pow_right {n = 10} (omega arith) le

pub ten-pow_pos : (i : ℕ) → 0 < 10 ^ i
ten-pow_pos i = omega (arith, ten-pow-le 0 i (omega arith))

-- a number times a high power of ten is out of range, and over one it is 0
pub out_of_range : (n tens : ℕ) → 0 < n → 11 < tens → n * 2 ^ 24 * 10 ^ tens ≤ 2 ^ 62 → ⊥
out_of_range n tens some high le =
    let power : 10 ^ 12 ≤ 10 ^ tens = ten-pow-le 12 tens (omega arith) in
    let product : 1 * 2 ^ 24 * 10 ^ 12 ≤ n * 2 ^ 24 * 10 ^ tens = mul-le (1 * 2 ^ 24) (10 ^ 12) (n * 2 ^ 24) (10 ^ tens) (omega arith) power in
    omega arith

pub rounds_to_zero : (n tens : ℕ) → n < 10 ^ 24 → 37 < tens → 0 ≡ nearest_of (n * 2 ^ 24) (10 ^ tens)
rounds_to_zero n tens small low =
    let power : 10 ^ 38 ≤ 10 ^ tens = ten-pow-le 38 tens (omega arith) in
    rounded_is (n * 2 ^ 24) (10 ^ tens) 0 (omega arith) record { at_most = omega arith; at_least = omega arith }

-- of two powers of ten in a fraction only their quotient counts
pub nearest_of-raised : (n above below : ℕ) → below ≤ above → nearest_of (n * 10 ^ above) (10 ^ below) ≡ n * 10 ^ (above - below)
nearest_of-raised n above below le =
    let split : above - below + below ≡ above = omega arith in
    let powers : 10 ^ above ≡ 10 ^ (above - below) * 10 ^ below = ap (λ (k : ℕ). 10 ^ k) (sym split) ∙ pow-add 10 (above - below) below in
    let numerator : n * 10 ^ above ≡ n * 10 ^ (above - below) * 10 ^ below = ap (λ (p : ℕ). n * p) powers ∙ sym (mul_assoc n (10 ^ (above - below)) (10 ^ below)) in
    ap (λ (m : ℕ). nearest_of m (10 ^ below)) numerator ∙ nearest_of-mul (n * 10 ^ (above - below)) (10 ^ below) (ten-pow_pos below)

pub nearest_of-lowered : (n above below : ℕ) → above ≤ below → nearest_of (n * 10 ^ above) (10 ^ below) ≡ nearest_of n (10 ^ (below - above))
nearest_of-lowered n above below le =
    let split : below - above + above ≡ below = omega arith in
    let powers : 10 ^ below ≡ 10 ^ (below - above) * 10 ^ above = ap (λ (k : ℕ). 10 ^ k) (sym split) ∙ pow-add 10 (below - above) above in
    ap (λ (d : ℕ). nearest_of (n * 10 ^ above) d) powers ∙ nearest_of-extend n (10 ^ (below - above)) (10 ^ above) (ten-pow_pos (below - above)) (ten-pow_pos above)

-- digits of a front, and of a whole text
pub list_all-prefix : {X : Type 0} (p : X → Bool) (xs : List X) → list_all p (take (prefix_len p xs) xs) ≡ true
list_all-prefix p xs =
    list_all-from_AllPass p (take (prefix_len p xs) xs)
    (λ k d l. let within : k < prefix_len p xs = omega (arith, length-prefix_len p xs) in
    ap p (get_or-take (prefix_len p xs) xs k d within) ∙ prefix_len_passes p xs k d within)

pub list_all-from_prefix_len : {X : Type 0} (p : X → Bool) (xs : List X) → prefix_len p xs ≡ length xs → list_all p xs ≡ true
list_all-from_prefix_len p xs whole = list_all-from_AllPass p xs (λ k d l. prefix_len_passes p xs k d (omega arith))

-- the value of digits
pub digit_value-digit : (c : ℕ) → is_ascii_digit c ≡ true → digit_value c < 10
digit_value-digit c digit = grind (arith, nat_tests)

pub all_digits : (ds : List ℕ) → list_all is_ascii_digit ds ≡ true → AllDigits 10 ds
all_digits [] all = tt
all_digits (c ∷ cs) all =
    let both = and_parts (is_ascii_digit c) (list_all is_ascii_digit cs) all in
    (digit_value-digit c both.0, all_digits cs both.1)

pub digits_value_after-ge : (n : ℕ) (ds : List ℕ) → n ≤ digits_value_after 10 n ds
digits_value_after-ge n [] = omega arith
digits_value_after-ge n (c ∷ cs) = omega (arith, digits_value_after-ge (n * 10 + digit_value c) cs)

pub digits_value_after-append : (n : ℕ) (ds es : List ℕ) → digits_value_after 10 n (ds ++ es) ≡ digits_value_after 10 (digits_value_after 10 n ds) es
digits_value_after-append n [] es = refl
digits_value_after-append n (d ∷ ds) es = digits_value_after-append (n * 10 + digit_value d) ds es

-- a value of k digits or fewer
pub digits_value_short : (k : ℕ) (ds : List ℕ) → list_all is_ascii_digit ds ≡ true → length ds ≤ k → digits_value 10 ds < 10 ^ k
digits_value_short k ds all few = omega (arith, digits_value-lt 10 ds (all_digits ds all), ten-pow-le (length ds) k few)

-- the digits that count: a 0 in front is passed, any other digit begins them
significant_zero : (c : ℕ) (cs : List ℕ) → (c == 48) ≡ true → significant (c ∷ cs) ≡ significant cs
significant_zero c cs zero_is =
    ap (λ (b : Bool). length (drop (cond b (1 + prefix_len (λ c. c == 48) cs) 0) (c ∷ cs))) zero_is
    ∙ ap (λ (n : ℕ). length (drop n (c ∷ cs))) (one-add (prefix_len (λ c. c == 48) cs))

significant_other : (c : ℕ) (cs : List ℕ) → (c == 48) ≡ false → significant (c ∷ cs) ≡ suc (length cs)
significant_other c cs other = ap (λ (b : Bool). length (drop (cond b (1 + prefix_len (λ c. c == 48) cs) 0) (c ∷ cs))) other

pub significant-le : (ds : List ℕ) → significant ds ≤ length ds
significant-le ds = omega (arith, length-drop (prefix_len (λ c. c == 48) ds) ds)

pub significant-append_zero : (ds es : List ℕ) → significant ds ≡ 0 → significant (ds ++ es) ≡ significant es
significant-append_zero [] es none = refl
significant-append_zero (c ∷ cs) es none =
    elim (c == 48) as (λ b. (c == 48) ≡ b → significant (c ∷ (cs ++ es)) ≡ significant es) [
      | true ↦ λ e. significant_zero c (cs ++ es) e ∙ significant-append_zero cs es (sym (significant_zero c cs e) ∙ none)
      | false ↦ λ e. absurd (omega (arith, significant_other c cs e))
    ] refl

pub significant-append_some : (ds es : List ℕ) → 0 < significant ds → significant (ds ++ es) ≡ significant ds + length es
significant-append_some [] es some = absurd (omega arith)
significant-append_some (c ∷ cs) es some =
    elim (c == 48) as (λ b. (c == 48) ≡ b → significant (c ∷ (cs ++ es)) ≡ significant (c ∷ cs) + length es) [
      | true ↦ λ e. omega (arith, significant_zero c (cs ++ es) e, significant_zero c cs e, significant-append_some cs es (omega (arith, significant_zero c cs e)))
      | false ↦ λ e. omega (arith, significant_other c (cs ++ es) e, significant_other c cs e, length-append cs es)
    ] refl

-- a value is below the power of ten of the digits that count
pub digits_value-significant : (ds : List ℕ) → list_all is_ascii_digit ds ≡ true → digits_value 10 ds < 10 ^ significant ds
digits_value-significant [] all = omega arith
digits_value-significant (c ∷ cs) all =
    elim (c == 48) as (λ b. (c == 48) ≡ b → digits_value 10 (c ∷ cs) < 10 ^ significant (c ∷ cs)) [
      | true ↦ λ e. rw (significant_zero c cs e, eqb-true c 48 e) (digits_value-significant cs (and_parts (is_ascii_digit c) (list_all is_ascii_digit cs) all).1)
      | false ↦ λ e. rw (significant_other c cs e) (digits_value-lt 10 (c ∷ cs) (all_digits (c ∷ cs) all))
    ] refl

pub digits_value_few : (ds es : List ℕ) → list_all is_ascii_digit ds ≡ true → list_all is_ascii_digit es ≡ true → significant (ds ++ es) ≤ 24 → digits_value_after 10 (digits_value 10 ds) es < 10 ^ 24
digits_value_few ds es all rest few =
    let both : list_all is_ascii_digit (ds ++ es) ≡ true = list_all-append is_ascii_digit ds es ∙ ap (λ (b : Bool). b && list_all is_ascii_digit es) all ∙ rest in
    omega (arith, digits_value_after-append 0 ds es, digits_value-significant (ds ++ es) both, ten-pow-le (significant (ds ++ es)) 24 few)

-- one more digit behind n fits where all of them do
pub next_digit : (n i : ℕ) (ds : List ℕ) → i < length ds → list_all is_ascii_digit ds ≡ true → digits_value_after 10 n (drop i ds) < 10 ^ 24 → n * 10 + (get_or ds i 0 - 48) < 10 ^ 24
next_digit n i ds within all fits =
    let digit : is_ascii_digit (get_or ds i 0) ≡ true = AllPass-from_list_all is_ascii_digit ds all i 0 within in
    let value_is : digit_value (get_or ds i 0) ≡ get_or ds i 0 - 48 = grind (arith, nat_tests) in
    let step : digits_value_after 10 n (drop i ds) ≡ digits_value_after 10 (n * 10 + digit_value (get_or ds i 0)) (drop (i + 1) ds) = at_drop_more (digits_value_after 10 n) ds i 0 within in
    omega (arith, digits_value_after-ge (n * 10 + digit_value (get_or ds i 0)) (drop (i + 1) ds))

-- the magnitude of a decimal text, from what its digits are and how far its powers of ten lie apart
pub decimal_units-raised : (d : Decimal) (n tens : ℕ) → n ≡ digits_value 10 (digits_of d) → length d.fraction + below_zero d.exponent ≤ above_zero d.exponent → tens ≡ above_zero d.exponent - (length d.fraction + below_zero d.exponent) → n * 2 ^ 24 * 10 ^ tens ≡ decimal_units d
unfolding decimal_units
decimal_units-raised d n tens digits le apart =
    ap (λ (k : ℕ). n * 2 ^ 24 * 10 ^ k) apart
    ∙ sym (nearest_of-raised (n * 2 ^ 24) (above_zero d.exponent) (length d.fraction + below_zero d.exponent) le)
    ∙ ap (λ (m : ℕ). nearest_of (m * 2 ^ 24 * 10 ^ above_zero d.exponent) (10 ^ (length d.fraction + below_zero d.exponent))) digits

pub decimal_units-lowered : (d : Decimal) (n tens : ℕ) → n ≡ digits_value 10 (digits_of d) → above_zero d.exponent ≤ length d.fraction + below_zero d.exponent → tens ≡ length d.fraction + below_zero d.exponent - above_zero d.exponent → nearest_of (n * 2 ^ 24) (10 ^ tens) ≡ decimal_units d
unfolding decimal_units
decimal_units-lowered d n tens digits le apart =
    ap (λ (k : ℕ). nearest_of (n * 2 ^ 24) (10 ^ k)) apart
    ∙ sym (nearest_of-lowered (n * 2 ^ 24) (above_zero d.exponent) (length d.fraction + below_zero d.exponent) le)
    ∙ ap (λ (m : ℕ). nearest_of (m * 2 ^ 24 * 10 ^ above_zero d.exponent) (10 ^ (length d.fraction + below_zero d.exponent))) digits

-- the form of a decimal text: a text is its pieces
take_drop : (n : ℕ) (xs : List ℕ) → xs ≡ take n xs ++ drop n xs
take_drop n xs = sym (take-append-drop n xs)

sign_at : (c : ℕ) (text : List ℕ) (minus plus : Bool) → (c == 45) ≡ minus → (c == 43) ≡ plus → (sign : List ℕ) × IsSign minus sign × (c ∷ text ≡ sign ++ cond (minus || plus) text (c ∷ text))
sign_at c text true plus is_minus is_plus = (45 ∷ [], refl, ap (λ (x : ℕ). x ∷ text) (eqb-true c 45 is_minus))
sign_at c text false true is_minus is_plus = (43 ∷ [], inr refl, ap (λ (x : ℕ). x ∷ text) (eqb-true c 43 is_plus))
sign_at c text false false is_minus is_plus = ([], inl refl, refl)

sign_split : (text : List ℕ) → (sign : List ℕ) × IsSign (has_minus text) sign × (text ≡ sign ++ after_sign text)
sign_split [] = ([], inl refl, refl)
sign_split (c ∷ text) = sign_at c text (c == 45) (c == 43) refl refl

point_at : (c : ℕ) (text : List ℕ) (b : Bool) → (c == 46) ≡ b → (point : List ℕ) × IsPoint (cond b (leading_digits text) []) point × (c ∷ text ≡ point ++ (cond b (leading_digits text) [] ++ cond b (after_digits text) (c ∷ text)))
point_at c text true is_point = (46 ∷ [], inl refl, ap (λ (x : ℕ). x ∷ text) (eqb-true c 46 is_point) ∙ ap (λ (t : List ℕ). 46 ∷ t) (take_drop (prefix_len is_ascii_digit text) text))
point_at c text false is_point = ([], inr (refl, refl), refl)

point_split : (text : List ℕ) → (point : List ℕ) × IsPoint (fraction_digits text) point × (text ≡ point ++ (fraction_digits text ++ after_fraction text))
point_split [] = ([], inr (refl, refl), refl)
point_split (c ∷ text) = point_at c text (c == 46) refl

leading_all : (text : List ℕ) → AllPass is_ascii_digit (leading_digits text)
leading_all text = AllPass-from_list_all is_ascii_digit (leading_digits text) (list_all-prefix is_ascii_digit text)

nothing_passes : AllPass is_ascii_digit []
nothing_passes k d within = absurd (omega arith)

fraction_all : (text : List ℕ) → AllPass is_ascii_digit (fraction_digits text)
fraction_all [] = nothing_passes
fraction_all (c ∷ text) =
    elim (c == 46) as (λ b. AllPass is_ascii_digit (cond b (leading_digits text) []))
    [ true ↦ leading_all text | false ↦ nothing_passes ]

-- what an exponent and the parts of a decimal text are, where they are read
exponent_at : (c : ℕ) (text : List ℕ) (e : ℤ) (letter digits : Bool) → ((c == 101) || (c == 69)) ≡ letter → is_exponent_digits (after_sign text) ≡ digits → cond letter (cond digits (Some (with_sign (has_minus text) (digits_value 10 (after_sign text)))) None) None ≡ Some e → WritesExponent e (c ∷ text)
exponent_at c text e true true is_letter are_digits reads =
    let sign = sign_split text in
    let outer : IsTrue (nat_lt 0 (length (after_sign text)) && nat_le (length (after_sign text)) 3) × IsTrue (prefix_len is_ascii_digit (after_sign text) == length (after_sign text)) =
    and_parts (nat_lt 0 (length (after_sign text)) && nat_le (length (after_sign text)) 3) (prefix_len is_ascii_digit (after_sign text) == length (after_sign text)) are_digits in
    let inner : IsTrue (nat_lt 0 (length (after_sign text))) × IsTrue (nat_le (length (after_sign text)) 3) =
    and_parts (nat_lt 0 (length (after_sign text))) (nat_le (length (after_sign text)) 3) outer.0 in
    record {
      letter = c;
      negative = has_minus text;
      sign = sign.0;
      digits = after_sign text;
      is_text = ap (λ (t : List ℕ). c ∷ t) sign.2;
      is_letter = ⊎_elim (λ x. inl (eqb-true c 101 x)) (λ x. inr (eqb-true c 69 x)) (or_cases (c == 101) (c == 69) is_letter);
      is_sign = sign.1;
      all_digits = AllPass-from_list_all is_ascii_digit (after_sign text) (list_all-from_prefix_len is_ascii_digit (after_sign text) (eqb-true (prefix_len is_ascii_digit (after_sign text)) (length (after_sign text)) outer.1));
      some_digit = ltb-true 0 (length (after_sign text)) inner.0;
      few_digits = leb-true (length (after_sign text)) 3 inner.1;
      is_value = cc;
    }
exponent_at c text e true false is_letter are_digits reads = cc
exponent_at c text e false digits is_letter are_digits reads = cc

pub exponent_read : (text : List ℕ) (e : ℤ) → exponent_of text ≡ Some e → IsExponent e text
exponent_read [] e reads = inl (refl, cc)
exponent_read (c ∷ text) e reads = inr (exponent_at c text e _ _ refl refl reads)

parts_at : (negative : Bool) (whole fraction : List ℕ) (e : ℤ) (d : Decimal) (b : Bool) → (length whole + length fraction == 0) ≡ b → cond b None (Some record { negative = negative; whole = whole; fraction = fraction; exponent = e }) ≡ Some d → (0 < length whole + length fraction) × (record { negative = negative; whole = whole; fraction = fraction; exponent = e } ≡ d)
parts_at negative whole fraction e d true none reads = cc
parts_at negative whole fraction e d false some reads = (let apart = eqb-false _ _ some in omega arith, cc)

parts_read : (negative : Bool) (whole fraction : List ℕ) (o : Option ℤ) (d : Decimal) → decimal_with negative whole fraction o ≡ Some d → (e : ℤ) × (o ≡ Some e) × (0 < length whole + length fraction) × (record { negative = negative; whole = whole; fraction = fraction; exponent = e } ≡ d)
parts_read negative whole fraction None d reads = cc
parts_read negative whole fraction (Some e) d reads = let parts = parts_at negative whole fraction e d _ refl reads in (e, refl, parts.0, parts.1)

form_at : (text : List ℕ) (e : ℤ) → exponent_of (after_fraction (after_digits (after_sign text))) ≡ Some e → 0 < length (leading_digits (after_sign text)) + length (fraction_digits (after_digits (after_sign text))) → IsDecimalText text record { negative = has_minus text; whole = leading_digits (after_sign text); fraction = fraction_digits (after_digits (after_sign text)); exponent = e }
form_at text e reads some =
    let sign = sign_split text in
    let point = point_split (after_digits (after_sign text)) in
    record {
      sign = sign.0;
      point = point.0;
      exponent = after_fraction (after_digits (after_sign text));
      is_text = sign.2 ∙ ap (λ (t : List ℕ). sign.0 ++ t) (take_drop (prefix_len is_ascii_digit (after_sign text)) (after_sign text) ∙ ap (λ (t : List ℕ). leading_digits (after_sign text) ++ t) point.2);
      is_sign = sign.1;
      whole_digits = leading_all (after_sign text);
      is_point = point.1;
      fraction_digits = fraction_all (after_digits (after_sign text));
      is_exponent = exponent_read (after_fraction (after_digits (after_sign text))) e reads;
      some_digit = some;
    }

pub form_from_decimal_of : (text : List ℕ) (d : Decimal) → decimal_of text ≡ Some d → IsDecimalText text d
unfolding decimal_of
form_from_decimal_of text d reads =
    let parts = parts_read (has_minus text) (leading_digits (after_sign text)) (fraction_digits (after_digits (after_sign text))) (exponent_of (after_fraction (after_digits (after_sign text)))) d reads in
    subst (IsDecimalText text) parts.3 (form_at text parts.0 parts.1 parts.2)

-- and back: pieces that are put together are found again
IsUnsigned : List ℕ → Type 0
IsUnsigned text = (has_minus text ≡ false) × (after_sign text ≡ text)

unsigned_at : (c : ℕ) (text : List ℕ) → (c ≡ 45 → ⊥) → (c ≡ 43 → ⊥) → IsUnsigned (c ∷ text)
unfolding IsUnsigned
unsigned_at c text no_minus no_plus =
    let minus : (c == 45) ≡ false = ne_eqb c 45 no_minus in
    let plus : (c == 43) ≡ false = ne_eqb c 43 no_plus in
    (minus, ap (λ (b : Bool). cond (b || (c == 43)) text (c ∷ text)) minus ∙ ap (λ (b : Bool). cond b text (c ∷ text)) plus)

digit_first : (c : ℕ) (cs : List ℕ) → AllPass is_ascii_digit (c ∷ cs) → (48 ≤ c) × (c ≤ 57)
digit_first c cs all = let first : is_ascii_digit c ≡ true = all 0 c (omega arith) in (grind (arith, nat_tests), grind (arith, nat_tests))

sign_found : (negative : Bool) (sign rest : List ℕ) → IsSign negative sign → IsUnsigned rest → (has_minus (sign ++ rest) ≡ negative) × (after_sign (sign ++ rest) ≡ rest)
unfolding IsUnsigned
sign_found true sign rest minus plain = rw minus (refl, refl)
sign_found false sign rest other plain = ⊎_elim (λ none. rw none plain) (λ plus. rw plus (refl, refl)) other

prefix_len-all : (ds : List ℕ) → AllPass is_ascii_digit ds → prefix_len is_ascii_digit ds ≡ length ds
prefix_len-all ds all = prefix_len_is is_ascii_digit ds (length ds) 0 (omega arith) (λ k within. all k 0 within) (λ past. absurd (omega arith))

digits_found : (ds rest : List ℕ) → AllPass is_ascii_digit ds → prefix_len is_ascii_digit rest ≡ 0 → (leading_digits (ds ++ rest) ≡ ds) × (after_digits (ds ++ rest) ≡ rest)
digits_found ds rest all ends =
    let inside : prefix_len is_ascii_digit ds ≡ length ds = prefix_len-all ds all in
    let whole : (prefix_len is_ascii_digit ds == length ds) ≡ true = eq-eqb (prefix_len is_ascii_digit ds) (length ds) inside in
    let count : prefix_len is_ascii_digit (ds ++ rest) ≡ length ds =
    prefix_len-append is_ascii_digit ds rest ∙ ap (λ (b : Bool). cond b (length ds + prefix_len is_ascii_digit rest) (prefix_len is_ascii_digit ds)) whole ∙ omega arith in
    (ap (λ (n : ℕ). take n (ds ++ rest)) count ∙ take_at ds rest (length ds) refl, ap (λ (n : ℕ). drop n (ds ++ rest)) count ∙ drop_at ds rest (length ds) refl)

digits_unsigned : (ds rest : List ℕ) → AllPass is_ascii_digit ds → 0 < length ds → IsUnsigned (ds ++ rest)
digits_unsigned [] rest all some = absurd (omega arith)
digits_unsigned (c ∷ cs) rest all some = let range = digit_first c cs all in unsigned_at c (cs ++ rest) (λ e. omega (arith, range.0)) (λ e. omega (arith, range.0))

unsigned_digits : (ds : List ℕ) → AllPass is_ascii_digit ds → 0 < length ds → IsUnsigned ds
unsigned_digits [] all some = absurd (omega arith)
unsigned_digits (c ∷ cs) all some = let range = digit_first c cs all in unsigned_at c cs (λ e. omega (arith, range.0)) (λ e. omega (arith, range.0))

-- an exponent begins with no digit and no point
letter_ends : (c : ℕ) (text : List ℕ) → (c ≡ 101) ⊎ (c ≡ 69) → (prefix_len is_ascii_digit (c ∷ text) ≡ 0) × (fraction_digits (c ∷ text) ≡ []) × (after_fraction (c ∷ text) ≡ c ∷ text)
letter_ends c text letter = ⊎_elim (λ small. rw small (refl, refl, refl)) (λ capital. rw capital (refl, refl, refl)) letter

exponent_ends : (e : ℤ) (text : List ℕ) → IsExponent e text → (prefix_len is_ascii_digit text ≡ 0) × (fraction_digits text ≡ []) × (after_fraction text ≡ text)
exponent_ends e text either =
    ⊎_elim (λ none. rw none.0 (refl, refl, refl)) (λ written. rw written.is_text (letter_ends written.letter (written.sign ++ written.digits) written.is_letter)) either

letter_found : (c : ℕ) → (c ≡ 101) ⊎ (c ≡ 69) → ((c == 101) || (c == 69)) ≡ true
letter_found c letter = ⊎_elim (λ small. rw small refl) (λ capital. rw capital refl) letter

exponent_digits_found : (ds : List ℕ) → AllPass is_ascii_digit ds → 0 < length ds → length ds ≤ 3 → is_exponent_digits ds ≡ true
exponent_digits_found ds all some few =
    and_from (nat_lt 0 (length ds) && nat_le (length ds) 3) (prefix_len is_ascii_digit ds == length ds)
    (and_from (nat_lt 0 (length ds)) (nat_le (length ds) 3) (lt-ltb 0 (length ds) some) (le-leb (length ds) 3 few))
    (eq-eqb (prefix_len is_ascii_digit ds) (length ds) (prefix_len-all ds all))

chosen : (letter digits negative : Bool) (text : List ℕ) → letter ≡ true → digits ≡ true → cond letter (cond digits (Some (with_sign negative (digits_value 10 text))) None) None ≡ Some (with_sign negative (digits_value 10 text))
chosen letter digits negative text is_letter are_digits = rw (is_letter, are_digits) refl

exponent_written : (c : ℕ) (text digits : List ℕ) (negative : Bool) → (c ≡ 101) ⊎ (c ≡ 69) → has_minus text ≡ negative → after_sign text ≡ digits → AllPass is_ascii_digit digits → 0 < length digits → length digits ≤ 3 → exponent_of (c ∷ text) ≡ Some (with_sign negative (digits_value 10 digits))
exponent_written c text digits negative letter minus plain all some few =
    chosen ((c == 101) || (c == 69)) (is_exponent_digits (after_sign text)) (has_minus text) (after_sign text) (letter_found c letter) (ap is_exponent_digits plain ∙ exponent_digits_found digits all some few)
    ∙ ap (λ (b : Bool). Some (with_sign b (digits_value 10 (after_sign text)))) minus
    ∙ ap (λ (ds : List ℕ). Some (with_sign negative (digits_value 10 ds))) plain

written_found : (e : ℤ) (text : List ℕ) → WritesExponent e text → exponent_of text ≡ Some e
written_found e text written =
    let found = sign_found written.negative written.sign written.digits written.is_sign (unsigned_digits written.digits written.all_digits written.some_digit) in
    ap exponent_of written.is_text
    ∙ exponent_written written.letter (written.sign ++ written.digits) written.digits written.negative written.is_letter found.0 found.1 written.all_digits written.some_digit written.few_digits
    ∙ ap Some (sym written.is_value)

pub exponent_found : (e : ℤ) (text : List ℕ) → IsExponent e text → exponent_of text ≡ Some e
exponent_found e text either = ⊎_elim (λ none. ap exponent_of none.0 ∙ ap Some (sym none.1)) (written_found e text) either

-- what follows the digits before the point
tail_found : (fraction point exponent : List ℕ) (e : ℤ) → IsPoint fraction point → AllPass is_ascii_digit fraction → IsExponent e exponent → (prefix_len is_ascii_digit (point ++ (fraction ++ exponent)) ≡ 0) × (fraction_digits (point ++ (fraction ++ exponent)) ≡ fraction) × (after_fraction (point ++ (fraction ++ exponent)) ≡ exponent)
tail_found fraction point exponent e pointed all exponents =
    let ends = exponent_ends e exponent exponents in
    let digits = digits_found fraction exponent all ends.0 in
    ⊎_elim (λ there. rw there (refl, digits.0, digits.1)) (λ none. rw (none.0, none.1) ends) pointed

rest_unsigned : (whole fraction point exponent : List ℕ) → AllPass is_ascii_digit whole → IsPoint fraction point → 0 < length whole + length fraction → IsUnsigned (whole ++ (point ++ (fraction ++ exponent)))
rest_unsigned [] fraction point exponent all pointed some =
    ⊎_elim (λ there. rw there (unsigned_at 46 (fraction ++ exponent) (λ e. omega arith) (λ e. omega arith))) (λ none. absurd (omega (arith, ap length none.1))) pointed
rest_unsigned (c ∷ cs) fraction point exponent all pointed some = digits_unsigned (c ∷ cs) (point ++ (fraction ++ exponent)) all (omega arith)

parts_found : (negative : Bool) (whole fraction : List ℕ) (o : Option ℤ) (d : Decimal) → negative ≡ d.negative → whole ≡ d.whole → fraction ≡ d.fraction → o ≡ Some d.exponent → 0 < length d.whole + length d.fraction → decimal_with negative whole fraction o ≡ Some d
parts_found negative whole fraction o d is_negative is_whole is_fraction is_exponent some =
    let none : (length d.whole + length d.fraction == 0) ≡ false = ne_eqb _ 0 (λ e. omega arith) in
    rw (is_negative, is_whole, is_fraction, is_exponent) (ap (λ (b : Bool). cond b None (Some d)) none)

pub decimal_of-form : (text : List ℕ) (d : Decimal) → IsDecimalText text d → decimal_of text ≡ Some d
unfolding decimal_of
decimal_of-form text d form =
    let tail : List ℕ = form.point ++ (d.fraction ++ form.exponent) in
    let sign = sign_found d.negative form.sign (d.whole ++ tail) form.is_sign (rest_unsigned d.whole d.fraction form.point form.exponent form.whole_digits form.is_point form.some_digit) in
    let pieces = tail_found d.fraction form.point form.exponent d.exponent form.is_point form.fraction_digits form.is_exponent in
    let digits = digits_found d.whole tail form.whole_digits pieces.0 in
    let plain : after_sign text ≡ d.whole ++ tail = ap after_sign form.is_text ∙ sign.1 in
    let after : after_digits (after_sign text) ≡ tail = ap after_digits plain ∙ digits.1 in
    parts_found (has_minus text) (leading_digits (after_sign text)) (fraction_digits (after_digits (after_sign text))) (exponent_of (after_fraction (after_digits (after_sign text)))) d
    (ap has_minus form.is_text ∙ sign.0) (ap leading_digits plain ∙ digits.0) (ap fraction_digits after ∙ pieces.1)
    (ap exponent_of (ap after_fraction after ∙ pieces.2) ∙ exponent_found d.exponent form.exponent form.is_exponent) form.some_digit

-- a text has one reading
pub same_parts : (text : List ℕ) (d e : Decimal) → IsDecimalText text d → IsDecimalText text e → d ≡ e
same_parts text d e first second =
    let one : Some d ≡ Some e = sym (decimal_of-form text d first) ∙ decimal_of-form text e second in
    cc

-- a text is no number exactly where it has no reading
refuses_otherwise : (d : Decimal) → number_of (Some d) ≡ Err NotNumber → ⊥
refuses_otherwise d refuses =
    elim (nat_le (significant (digits_of d)) 24) as (λ b. cond b (cond (nat_le (decimal_units d) (2 ^ 62)) (Ok (with_sign d.negative (decimal_units d))) (Err OutOfRange)) (Err TooManyDigits) ≡ Err NotNumber → ⊥) [
      | true ↦ elim (nat_le (decimal_units d) (2 ^ 62)) as (λ b. cond b (Ok (with_sign d.negative (decimal_units d))) (Err OutOfRange) ≡ Err NotNumber → ⊥) [ true ↦ λ e. cc | false ↦ λ e. cc ]
      | false ↦ λ e. cc
    ] refuses

pub form-not_number : (text : List ℕ) → read_number text ≡ Err NotNumber → (d : Decimal) → IsDecimalText text d → ⊥
unfolding read_number
form-not_number text refuses d form = refuses_otherwise d (ap number_of (sym (decimal_of-form text d form)) ∙ refuses)

pub not_number-no_form : (text : List ℕ) → ((d : Decimal) → IsDecimalText text d → ⊥) → read_number text ≡ Err NotNumber
unfolding read_number
not_number-no_form text never =
    elim (decimal_of text) as (λ o. decimal_of text ≡ o → number_of o ≡ Err NotNumber)
    [ None ↦ λ e. refl | Some d ↦ λ e. absurd (never d (form_from_decimal_of text d e)) ] refl
