-- A printed number reads back. First the numbers: rounded to eight decimals and back to units, a number is itself.
-- Then the text: its parts as a decimal text are the digits that were printed.
use Rattle.std.proofs.Common.{◌≡◌, ◌+◌, ◌*◌, ◌/◌, ◌%◌, ◌^◌, ◌<◌, ◌≤◌, ◌==◌, cond, nat_le, ℕ, ℤ, suc, pos, negsuc, unsigned_abs, Bool, true, false, Some, None, Ok, List, [], ◌∷◌, ◌++◌, length, take, drop, decimal, arith, refl, sym, ap, ◌∙◌}
use Rattle.std.specs.Char.{digit_value, is_ascii_digit}
use Rattle.std.specs.Int.{IsInRange}
use Rattle.std.specs.List.{prefix_len}
use Rattle.std.specs.Str.Parse.{digits_value, AllDigits, IsNumeral}
use Rattle.std.proofs.Math.Seq.{take-append_seam, drop-append_seam, take-length, drop-length}
use Rattle.std.proofs.lemmas.Bool.Decides.{nat_tests}
use Rattle.std.proofs.lemmas.Fmt.{decimal_is_IsNumeral_wide, length-decimal-le_wide}
use Rattle.std.proofs.lemmas.List.{length-append, length-drop}
use Rattle.std.proofs.lemmas.Str.Parse.{digit_from_value}
use Rattle.fx_num.specs.Rounding.{nearest_of, with_sign, RoundsTo}
use Rattle.fx_num.specs.Decimal.{Decimal, digits_of, leading_digits, after_digits, has_minus, after_sign, fraction_digits, after_fraction, exponent_of, decimal_with, decimal_unsigned, decimal_of, significant, decimal_units, number_of, read_number}
use Rattle.fx_num.specs.Print.{eight_digits, eight_decimals, fix_text}
use Rattle.fx_num.proofs.PrintLemmas.{digits_value_after-shift, digits_value_after-append, IsEightDigits, eight_digits_are}
use Rattle.fx_num.proofs.RoundingLemmas.{nearest_rounds, rounded_is, nearest_of-le}

-- the numbers
reads_units : (m n : ℕ) → RoundsTo (m * 10 ^ 8) (2 ^ 24) n → RoundsTo (n * 2 ^ 24) (10 ^ 8) m
reads_units m n r =
    let high : 2 * (n * 2 ^ 24) ≤ 2 * (m * 10 ^ 8) + 2 ^ 24 = r.at_most in
    let low : 2 * (m * 10 ^ 8) < 2 * (n * 2 ^ 24) + 2 ^ 24 = r.at_least in
    record { at_most = omega arith; at_least = omega arith }

pub nearest_of-decimals : (m : ℕ) → nearest_of (nearest_of (m * 10 ^ 8) (2 ^ 24) * 2 ^ 24) (10 ^ 8) ≡ m
nearest_of-decimals m =
    let n : ℕ = nearest_of (m * 10 ^ 8) (2 ^ 24) in
    sym (rounded_is (n * 2 ^ 24) (10 ^ 8) m (omega arith) (reads_units m n (nearest_rounds (m * 10 ^ 8) (2 ^ 24) (omega arith))))

-- digits in front of what is no digit
digit_is : (c : ℕ) → digit_value c < 10 → is_ascii_digit c ≡ true
digit_is c h = let r : IsInRange 48 57 c = digit_from_value c h in grind (arith, nat_tests)

prefix_len-digits : (ds rest : List ℕ) → AllDigits 10 ds → prefix_len is_ascii_digit (46 ∷ rest) ≡ 0 → prefix_len is_ascii_digit (ds ++ 46 ∷ rest) ≡ length ds
prefix_len-digits [] rest h stop = stop
prefix_len-digits (c ∷ cs) rest h stop =
    let d : is_ascii_digit c ≡ true = digit_is c h.0 in
    let more = prefix_len-digits cs rest h.1 stop in
    rw d (omega (arith, more))

prefix_len-all_digits : (ds : List ℕ) → AllDigits 10 ds → prefix_len is_ascii_digit ds ≡ length ds
prefix_len-all_digits [] h = refl
prefix_len-all_digits (c ∷ cs) h =
    let d : is_ascii_digit c ≡ true = digit_is c h.0 in
    let more = prefix_len-all_digits cs h.1 in
    rw d (omega (arith, more))

leading_digits-point : (ds rest : List ℕ) → AllDigits 10 ds → leading_digits (ds ++ 46 ∷ rest) ≡ ds
leading_digits-point ds rest h =
    ap (λ (k : ℕ). take k (ds ++ 46 ∷ rest)) (prefix_len-digits ds rest h refl) ∙ take-append_seam ds (46 ∷ rest)

after_digits-point : (ds rest : List ℕ) → AllDigits 10 ds → after_digits (ds ++ 46 ∷ rest) ≡ 46 ∷ rest
after_digits-point ds rest h =
    ap (λ (k : ℕ). drop k (ds ++ 46 ∷ rest)) (prefix_len-digits ds rest h refl) ∙ drop-append_seam ds (46 ∷ rest)

leading_digits-all : (ds : List ℕ) → AllDigits 10 ds → leading_digits ds ≡ ds
leading_digits-all ds h = ap (λ (k : ℕ). take k ds) (prefix_len-all_digits ds h) ∙ take-length ds

after_digits-all : (ds : List ℕ) → AllDigits 10 ds → after_digits ds ≡ []
after_digits-all ds h = ap (λ (k : ℕ). drop k ds) (prefix_len-all_digits ds h) ∙ drop-length ds

-- the parts of digits, a point and eight decimals
abbrev parts_of : Bool → List ℕ → List ℕ → Decimal
parts_of negative whole fraction = record { negative = negative; whole = whole; fraction = fraction; exponent = pos 0 }

not_empty : (negative : Bool) (whole fraction : List ℕ) → length fraction ≡ 8 → decimal_with negative whole fraction (Some (pos 0)) ≡ Some (parts_of negative whole fraction)
not_empty negative whole fraction eight =
    let some : (length whole + length fraction == 0) ≡ false = grind (arith, nat_tests) in
    ap (λ b. cond b None (Some (parts_of negative whole fraction))) some

decimal_unsigned-point : (negative : Bool) (whole fraction : List ℕ) → AllDigits 10 whole → AllDigits 10 fraction → length fraction ≡ 8 →
    decimal_unsigned negative (whole ++ 46 ∷ fraction) ≡ Some (parts_of negative whole fraction)
decimal_unsigned-point negative whole fraction h k eight =
    let front = leading_digits-point whole fraction h in
    let back = after_digits-point whole fraction h in
    ap (λ w. decimal_with negative w (fraction_digits (after_digits (whole ++ 46 ∷ fraction))) (exponent_of (after_fraction (after_digits (whole ++ 46 ∷ fraction))))) front
    ∙ ap (λ r. decimal_with negative whole (fraction_digits r) (exponent_of (after_fraction r))) back
    ∙ ap (λ f. decimal_with negative whole f (exponent_of (after_digits fraction))) (leading_digits-all fraction k)
    ∙ ap (λ r. decimal_with negative whole fraction (exponent_of r)) (after_digits-all fraction k)
    ∙ not_empty negative whole fraction eight

-- what the digits are worth
digits_value-parts : (whole fraction : List ℕ) → length fraction ≡ 8 → digits_value 10 (whole ++ fraction) ≡ digits_value 10 whole * 10 ^ 8 + digits_value 10 fraction
digits_value-parts whole fraction eight =
    digits_value_after-append 0 whole fraction
    ∙ digits_value_after-shift (digits_value 10 whole) fraction
    ∙ ap (λ (k : ℕ). digits_value 10 whole * 10 ^ k + digits_value 10 fraction) eight

decimal_units-parts : (negative : Bool) (whole fraction : List ℕ) (m : ℕ) → length fraction ≡ 8 →
    digits_value 10 (whole ++ fraction) ≡ nearest_of (m * 10 ^ 8) (2 ^ 24) → decimal_units (parts_of negative whole fraction) ≡ m
unfolding decimal_units
decimal_units-parts negative whole fraction m eight value =
    let n : ℕ = digits_value 10 (whole ++ fraction) in
    let top : n * 2 ^ 24 * 10 ^ 0 ≡ n * 2 ^ 24 = omega arith in
    let bottom : 10 ^ (length fraction + 0) ≡ 10 ^ 8 = ap (λ (k : ℕ). 10 ^ (k + 0)) eight in
    ap (λ (a : ℕ). nearest_of a (10 ^ (length fraction + 0))) top
    ∙ ap (λ (d : ℕ). nearest_of (n * 2 ^ 24) d) bottom
    ∙ ap (λ (k : ℕ). nearest_of (k * 2 ^ 24) (10 ^ 8)) value
    ∙ nearest_of-decimals m

significant-le : (ds : List ℕ) → significant ds ≤ length ds
significant-le ds = let e = length-drop (prefix_len (λ c. c == 48) ds) ds in omega (arith, e)

-- a decimal text of few digits and of a value in range
reads_as : (d : Decimal) (m : ℕ) → length (digits_of d) ≤ 24 → decimal_units d ≡ m → m ≤ 2 ^ 62 → number_of (Some d) ≡ Ok (with_sign d.negative m)
reads_as d m few units small =
    let some : nat_le (significant (digits_of d)) 24 ≡ true = (let e = significant-le (digits_of d) in grind (arith, nat_tests)) in
    let fits : nat_le (decimal_units d) (2 ^ 62) ≡ true = grind (arith, nat_tests) in
    rw (some, fits) (ap (λ (k : ℕ). Ok (with_sign d.negative k)) units)

-- the text without its sign
decimals_read : (negative : Bool) (m : ℕ) → m ≤ 2 ^ 62 →
    number_of (decimal_unsigned negative (eight_decimals (nearest_of (m * 10 ^ 8) (2 ^ 24)))) ≡ Ok (with_sign negative m)
decimals_read negative m small =
    let n : ℕ = nearest_of (m * 10 ^ 8) (2 ^ 24) in
    let top : n ≤ 2 ^ 38 * 10 ^ 8 = nearest_of-le (m * 10 ^ 8) (2 ^ 24) (2 ^ 38 * 10 ^ 8) (omega arith) (omega arith) in
    let w : IsNumeral 10 (decimal (n / 10 ^ 8)) × (digits_value 10 (decimal (n / 10 ^ 8)) ≡ n / 10 ^ 8) = decimal_is_IsNumeral_wide (n / 10 ^ 8) (omega arith) in
    let f : IsEightDigits (n % 10 ^ 8) (eight_digits (n % 10 ^ 8)) = eight_digits_are (n % 10 ^ 8) (omega arith) in
    let short : length (decimal (n / 10 ^ 8)) ≤ 12 = length-decimal-le_wide 12 (n / 10 ^ 8) (omega arith) (omega arith) (omega arith) in
    let few : length (decimal (n / 10 ^ 8) ++ eight_digits (n % 10 ^ 8)) ≤ 24 = omega (arith, length-append (decimal (n / 10 ^ 8)) (eight_digits (n % 10 ^ 8)), f.count) in
    let value : digits_value 10 (decimal (n / 10 ^ 8) ++ eight_digits (n % 10 ^ 8)) ≡ n = omega (arith, digits_value-parts (decimal (n / 10 ^ 8)) (eight_digits (n % 10 ^ 8)) f.count, w.1, f.value) in
    let units = decimal_units-parts negative (decimal (n / 10 ^ 8)) (eight_digits (n % 10 ^ 8)) m f.count value in
    ap number_of (decimal_unsigned-point negative (decimal (n / 10 ^ 8)) (eight_digits (n % 10 ^ 8)) w.0.1 f.digits f.count)
    ∙ reads_as (parts_of negative (decimal (n / 10 ^ 8)) (eight_digits (n % 10 ^ 8))) m few units small

-- a text that begins with a digit has no sign
record IsUnsigned (text : List ℕ) : Type 0 where
  positive : has_minus text ≡ false
  whole : after_sign text ≡ text

begins_unsigned : (ds rest : List ℕ) → IsNumeral 10 ds → IsUnsigned (ds ++ rest)
begins_unsigned [] rest h = absurd (omega arith)
begins_unsigned (c ∷ cs) rest h =
    let r : IsInRange 48 57 c = digit_from_value c h.1.0 in
    let minus : (c == 45) ≡ false = grind (arith, nat_tests) in
    let plus : (c == 43) ≡ false = grind (arith, nat_tests) in
    record { positive = minus; whole = rw (minus, plus) refl }

eight_decimals-unsigned : (m : ℕ) → m ≤ 2 ^ 62 → IsUnsigned (eight_decimals (nearest_of (m * 10 ^ 8) (2 ^ 24)))
eight_decimals-unsigned m small =
    let n : ℕ = nearest_of (m * 10 ^ 8) (2 ^ 24) in
    let top : n ≤ 2 ^ 38 * 10 ^ 8 = nearest_of-le (m * 10 ^ 8) (2 ^ 24) (2 ^ 38 * 10 ^ 8) (omega arith) (omega arith) in
    let w : IsNumeral 10 (decimal (n / 10 ^ 8)) × (digits_value 10 (decimal (n / 10 ^ 8)) ≡ n / 10 ^ 8) = decimal_is_IsNumeral_wide (n / 10 ^ 8) (omega arith) in
    begins_unsigned (decimal (n / 10 ^ 8)) (46 ∷ eight_digits (n % 10 ^ 8)) w.0

-- a number that can be read is printed as a text that reads as it
pub read_number-fix_text : (v : ℤ) → unsigned_abs v ≤ 2 ^ 62 → read_number (fix_text v) ≡ Ok v
unfolding read_number decimal_of fix_text
read_number-fix_text (pos m) small =
    let text : List ℕ = eight_decimals (nearest_of (m * 10 ^ 8) (2 ^ 24)) in
    let u : IsUnsigned text = eight_decimals-unsigned m small in
    ap (λ b. number_of (decimal_unsigned b (after_sign text))) u.positive
    ∙ ap (λ t. number_of (decimal_unsigned false t)) u.whole
    ∙ decimals_read false m small
read_number-fix_text (negsuc m) small = decimals_read true (suc m) small
