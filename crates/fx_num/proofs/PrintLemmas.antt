-- What is known of printed texts: their digits, what number the digits write, and their length.
use Rattle.std.proofs.Common.{◌≡◌, ◌+◌, ◌*◌, ◌/◌, ◌%◌, ◌^◌, ◌<◌, ◌≤◌, ℕ, ℤ, suc, pos, negsuc, unsigned_abs, List, [], ◌∷◌, ◌++◌, length, drop, decimal, IsAscii, ⊎_elim, arith, refl, ap, ◌∙◌}
use Rattle.std.specs.Char.{digit_value}
use Rattle.std.specs.Str.Parse.{digits_value, digits_value_after, AllDigits, IsNumeral}
use Rattle.std.proofs.Math.Nat.{pow-suc, pow-le-pow_right}
use Rattle.std.proofs.lemmas.Bool.{cases_lt}
use Rattle.std.proofs.lemmas.Fmt.{decimal_is_IsNumeral_wide, length-decimal-le_wide, IsAscii-decimal_wide}
use Rattle.std.proofs.lemmas.Int.Digits.{digits_value-lt}
use Rattle.std.proofs.lemmas.List.{length-append}
use Rattle.std.proofs.lemmas.Str.{IsAscii-append, IsAscii-drop}
use Rattle.std.proofs.lemmas.Str.Ascii.{IsAscii-cons, IsAscii-nil}
use Rattle.fx_num.specs.Rounding.{nearest_of}
use Rattle.fx_num.specs.Print.{sign_text, eight_digits, eight_decimals, fix_text}
use Rattle.fx_num.proofs.RoundingLemmas.{nearest_of-le}

-- digits behind a number m
pub digits_value_after-shift : (m : ℕ) (ds : List ℕ) → digits_value_after 10 m ds ≡ m * 10 ^ length ds + digits_value 10 ds
digits_value_after-shift m [] = omega arith
digits_value_after-shift m (c ∷ cs) =
    let here = digits_value_after-shift (m * 10 + digit_value c) cs in
    let there = digits_value_after-shift (0 * 10 + digit_value c) cs in
    let e : 10 ^ suc (length cs) ≡ 10 ^ length cs * 10 = pow-suc 10 (length cs) in
    rw e (omega (arith, here, there))

-- a numeral in front of another
pub digits_value_after-append : (m : ℕ) (xs ys : List ℕ) → digits_value_after 10 m (xs ++ ys) ≡ digits_value_after 10 (digits_value_after 10 m xs) ys
digits_value_after-append m [] ys = refl
digits_value_after-append m (c ∷ xs) ys = digits_value_after-append (m * 10 + digit_value c) xs ys

-- exactly eight digits, and the number that they write
pub record IsEightDigits (n : ℕ) (ds : List ℕ) : Type 0 where
  pub count : length ds ≡ 8
  pub digits : AllDigits 10 ds
  pub value : digits_value 10 ds ≡ n

more_than_eight : (k n : ℕ) → 10 ^ 8 + n < 10 ^ k → 8 < k
more_than_eight k n h =
    ⊎_elim (λ more. more) (λ few. let p : 10 ^ k ≤ 10 ^ 8 = pow-le-pow_right {n = 10} (omega arith) few in absurd (omega arith)) (cases_lt 8 k)

without_first : (n : ℕ) (ds : List ℕ) → n < 10 ^ 8 → length ds ≡ 9 → AllDigits 10 ds → digits_value 10 ds ≡ 10 ^ 8 + n → IsEightDigits n (drop 1 ds)
without_first n [] small count digits value = absurd (omega arith)
without_first n (c ∷ cs) small count digits value =
    let eight : length cs ≡ 8 = omega arith in
    let low : digits_value 10 cs < 10 ^ length cs = digits_value-lt 10 cs digits.1 in
    let bound : digits_value 10 cs < 10 ^ 8 = rw eight at low in
    let split : digits_value_after 10 (0 * 10 + digit_value c) cs ≡ (0 * 10 + digit_value c) * 10 ^ length cs + digits_value 10 cs = digits_value_after-shift (0 * 10 + digit_value c) cs in
    let parts : digits_value_after 10 (0 * 10 + digit_value c) cs ≡ (0 * 10 + digit_value c) * 10 ^ 8 + digits_value 10 cs = split ∙ ap (λ (k : ℕ). (0 * 10 + digit_value c) * 10 ^ k + digits_value 10 cs) eight in
    record { count = eight; digits = digits.1; value = omega arith }

-- with a 1 in front they are nine
pub length-nine_digits : (n : ℕ) → n < 10 ^ 8 → length (decimal (10 ^ 8 + n)) ≡ 9
length-nine_digits n small =
    let d : IsNumeral 10 (decimal (10 ^ 8 + n)) × (digits_value 10 (decimal (10 ^ 8 + n)) ≡ 10 ^ 8 + n) = decimal_is_IsNumeral_wide (10 ^ 8 + n) (omega arith) in
    let most : length (decimal (10 ^ 8 + n)) ≤ 9 = length-decimal-le_wide 9 (10 ^ 8 + n) (omega arith) (omega arith) (omega arith) in
    let below : digits_value 10 (decimal (10 ^ 8 + n)) < 10 ^ length (decimal (10 ^ 8 + n)) = digits_value-lt 10 _ d.0.1 in
    let least : 8 < length (decimal (10 ^ 8 + n)) = more_than_eight (length (decimal (10 ^ 8 + n))) n (rw d.1 at below) in
    omega arith

pub eight_digits_are : (n : ℕ) → n < 10 ^ 8 → IsEightDigits n (eight_digits n)
eight_digits_are n small =
    let d : IsNumeral 10 (decimal (10 ^ 8 + n)) × (digits_value 10 (decimal (10 ^ 8 + n)) ≡ 10 ^ 8 + n) = decimal_is_IsNumeral_wide (10 ^ 8 + n) (omega arith) in
    without_first n (decimal (10 ^ 8 + n)) small (length-nine_digits n small) d.0.1 d.1

-- how many bytes a printed number has
pub length-eight_digits : (n : ℕ) → n < 10 ^ 8 → length (eight_digits n) ≡ 8
length-eight_digits n small = (eight_digits_are n small).count

pub length-eight_decimals : (n : ℕ) → n < 10 ^ 39 → length (eight_decimals n) ≡ length (decimal (n / 10 ^ 8)) + 9
length-eight_decimals n small =
    let last = length-eight_digits (n % 10 ^ 8) (omega arith) in
    let e = length-append (decimal (n / 10 ^ 8)) (46 ∷ eight_digits (n % 10 ^ 8)) in
    omega arith

length-sign_text : (v : ℤ) → length (sign_text v) ≤ 1
length-sign_text (pos n) = omega arith
length-sign_text (negsuc n) = omega arith

-- a magnitude in whole numbers of 10^-8
decimals_small : (m : ℕ) → m ≤ 2 ^ 98 → nearest_of (m * 10 ^ 8) (2 ^ 24) ≤ 2 ^ 74 * 10 ^ 8
decimals_small m small = nearest_of-le (m * 10 ^ 8) (2 ^ 24) (2 ^ 74 * 10 ^ 8) (omega arith) (omega arith)

pub length-fix_text : (v : ℤ) → unsigned_abs v ≤ 2 ^ 98 → length (fix_text v) ≤ 33
unfolding fix_text
length-fix_text v small =
    let n : ℕ = nearest_of (unsigned_abs v * 10 ^ 8) (2 ^ 24) in
    let top : n ≤ 2 ^ 74 * 10 ^ 8 = decimals_small (unsigned_abs v) small in
    let whole : length (decimal (n / 10 ^ 8)) ≤ 23 = length-decimal-le_wide 23 (n / 10 ^ 8) (omega arith) (omega arith) (omega arith) in
    let all : length (eight_decimals n) ≡ length (decimal (n / 10 ^ 8)) + 9 = length-eight_decimals n (omega arith) in
    let sign : length (sign_text v) ≤ 1 = length-sign_text v in
    let e : length (sign_text v ++ eight_decimals n) ≡ length (sign_text v) + length (eight_decimals n) = length-append (sign_text v) (eight_decimals n) in
    omega arith

-- all bytes are ASCII
IsAscii-sign_text : (v : ℤ) → IsAscii (sign_text v)
IsAscii-sign_text (pos n) = IsAscii-nil
IsAscii-sign_text (negsuc n) = IsAscii-cons 45 [] (omega arith) IsAscii-nil

pub IsAscii-eight_decimals : (n : ℕ) → n < 10 ^ 64 → IsAscii (eight_decimals n)
IsAscii-eight_decimals n small =
    IsAscii-append (decimal (n / 10 ^ 8)) (46 ∷ eight_digits (n % 10 ^ 8)) (IsAscii-decimal_wide (n / 10 ^ 8) (omega arith))
    (IsAscii-cons 46 (eight_digits (n % 10 ^ 8)) (omega arith) (IsAscii-drop (decimal (10 ^ 8 + n % 10 ^ 8)) 1 (IsAscii-decimal_wide (10 ^ 8 + n % 10 ^ 8) (omega arith))))

pub IsAscii-fix_text : (v : ℤ) → unsigned_abs v ≤ 2 ^ 98 → IsAscii (fix_text v)
unfolding fix_text
IsAscii-fix_text v small =
    let n : ℕ = nearest_of (unsigned_abs v * 10 ^ 8) (2 ^ 24) in
    let top : n ≤ 2 ^ 74 * 10 ^ 8 = decimals_small (unsigned_abs v) small in
    IsAscii-append (sign_text v) (eight_decimals n) (IsAscii-sign_text v) (IsAscii-eight_decimals n (omega arith))
