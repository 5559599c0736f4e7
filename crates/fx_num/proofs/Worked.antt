-- Worked numbers: the definitions compute what was worked out by hand.
use Rattle.std.proofs.Common.{◌≡◌, ◌^◌, pos, neg_ℤ, Ok, Err, [], ◌∷◌, map, replicate, refl}
use Rattle.std.specs.Prelude.{codes}
use Rattle.std.specs.Fmt.{digits}
use Rattle.fx_num.specs.Rounding.{nearest_of, div_rounded}
use Rattle.fx_num.specs.Decimal.{read_number, read_count, decimal_of, decimal_units}
use Rattle.fx_num.specs.declared.decimal.NumError.TheVariants.{NotNumber, TooManyDigits, OutOfRange}
use Rattle.fx_num.specs.Print.{fix_text}

one_reads : read_number (codes "1.0") ≡ Ok (pos (2 ^ 24))
unfolding read_number decimal_of decimal_units nearest_of
one_reads = refl

edge_prints : fix_text (pos 41943039) ≡ codes "2.49999994"
unfolding fix_text nearest_of digits
edge_prints = refl

tie_up : div_rounded (pos 5) (pos 2) ≡ pos 3
unfolding div_rounded nearest_of
tie_up = refl

tie_down : div_rounded (neg_ℤ (pos 5)) (pos 2) ≡ neg_ℤ (pos 3)
unfolding div_rounded nearest_of
tie_down = refl

-- signs, and a point at either side
signs_read : map read_number (codes "-1.5" ∷ codes "+1.5" ∷ codes "-0" ∷ codes ".5" ∷ codes "5." ∷ []) ≡ Ok (neg_ℤ (pos 25165824)) ∷ Ok (pos 25165824) ∷ Ok (pos 0) ∷ Ok (pos 8388608) ∷ Ok (pos 83886080) ∷ []
unfolding read_number decimal_of decimal_units nearest_of
signs_read = refl

-- exponents up and down, also far
exponents_read : map read_number (codes "1e3" ∷ codes "2.5E+2" ∷ codes "125e-3" ∷ codes "5e-9" ∷ codes "1e-400" ∷ codes "0e999" ∷ []) ≡ Ok (pos 16777216000) ∷ Ok (pos 4194304000) ∷ Ok (pos 2097152) ∷ Ok (pos 0) ∷ Ok (pos 0) ∷ Ok (pos 0) ∷ []
unfolding read_number decimal_of decimal_units nearest_of
exponents_read = refl

-- 2^-25 is a tie: away from zero; a little less is 0
ties_read : map read_number (codes "2.98023223876953125e-8" ∷ codes "-2.98023223876953125e-8" ∷ codes "2.98023223876953124e-8" ∷ []) ≡ Ok (pos 1) ∷ Ok (neg_ℤ (pos 1)) ∷ Ok (pos 0) ∷ []
unfolding read_number decimal_of decimal_units nearest_of
ties_read = refl

-- rounded once
rounded_read : map read_number (codes "1.2345678901234567" ∷ codes "5.6" ∷ codes "5.59999996" ∷ []) ≡ Ok (pos 20712612) ∷ Ok (pos 93952410) ∷ Ok (pos 93952409) ∷ []
unfolding read_number decimal_of decimal_units nearest_of
rounded_read = refl

-- no number
not_numbers : map read_number (codes "" ∷ codes "+" ∷ codes "." ∷ codes "1e" ∷ codes "1e1234" ∷ codes "1.2.3" ∷ codes "e5" ∷ codes "1 " ∷ []) ≡ replicate 8 (Err NotNumber)
unfolding read_number decimal_of decimal_units nearest_of
not_numbers = refl

-- 24 digits count and 25 do not; leading zeros do not count; the form is judged first, the range last
digits_count : map read_number (codes "123456789012345678901234e-20" ∷ codes "1234567890123456789012345e-20" ∷ codes "000000000000000000000000000001.5" ∷ codes "0.0000000000000000000000000000000000001" ∷ codes "1234567890123456789012345x" ∷ codes "1234567890123456789012345e9" ∷ [])
    ≡ Ok (pos 20712612159) ∷ Err TooManyDigits ∷ Ok (pos 25165824) ∷ Ok (pos 0) ∷ Err NotNumber ∷ Err TooManyDigits ∷ []
unfolding read_number decimal_of decimal_units nearest_of
digits_count = refl

-- the rounded value is compared with 2^62 units
range_read : map read_number (codes "274877906944.00000001" ∷ codes "-274877906944.00000001" ∷ codes "274877906944.00000003" ∷ codes "274877906945" ∷ codes "1e999" ∷ []) ≡ Ok (pos (2 ^ 62)) ∷ Ok (neg_ℤ (pos (2 ^ 62))) ∷ Err OutOfRange ∷ Err OutOfRange ∷ Err OutOfRange ∷ []
unfolding read_number decimal_of decimal_units nearest_of
range_read = refl

-- whole numbers: one to 19 digits and nothing else
counts_read : map read_count (codes "04" ∷ codes "9999999999999999999" ∷ codes "00000000000000000001" ∷ codes "" ∷ codes "2.0" ∷ codes "1e3" ∷ codes "+1" ∷ []) ≡ Ok 4 ∷ Ok 9999999999999999999 ∷ Err TooManyDigits ∷ Err NotNumber ∷ Err NotNumber ∷ Err NotNumber ∷ Err NotNumber ∷ []
unfolding read_count
counts_read = refl
