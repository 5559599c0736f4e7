-- Worked printed numbers: the definition computes what was worked out by hand.
use Rattle.std.proofs.Common.{◌≡◌, ◌^◌, pos, neg_ℤ, refl}
use Rattle.std.specs.Prelude.{codes}
use Rattle.std.specs.Fmt.{digits}
use Rattle.fx_num.specs.Rounding.{nearest_of}
use Rattle.fx_num.specs.Print.{fix_text}

zero_prints : fix_text (pos 0) ≡ codes "0.00000000"
unfolding fix_text nearest_of digits
zero_prints = refl

one_prints : fix_text (pos (2 ^ 24)) ≡ codes "1.00000000"
unfolding fix_text nearest_of digits
one_prints = refl

least_below_zero_prints : fix_text (neg_ℤ (pos 1)) ≡ codes "-0.00000006"
unfolding fix_text nearest_of digits
least_below_zero_prints = refl

decimals_print : fix_text (pos 20712612) ≡ codes "1.23456788"
unfolding fix_text nearest_of digits
decimals_print = refl

leading_zeros_print : fix_text (neg_ℤ (pos 2032)) ≡ codes "-0.00012112"
unfolding fix_text nearest_of digits
leading_zeros_print = refl

rounded_up_prints : fix_text (neg_ℤ (pos 516096)) ≡ codes "-0.03076172"
unfolding fix_text nearest_of digits
rounded_up_prints = refl

above_half_prints : fix_text (neg_ℤ (pos 136876)) ≡ codes "-0.00815845"
unfolding fix_text nearest_of digits
above_half_prints = refl
