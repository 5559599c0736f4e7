-- Worked texts of thermo output.
use Rattle.std.proofs.Common.{◌≡◌, ◌∷◌, [], List, pos, neg_ℤ, refl}
use Rattle.std.specs.Prelude.{codes}
use Rattle.std.specs.Fmt.{digits}
use Rattle.fx_num.specs.declared.numbers.Number.{Number}
use Rattle.fx_num.specs.Rounding.{nearest_of}
use Rattle.fx_num.specs.Print.{fix_text}
use Rattle.thermo_text.specs.Thermo.{header_text, line_text, footer_text, style_one}

header_of_one : header_text style_one ≡ codes "      Step                 Temp               E_pair                E_mol               TotEng                Press\n"
unfolding header_text
header_of_one = refl

numbers : List Number
numbers =
    record { keyword = codes "step"; value = pos 0 }
    ∷ record { keyword = codes "temp"; value = pos 0 }
    ∷ record { keyword = codes "epair"; value = neg_ℤ (pos 516096) }
    ∷ record { keyword = codes "emol"; value = pos 0 }
    ∷ record { keyword = codes "etotal"; value = neg_ℤ (pos 516096) }
    ∷ record { keyword = codes "press"; value = neg_ℤ (pos 2032) }
    ∷ []

line_of_one : line_text style_one numbers ≡ codes "         0           0.00000000          -0.03076172           0.00000000          -0.03076172          -0.00012112\n"
unfolding line_text numbers fix_text nearest_of digits
line_of_one = refl

footer_of_one : footer_text 1 0 ≡ codes "Neighbor pairs 1 builds 0\n"
unfolding footer_text digits
footer_of_one = refl
