-- Sums in words.
use Rattle.std.proofs.Common.{◌≡◌, ◌+◌, ◌-◌, ◌%◌, ◌^◌, ◌<◌, ℤ, ◌+ℤ◌, ◌-ℤ◌, w64, to_z, of_z, sym, ap, subst, ◌∙◌, arith}
use Rattle.std.proofs.lemmas.Int.{SFits-int_wrap, ints, to_z-of_z, wrapping_add_onto, wrapping_sub_onto}
use Rattle.pair_forces.specs.Adds.{FitsWord, in_word}

bits_small : (a : ℤ) → FitsWord a → of_z w64 a < 2 ^ 64
bits_small a f = omega (arith, ints)

pub sum_is : (a b : ℤ) → FitsWord a → FitsWord b → to_z w64 ((of_z w64 a + of_z w64 b) % 2 ^ 64) ≡ in_word (a +ℤ b)
sum_is a b f g = wrapping_add_onto w64 (of_z w64 a) b (bits_small a f) g ∙ ap (λ (z : ℤ). in_word (z +ℤ b)) (to_z-of_z w64 a f)

pub difference_is : (a b : ℤ) → FitsWord a → FitsWord b → to_z w64 ((of_z w64 a + (2 ^ 64 - of_z w64 b)) % 2 ^ 64) ≡ in_word (a -ℤ b)
difference_is a b f g = wrapping_sub_onto w64 (of_z w64 a) b (bits_small a f) g ∙ ap (λ (z : ℤ). in_word (z -ℤ b)) (to_z-of_z w64 a f)

pub fits : (r z : ℤ) → r ≡ in_word z → FitsWord r
fits r z is = subst FitsWord (sym is) (SFits-int_wrap w64 z)
