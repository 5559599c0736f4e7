-- Signed sums of the code: they fit their words.
use Rattle.std.proofs.Common.{◌≡◌, ◌^◌, ◌≤◌, ℤ, ◌+ℤ◌, ◌-ℤ◌, int_lt, unsigned_abs, List, [], ◌∷◌, FitsSigned, w64, to_z, of_z, arith}
use Rattle.std.specs.Int.{w128}
use Rattle.std.proofs.lemmas.Int.{ints}
use Rattle.box_geo.specs.Sides.{x_of, y_of, z_of}
use Rattle.ghost_shell.specs.Images.{moved}
use Rattle.ghost_shell.specs.Ghosts.{IsNearBox}

abbrev read : ℤ → ℤ
read x = to_z w64 (of_z w64 x)

abbrev wide : ℤ → ℤ
wide x = to_z w128 (of_z w128 x)

three : (x y z u v w : ℤ) → x ≡ u → y ≡ v → z ≡ w → x ∷ y ∷ z ∷ [] ≡ u ∷ v ∷ w ∷ []
three x y z u v w f g h = cc

pub read_short : (x : ℤ) → unsigned_abs x ≤ 2 ^ 35 → read x ≡ x
read_short x short = omega (arith, ints)

pub read_three : (x y z : ℤ) → unsigned_abs x ≤ 2 ^ 35 → unsigned_abs y ≤ 2 ^ 35 → unsigned_abs z ≤ 2 ^ 35 → read x ∷ read y ∷ read z ∷ [] ≡ x ∷ y ∷ z ∷ []
read_three x y z f g h = three _ _ _ _ _ _ (read_short x f) (read_short y g) (read_short z h)

small_sum : (x y : ℤ) → unsigned_abs x ≤ 2 ^ 35 → unsigned_abs y ≤ 2 ^ 35 → read (read x +ℤ read y) ≡ x +ℤ y
small_sum x y a b = omega (arith, ints)

pub moved_is : (p d : List ℤ) → IsNearBox p → IsNearBox d
    → read (read (x_of p) +ℤ read (x_of d)) ∷ read (read (y_of p) +ℤ read (y_of d)) ∷ read (read (z_of p) +ℤ read (z_of d)) ∷ [] ≡ moved p d
moved_is p d h k =
    three _ _ _ _ _ _ (small_sum (x_of p) (x_of d) h.0 k.0) (small_sum (y_of p) (y_of d) h.1 k.1) (small_sum (z_of p) (z_of d) h.2 k.2)

wide_difference : (x y a b : ℤ) → FitsSigned w64 x → FitsSigned w64 y → a ≡ read x → b ≡ read y → wide (wide a -ℤ wide b) ≡ x -ℤ y
wide_difference x y a b f g h k = omega (arith, ints)

wide_sum : (x y a b : ℤ) → FitsSigned w64 x → FitsSigned w64 y → a ≡ read x → b ≡ read y → wide (wide a +ℤ wide b) ≡ x +ℤ y
wide_sum x y a b f g h k = omega (arith, ints)

same_test : (x y u v : ℤ) → x ≡ u → y ≡ v → int_lt x y ≡ int_lt u v
same_test x y u v f g = cc

pub above_is : (low reach x shift a b p q : ℤ) → FitsSigned w64 low → FitsSigned w64 reach → FitsSigned w64 x → FitsSigned w64 shift
    → a ≡ read low → b ≡ read reach → p ≡ read x → q ≡ read shift → int_lt (wide (wide a -ℤ wide b)) (wide (wide p +ℤ wide q)) ≡ int_lt (low -ℤ reach) (x +ℤ shift)
above_is low reach x shift a b p q f g h k e l m n =
    same_test _ _ _ _ (wide_difference low reach a b f g e l) (wide_sum x shift p q h k m n)

pub below_is : (high reach x shift a b p q : ℤ) → FitsSigned w64 high → FitsSigned w64 reach → FitsSigned w64 x → FitsSigned w64 shift
    → a ≡ read high → b ≡ read reach → p ≡ read x → q ≡ read shift → int_lt (wide (wide p +ℤ wide q)) (wide (wide a +ℤ wide b)) ≡ int_lt (x +ℤ shift) (high +ℤ reach)
below_is high reach x shift a b p q f g h k e l m n =
    same_test _ _ _ _ (wide_sum x shift p q h k m n) (wide_sum high reach a b f g e l)
