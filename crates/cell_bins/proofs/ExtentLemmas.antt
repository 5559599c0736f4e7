-- Of three counts whose product is above 27 the greatest is above 3.
use Rattle.std.proofs.Common.{◌*◌, ◌<◌, ◌≤◌, ℕ, leb, true, false, ◌≡◌, refl, arith}
use Rattle.std.proofs.lemmas.Bool.Decides.{nat_tests}
use Rattle.std.proofs.lemmas.Nat.{mul-le}

few_product : (x y z : ℕ) → x ≤ 3 → y ≤ 3 → z ≤ 3 → x * y * z ≤ 27
few_product x y z a b c = omega (arith, mul-le x y 3 3 a b, mul-le (x * y) z 9 3 (omega (arith, mul-le x y 3 3 a b)) c)

pub greatest_some : (x y z most : ℕ) → y ≤ x → z ≤ x → 27 ≤ most → most < x * y * z → 3 < x
greatest_some x y z most a b h lt =
    elim (leb x 3) as (λ t. leb x 3 ≡ t → 3 < x) [
      | true ↦ λ t.
          let few : x ≤ 3 = grind (arith, nat_tests) in
          absurd (omega (arith, few_product x y z few (omega arith) (omega arith)))
      | false ↦ λ t. grind (arith, nat_tests)
    ]
    refl
