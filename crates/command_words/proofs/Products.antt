-- Products of numbers from 1 on: a product is above what one of its factors is above.
use Rattle.std.proofs.Common.{◌*◌, ◌<◌, ◌≤◌, ℕ, arith}
use Rattle.std.proofs.lemmas.Nat.{mul-le}

pub above_first : (x y z m : ℕ) → 1 ≤ y → 1 ≤ z → m < x → m < x * y * z
above_first x y z m b c h = let f : x * 1 ≤ x * y = mul-le x 1 x y (omega arith) b in let g : x * y * 1 ≤ x * y * z = mul-le (x * y) 1 (x * y) z (omega arith) c in omega (arith, f, g)

pub above_second : (x y z m : ℕ) → 1 ≤ x → 1 ≤ z → m < y → m < x * y * z
above_second x y z m a c h = let f : 1 * y ≤ x * y = mul-le 1 y x y a (omega arith) in let g : x * y * 1 ≤ x * y * z = mul-le (x * y) 1 (x * y) z (omega arith) c in omega (arith, f, g)

pub above_third : (x y z m : ℕ) → 1 ≤ x → 1 ≤ y → m < z → m < x * y * z
above_third x y z m a b h = let f : 1 * 1 ≤ x * y = mul-le 1 1 x y a b in let g : 1 * z ≤ x * y * z = mul-le 1 z (x * y) z f (omega arith) in omega (arith, f, g)
