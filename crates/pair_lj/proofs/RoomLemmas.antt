-- A table has room for each pair that isn't set.
use Rattle.std.proofs.Common.{◌≡◌, ⊎_elim, ◌+◌, ◌-◌, ◌*◌, ◌/◌, ◌%◌, ◌<◌, ◌≤◌, Bool, true, false, cond, ℕ, zero, suc, List, [], ◌∷◌, ◌++◌, length, map, refl, sym, ap, subst, ◌∙◌, arith}
use Rattle.std.proofs.Math.Nat.{eq-or-lt_of_le}
use Rattle.std.proofs.lemmas.List.{length-append, length-map}
use Rattle.pair_lj.specs.declared.pair_settings.PairCoefficients.{PairCoefficients}
use Rattle.pair_lj.specs.Pairs.{IsSoundPair, is_set, replaced}
use Rattle.pair_lj.specs.Places.{open_below}
use Rattle.pair_lj.proofs.SetLemmas.{is_set-last, is_set-pushed, is_set-replaced}

-- no more places are open than there are
pub open_few : (pairs : List PairCoefficients) (n : ℕ) → open_below pairs n ≤ n
unfolding open_below
open_few pairs zero = omega arith
open_few pairs (suc n) = one_more (is_set pairs (n / 64 + 1) (n % 64 + 1)) (open_below pairs n) n (open_few pairs n)
  where
    one_more : (b : Bool) (m n : ℕ) → m ≤ n → m + cond b 0 1 ≤ suc n
    one_more true m n low = omega arith
    one_more false m n low = omega arith

-- what is set stays set
abbrev IsMore : List PairCoefficients → List PairCoefficients → Type 0
IsMore old new = (i j : ℕ) → is_set old i j ≡ true → is_set new i j ≡ true

fewer : (b c : Bool) (m n : ℕ) → (b ≡ true → c ≡ true) → m ≤ n → m + cond c 0 1 ≤ n + cond b 0 1
fewer true true m n more low = omega arith
fewer true false m n more low = absurd (let e : false ≡ true = more refl in cc)
fewer false true m n more low = omega arith
fewer false false m n more low = omega arith

open_fewer : (old new : List PairCoefficients) → IsMore old new → (n : ℕ) → open_below new n ≤ open_below old n
unfolding open_below
open_fewer old new more zero = omega arith
open_fewer old new more (suc n) =
    fewer (is_set old (n / 64 + 1) (n % 64 + 1)) (is_set new (n / 64 + 1) (n % 64 + 1)) (open_below new n) (open_below old n) (more (n / 64 + 1) (n % 64 + 1)) (open_fewer old new more n)

-- one place less is open where its pair was set
one_fewer : (b c : Bool) (m n : ℕ) → b ≡ false → c ≡ true → m ≤ n → m + cond c 0 1 + 1 ≤ n + cond b 0 1
one_fewer true c m n e f low = absurd cc
one_fewer false true m n e f low = omega arith
one_fewer false false m n e f low = absurd cc

step_fewer : (b c : Bool) (m n : ℕ) → (b ≡ true → c ≡ true) → m + 1 ≤ n → m + cond c 0 1 + 1 ≤ n + cond b 0 1
step_fewer b c m n more low = omega (arith, fewer b c (m + 1) n more low)

open_less : (old new : List PairCoefficients) → IsMore old new → (k n : ℕ) → k < n → is_set old (k / 64 + 1) (k % 64 + 1) ≡ false → is_set new (k / 64 + 1) (k % 64 + 1) ≡ true
    → open_below new n + 1 ≤ open_below old n
unfolding open_below
open_less old new more k zero below off on = absurd (omega arith)
open_less old new more k (suc n) below off on =
    ⊎_elim
    (λ (e : k ≡ n).
    one_fewer (is_set old (n / 64 + 1) (n % 64 + 1)) (is_set new (n / 64 + 1) (n % 64 + 1)) (open_below new n) (open_below old n)
    (subst (λ (m : ℕ). is_set old (m / 64 + 1) (m % 64 + 1) ≡ false) e off) (subst (λ (m : ℕ). is_set new (m / 64 + 1) (m % 64 + 1) ≡ true) e on) (open_fewer old new more n))
    (λ (later : k < n).
    step_fewer (is_set old (n / 64 + 1) (n % 64 + 1)) (is_set new (n / 64 + 1) (n % 64 + 1)) (open_below new n) (open_below old n)
    (more (n / 64 + 1) (n % 64 + 1)) (open_less old new more k n later off on))
    (eq-or-lt_of_le (below_next k n below))
  where
    below_next : (k n : ℕ) → k < suc n → k ≤ n
    below_next k n h = omega arith

-- a pair in place of another takes no room
pub room_replaced : (p : PairCoefficients) (pairs : List PairCoefficients) (n : ℕ) → p.i ≤ p.j → length (map (replaced p) pairs) + open_below (map (replaced p) pairs) n ≤ length pairs + open_below pairs n
room_replaced p pairs n ordered =
    omega (arith, length-map pairs (replaced p), open_fewer pairs (map (replaced p) pairs) (λ i j set. is_set-replaced p pairs i j ordered ∙ set) n)

-- a pair more takes the room of its place
pub open_pushed : (p : PairCoefficients) (pairs : List PairCoefficients) (kinds : ℕ) → IsSoundPair p → p.j ≤ kinds → kinds ≤ 64 → is_set pairs p.i p.j ≡ false
    → open_below (pairs ++ p ∷ []) (64 * kinds) + 1 ≤ open_below pairs (64 * kinds)
open_pushed p pairs kinds sound high few off =
    let k : ℕ = 64 * (p.i - 1) + (p.j - 1) in
    let row : k / 64 + 1 ≡ p.i = omega (arith, sound.low, sound.ordered) in
    let column : k % 64 + 1 ≡ p.j = omega (arith, sound.low, sound.ordered) in
    let new : List PairCoefficients = pairs ++ p ∷ [] in
    let at_old : is_set pairs (k / 64 + 1) (k % 64 + 1) ≡ is_set pairs p.i p.j = cc in
    let at_new : is_set new (k / 64 + 1) (k % 64 + 1) ≡ is_set new p.i p.j = cc in
    open_less pairs new (λ i j set. is_set-pushed p pairs i j set) k (64 * kinds) (omega (arith, sound.low, sound.ordered)) (at_old ∙ off) (at_new ∙ is_set-last p pairs sound.ordered)
