-- The pairs that are set: their order doesn't count, and what they keep to.
use Rattle.std.proofs.Common.{◌≡◌, ◌+◌, ◌^◌, ◌<◌, ◌≤◌, ◌==◌, ◌&&◌, ◌||◌, Bool, true, false, cond, min, max, ℕ, ℤ, pos, unsigned_abs, Option, Some, None, List, [], ◌∷◌, ◌++◌, map, refl, sym, ap, subst, ◌∙◌, arith}
use Rattle.std.specs.List.{All, AllByRecursion, list_any}
use Rattle.std.specs.Option.{option_map}
use Rattle.std.proofs.lemmas.Bool.Decides.{nat_tests}
use Rattle.std.proofs.lemmas.Int.{ints}
use Rattle.std.proofs.lemmas.List.Elements.{All-from_recursion, All-map, All-push, All-weaker, recursion_from_All}
use Rattle.pair_lj.specs.declared.pair_settings.PairCoefficients.{PairCoefficients}
use Rattle.pair_lj.specs.Pairs.{IsSoundPair, PairNumbers, coefficients_of, is_of, is_set, numbers_at, numbers_of, replaced, set_pair}

-- i j and j i are one pair
is_of-comm : (i j : ℕ) (p : PairCoefficients) → is_of i j p ≡ is_of j i p
is_of-comm i j p =
    let low : min i j ≡ min j i = omega arith in
    let high : max i j ≡ max j i = omega arith in
    cc

coefficients_of-comm : (pairs : List PairCoefficients) (i j : ℕ) → coefficients_of pairs i j ≡ coefficients_of pairs j i
coefficients_of-comm [] i j = refl
coefficients_of-comm (p ∷ pairs) i j =
    ap (λ (b : Bool). cond b (Some p) (coefficients_of pairs i j)) (is_of-comm i j p)
    ∙ ap (λ (o : Option PairCoefficients). cond (is_of j i p) (Some p) o) (coefficients_of-comm pairs i j)

pub numbers_at-comm : (pairs : List PairCoefficients) (i j : ℕ) → numbers_at pairs i j ≡ numbers_at pairs j i
unfolding numbers_at
numbers_at-comm pairs i j = ap (option_map numbers_of) (coefficients_of-comm pairs i j)

-- a pair that is found is one of those that are set
each_found : (pairs : List PairCoefficients) (i j : ℕ) (p : PairCoefficients) → AllByRecursion IsSoundPair pairs → coefficients_of pairs i j ≡ Some p → IsSoundPair p
each_found [] i j p sound is = absurd cc
each_found (q ∷ pairs) i j p sound is = by_test (is_of i j q) (coefficients_of pairs i j) is (each_found pairs i j p sound.1)
  where
    by_test : (b : Bool) (o : Option PairCoefficients) → cond b (Some q) o ≡ Some p → (o ≡ Some p → IsSoundPair p) → IsSoundPair p
    by_test true o e later = let same : q ≡ p = cc in subst IsSoundPair same sound.0
    by_test false o e later = later e

pub found_sound : (pairs : List PairCoefficients) (i j : ℕ) (p : PairCoefficients) → All IsSoundPair pairs → coefficients_of pairs i j ≡ Some p → IsSoundPair p
found_sound pairs i j p sound is = each_found pairs i j p (recursion_from_All IsSoundPair pairs sound) is

-- the limits of the numbers of a pair of types
pub record IsSmall (n : PairNumbers) : Type 0 where
  pub epsilon : n.epsilon ≤ 2 ^ 32
  pub cutoff : n.cutoff ≤ 2 ^ 28

pair_small : (p : PairCoefficients) → IsSoundPair p → IsSmall (numbers_of p)
pair_small p sound = record {
  epsilon = omega (arith, ints, sound.epsilon_low, sound.epsilon_high);
  cutoff = omega (arith, ints, sound.cutoff_low, sound.cutoff_high);
}

pub numbers_small : (pairs : List PairCoefficients) (i j : ℕ) (n : PairNumbers) → All IsSoundPair pairs → numbers_at pairs i j ≡ Some n → IsSmall n
unfolding numbers_at
numbers_small pairs i j n sound is = by_found (coefficients_of pairs i j) (λ p e. found_sound pairs i j p sound e) is
  where
    by_found : (o : Option PairCoefficients) → ((p : PairCoefficients) → o ≡ Some p → IsSoundPair p) → option_map numbers_of o ≡ Some n → IsSmall n
    by_found None each e = absurd cc
    by_found (Some p) each e = let same : numbers_of p ≡ n = cc in subst IsSmall same (pair_small p (each p refl))

-- a pair more, or another in its place
cond_both : {X : Type 0} (P : X → Type 0) (b : Bool) (x y : X) → P x → P y → P (cond b x y)
cond_both P true x y h g = h
cond_both P false x y h g = g

pub replaced_sound : (p old : PairCoefficients) → IsSoundPair p → IsSoundPair old → IsSoundPair (replaced p old)
replaced_sound p old h g = cond_both IsSoundPair _ p old h g

pub all_replaced : (p : PairCoefficients) (pairs : List PairCoefficients) → IsSoundPair p → All IsSoundPair pairs → All IsSoundPair (map (replaced p) pairs)
all_replaced p pairs h g =
    let each : All (λ q. IsSoundPair (replaced p q)) pairs = All-weaker IsSoundPair (λ q. IsSoundPair (replaced p q)) (λ q k. replaced_sound p q h k) pairs g in
    All-map IsSoundPair (replaced p) pairs each

pub set_pair_sound : (p : PairCoefficients) (pairs : List PairCoefficients) → IsSoundPair p → All IsSoundPair pairs → All IsSoundPair (set_pair p pairs)
set_pair_sound p pairs h g = cond_both (All IsSoundPair) _ (map (replaced p) pairs) (pairs ++ p ∷ []) (all_replaced p pairs h g) (All-push IsSoundPair pairs p g h)

-- which pairs are set, after one was
pub is_pair : (i j : ℕ) (p : PairCoefficients) → is_of i j p ≡ true → (p.i ≡ min i j) × (p.j ≡ max i j)
is_pair i j p e = (grind (arith, nat_tests), grind (arith, nat_tests))

same_types : (i j : ℕ) (p q : PairCoefficients) → p.i ≡ q.i → p.j ≡ q.j → is_of i j p ≡ is_of i j q
same_types i j p q e f = cc

replaced_types : (i j : ℕ) (p old : PairCoefficients) → p.i ≤ p.j → is_of i j (replaced p old) ≡ is_of i j old
replaced_types i j p old ordered = by_test (is_of p.i p.j old) refl
  where
    by_test : (b : Bool) → is_of p.i p.j old ≡ b → is_of i j (cond b p old) ≡ is_of i j old
    by_test true e = let are = is_pair p.i p.j old e in same_types i j p old (omega (arith, are.0)) (omega (arith, are.1))
    by_test false e = refl

pub is_set-replaced : (p : PairCoefficients) (pairs : List PairCoefficients) (i j : ℕ) → p.i ≤ p.j → is_set (map (replaced p) pairs) i j ≡ is_set pairs i j
is_set-replaced p [] i j ordered = refl
is_set-replaced p (old ∷ pairs) i j ordered =
    ap (λ (b : Bool). b || is_set (map (replaced p) pairs) i j) (replaced_types i j p old ordered)
    ∙ ap (λ (b : Bool). is_of i j old || b) (is_set-replaced p pairs i j ordered)

or_true : (b c : Bool) → c ≡ true → (b || c) ≡ true
or_true true c e = refl
or_true false c e = e

or_first : (b c d : Bool) → (c ≡ true → d ≡ true) → (b || c) ≡ true → (b || d) ≡ true
or_first true c d more e = refl
or_first false c d more e = more e

or_one : (b : Bool) → b ≡ true → (b || false) ≡ true
or_one true e = refl
or_one false e = e

pub is_set-pushed : (p : PairCoefficients) (pairs : List PairCoefficients) (i j : ℕ) → is_set pairs i j ≡ true → is_set (pairs ++ p ∷ []) i j ≡ true
is_set-pushed p [] i j set = absurd cc
is_set-pushed p (q ∷ pairs) i j set = or_first (is_of i j q) (is_set pairs i j) (is_set (pairs ++ p ∷ []) i j) (is_set-pushed p pairs i j) set

pub is_set-last : (p : PairCoefficients) (pairs : List PairCoefficients) → p.i ≤ p.j → is_set (pairs ++ p ∷ []) p.i p.j ≡ true
is_set-last p [] ordered = or_one (is_of p.i p.j p) (grind (arith, nat_tests))
is_set-last p (q ∷ pairs) ordered = or_true (is_of p.i p.j q) (is_set (pairs ++ p ∷ []) p.i p.j) (is_set-last p pairs ordered)
