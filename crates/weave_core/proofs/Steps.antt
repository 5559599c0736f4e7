-- Each step keeps the agreement of words and holders.
use Rattle.std.proofs.Common.{◌≡◌, ℕ, zero, suc, ◌+◌, ◌%◌, ◌^◌, ◌<◌, ◌≤◌, ◌≢◌, min, Bool, true, false, cond, ltb, List, [], ◌∷◌, ◌++◌, length, set, slice_index, ℤ, pos, ◌+ℤ◌, sum_by, refl, sym, ap, ◌∙◌, subst, arith, of_z, w64, FitsSigned, get_or-set_same, get_or-set_other, length-set, length-append, eq-eqb, ne_eqb, ltb-true, ltb-false}
use native.Mathlib.Decide.{ℕ_discrete}
use mathlib.Core.Logic.{dite}
use Rattle.std.proofs.lemmas.Int.{ints}
use Rattle.std.proofs.lemmas.List.Sums.{sum_by-cons, sum_by_push}
use Rattle.std.proofs.lemmas.List.Elements.{All-set, All-weaker}
use mathlib.Core.Option.{some}
use lib.ListN.{get_elem?}
use Rattle.sums.specs.Totals.{total, into}
use Rattle.sums.proofs.Totals.{total-append}
use Rattle.weave_core.specs.declared.part.Part.{Part}
use Rattle.weave_core.specs.declared.limits.TheConstants.{SHARES}
use Rattle.weave_core.specs.Parts.{numbers_below, total_at, least, claimed, added, lowered}
use Rattle.weave_core.specs.Agree.{Wraps, IsSound, HoldEachBelow, Agree}
use Rattle.weave_core.proofs.Lists.{All-at, sum_by-at, sum_by-same_at, at-le-sum_by, sum_by-le_sum_by, total-at, total-same_at, least-lowered_at, least-same_at}
use Rattle.weave_core.proofs.Words.{wraps_add, wraps_same}

pub sum_by-ones : (xs : List ℕ) → sum_by (λ _. 1) xs ≡ length xs
sum_by-ones [] = refl
sum_by-ones (x ∷ xs) = omega (arith, sum_by-cons (λ (_ : ℕ). 1) x xs, sum_by-ones xs)

pub length-numbers_below : (n : ℕ) → length (numbers_below n) ≡ n
length-numbers_below zero = refl
length-numbers_below (suc n) = omega (arith, length-append (numbers_below n) (n ∷ []), length-numbers_below n)

pub sum_by-same : {X : Type 0} (f g : X → ℕ) → ((x : X) → f x ≡ g x) → (xs : List X) → sum_by f xs ≡ sum_by g xs
sum_by-same f g same [] = refl
sum_by-same f g same (x ∷ xs) = omega (arith, sum_by-cons f x xs, sum_by-cons g x xs, same x, sum_by-same f g same xs)

module _ (pieces count : ℕ) (words : List ℕ) (parts : List Part) (a : Agree pieces count words parts) where
  -- as many pieces are held as the counter has passed
  pub held_count : sum_by (λ v. length v.pieces) parts ≡ min (slice_index words 0) pieces
  held_count =
      sum_by-same (λ v. length v.pieces) (λ v. sum_by (λ _. 1) v.pieces) (λ v. sym (sum_by-ones v.pieces)) parts
      ∙ a.once (λ _. 1)
      ∙ sum_by-ones (numbers_below (min (slice_index words 0) pieces))
      ∙ length-numbers_below (min (slice_index words 0) pieces)

  -- the counter does not run far past the pieces
  pub counter_bound : slice_index words 0 ≤ pieces + SHARES
  counter_bound =
      let few : sum_by (λ v. v.misses) parts ≤ sum_by (λ v. v.shares) parts = sum_by-le_sum_by (λ v. v.misses) (λ v. v.shares) parts (All-weaker IsSound (λ v. v.misses ≤ v.shares) (λ v s. s.misses) parts a.sound) in
      omega (arith, held_count, few, a.counter, a.shares)

  -- one part's misses are at most what the counter has passed the pieces by
  pub misses_show : (id : ℕ) (v : Part) → get_elem? parts id ≡ some v → 0 < v.misses → pieces ≤ slice_index words 0
  misses_show id v at missed = omega (arith, held_count, a.counter, at-le-sum_by (λ (u : Part). u.misses) parts id v at)

-- what an add brings to its own word, and to another
pub into_here : (word : ℕ) (value : ℤ) → into word (word, value) ≡ value
into_here word value = let e = eq-eqb word word refl in rw e refl

pub into_else : (k word : ℕ) (value : ℤ) → k ≢ word → into k (word, value) ≡ pos 0
into_else k word value ne = let e = ne_eqb word k (λ is. ne (sym is)) in rw e refl

pub total_at-added : (v : Part) (k word : ℕ) (value : ℤ) → total_at k (added v word value).adds ≡ total_at k v.adds +ℤ into k (word, value)
total_at-added v k word value = omega (arith, ints, total-append (into k) v.adds ((word, value) ∷ []))

module _ (pieces count : ℕ) (words : List ℕ) (parts : List Part) (id : ℕ) (v : Part) (a : Agree pieces count words parts) (at : get_elem? parts id ≡ some v) where
  pub here : IsSound v
  here = All-at IsSound parts id v a.sound at

  -- one part takes the place of another with as many shares
  pub replaced : (words' : List ℕ) (w : Part) (n key : ℕ) → length words' ≡ count + 2
      → slice_index words' 0 ≡ n → slice_index words' 1 ≡ key
      → w.shares ≡ v.shares → IsSound w
      → HoldEachBelow (min n pieces) (set parts id w)
      → n ≡ sum_by (λ u. length u.pieces) (set parts id w) + sum_by (λ u. u.misses) (set parts id w)
      → ((k : ℕ) → k < count → Wraps (slice_index words' (k + 2)) (total (λ u. total_at k u.adds) (set parts id w)))
      → key ≡ least (λ u. u.key) (set parts id w)
      → Agree pieces count words' (set parts id w)
  replaced words' w n key long first second same sound once counter forces fault = record {
    long = long;
    shares = sum_by-same_at (λ u. u.shares) parts id v w at same ∙ a.shares;
    sound = All-set IsSound parts id w sound a.sound;
    once = subst (λ m. HoldEachBelow (min m pieces) (set parts id w)) (sym first) once;
    counter = first ∙ counter;
    forces = forces;
    fault = second ∙ fault;
  }

  -- the word at a place, and the words at the others
  pub word_here : (place n : ℕ) → place < count + 2 → slice_index (set words place n) place ≡ n
  word_here place n lt = get_or-set_same words place n 0 (omega (arith, a.long))

  pub word_else : (place n k : ℕ) → k ≢ place → slice_index (set words place n) k ≡ slice_index words k
  word_else place n k ne = get_or-set_other words place k n 0 ne

  pub long_set : (place n : ℕ) → length (set words place n) ≡ count + 2
  long_set place n = length-set words place n ∙ a.long

  pub same_pieces : (w : Part) → w.pieces ≡ v.pieces → HoldEachBelow (min (slice_index words 0) pieces) (set parts id w)
  same_pieces w e weight = sum_by-same_at (λ u. sum_by weight u.pieces) parts id v w at (ap (sum_by weight) e) ∙ a.once weight

  pub same_counter : (w : Part) → w.pieces ≡ v.pieces → w.misses ≡ v.misses → slice_index words 0 ≡ sum_by (λ u. length u.pieces) (set parts id w) + sum_by (λ u. u.misses) (set parts id w)
  same_counter w e m = omega (arith, a.counter, sum_by-same_at (λ u. length u.pieces) parts id v w at (ap length e), sum_by-same_at (λ u. u.misses) parts id v w at m)

  pub same_sums : (words' : List ℕ) (w : Part) → w.adds ≡ v.adds → (k : ℕ) → k < count → slice_index words' (k + 2) ≡ slice_index words (k + 2) → Wraps (slice_index words' (k + 2)) (total (λ u. total_at k u.adds) (set parts id w))
  same_sums words' w e k lt is =
      subst (λ n. Wraps n (total (λ u. total_at k u.adds) (set parts id w))) (sym is)
      (wraps_same (slice_index words (k + 2)) (total (λ u. total_at k u.adds) parts) (total (λ u. total_at k u.adds) (set parts id w))
      (total-same_at (λ u. total_at k u.adds) parts id v w at (ap (total_at k) e)) (a.forces k lt))

  pub same_key : (w : Part) → w.key ≡ v.key → slice_index words 1 ≡ least (λ u. u.key) (set parts id w)
  same_key w e = a.fault ∙ sym (least-same_at (λ u. u.key) parts id v w at e)

  -- a claim
  claims_by : (b : Bool) → ltb (slice_index words 0) pieces ≡ b → v.misses < v.shares → Agree pieces count (set words 0 (slice_index words 0 + 1)) (set parts id (cond b (record v { pieces = v.pieces ++ slice_index words 0 ∷ [] }) (record v { misses = v.misses + 1 })))
  claims_by true drawn room =
      let n = slice_index words 0 in
      let below : n < pieces = ltb-true n pieces drawn in
      let w : Part = record v { pieces = v.pieces ++ n ∷ [] } in
      let now : min n pieces ≡ n = omega arith in
      let next : min (n + 1) pieces ≡ suc n = omega arith in
      let held : HoldEachBelow (suc n) (set parts id w) = λ weight.
      let before : sum_by (λ u. sum_by weight u.pieces) parts ≡ sum_by weight (numbers_below n) = rw now at (a.once weight) in
      omega (arith, before, sum_by-at (λ u. sum_by weight u.pieces) parts id v w at, sum_by_push weight v.pieces n, sum_by_push weight (numbers_below n) n) in
      replaced (set words 0 (n + 1)) w (n + 1) (slice_index words 1) (long_set 0 (n + 1)) (word_here 0 (n + 1) (omega arith)) (word_else 0 (n + 1) 1 (omega arith)) refl
      (record { idle = λ none. absurd (omega (arith, none, room)); misses = here.misses; key = here.key })
      (rw next held)
      (omega (arith, a.counter, sum_by-at (λ u. length u.pieces) parts id v w at, length-append v.pieces (n ∷ []), sum_by-same_at (λ u. u.misses) parts id v w at refl))
      (λ k lt. same_sums (set words 0 (n + 1)) w refl k lt (word_else 0 (n + 1) (k + 2) (omega arith)))
      (same_key w refl)
  claims_by false missed room =
      let n = slice_index words 0 in
      let past : pieces ≤ n = ltb-false n pieces missed in
      let w : Part = record v { misses = v.misses + 1 } in
      let next : min (n + 1) pieces ≡ min n pieces = omega arith in
      replaced (set words 0 (n + 1)) w (n + 1) (slice_index words 1) (long_set 0 (n + 1)) (word_here 0 (n + 1) (omega arith)) (word_else 0 (n + 1) 1 (omega arith)) refl
      (record { idle = λ none. absurd (omega (arith, none, room)); misses = omega (arith, room); key = here.key })
      (rw next (same_pieces w refl))
      (omega (arith, a.counter, sum_by-same_at (λ u. length u.pieces) parts id v w at refl, sum_by-at (λ u. u.misses) parts id v w at))
      (λ k lt. same_sums (set words 0 (n + 1)) w refl k lt (word_else 0 (n + 1) (k + 2) (omega arith)))
      (same_key w refl)

  pub claims_keep : v.misses < v.shares → Agree pieces count (set words 0 (slice_index words 0 + 1)) (set parts id (claimed pieces v (slice_index words 0)))
  claims_keep room = claims_by (ltb (slice_index words 0) pieces) refl room

  -- an add to a force word
  pub adds_keep : (word : ℕ) (value : ℤ) → word < count → 0 < v.shares → FitsSigned w64 value → Agree pieces count (set words (word + 2) ((slice_index words (word + 2) + of_z w64 value) % 2 ^ 64)) (set parts id (added v word value))
  adds_keep word value lt share fits =
      let w = added v word value in
      let old = slice_index words (word + 2) in
      let new = (old + of_z w64 value) % 2 ^ 64 in
      let words' = set words (word + 2) new in
      let brought : (k : ℕ) → total (λ u. total_at k u.adds) (set parts id w) ≡ total (λ u. total_at k u.adds) parts +ℤ into k (word, value) = λ k.
      omega (arith, ints, total-at (λ u. total_at k u.adds) parts id v w at, total_at-added v k word value) in
      let sums : (k : ℕ) → k < count → Wraps (slice_index words' (k + 2)) (total (λ u. total_at k u.adds) (set parts id w)) = λ k in_words. dite (ℕ_discrete k word)
      (λ is. subst (λ j. Wraps (slice_index words' (j + 2)) (total (λ u. total_at j u.adds) (set parts id w))) (sym is)
      (subst (λ n. Wraps n (total (λ u. total_at word u.adds) (set parts id w))) (sym (word_here (word + 2) new (omega arith)))
      (wraps_same new (total (λ u. total_at word u.adds) parts +ℤ value) (total (λ u. total_at word u.adds) (set parts id w)) (brought word ∙ ap (λ z. total (λ u. total_at word u.adds) parts +ℤ z) (into_here word value))
      (wraps_add old (total (λ u. total_at word u.adds) parts) value fits (a.forces word lt)))))
      (λ ne. subst (λ n. Wraps n (total (λ u. total_at k u.adds) (set parts id w))) (sym (word_else (word + 2) new (k + 2) (λ e. ne (omega (arith, e)))))
      (wraps_same (slice_index words (k + 2)) (total (λ u. total_at k u.adds) parts) (total (λ u. total_at k u.adds) (set parts id w)) (omega (arith, ints, brought k, into_else k word value ne)) (a.forces k in_words))) in
      replaced words' w (slice_index words 0) (slice_index words 1) (long_set (word + 2) new) (word_else (word + 2) new 0 (omega arith)) (word_else (word + 2) new 1 (omega arith)) refl
      (record { idle = λ none. absurd (omega (arith, none, share)); misses = here.misses; key = here.key })
      (same_pieces w refl) (same_counter w refl refl) sums (same_key w refl)

  -- a lowering of the fault word
  pub lowers_keep : (key : ℕ) → 0 < v.shares → Agree pieces count (set words 1 (min (slice_index words 1) key)) (set parts id (lowered v key))
  lowers_keep key share =
      let w = lowered v key in
      let new = min (slice_index words 1) key in
      replaced (set words 1 new) w (slice_index words 0) new (long_set 1 new) (word_else 1 new 0 (omega arith)) (word_here 1 new (omega arith)) refl
      (record { idle = λ none. absurd (omega (arith, none, share)); misses = here.misses; key = omega (arith, here.key) })
      (same_pieces w refl) (same_counter w refl refl)
      (λ k lt. same_sums (set words 1 new) w refl k lt (word_else 1 new (k + 2) (omega arith)))
      (ap (λ m. min m key) a.fault ∙ sym (least-lowered_at (λ u. u.key) parts id v w key at refl))
