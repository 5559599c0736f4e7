-- The steps of a holder of all shares, and of holders who split and join.
use Rattle.std.proofs.Common.{◌≡◌, ℕ, ◌+◌, ◌<◌, ◌≤◌, ◌≢◌, min, List, [], ◌∷◌, ◌++◌, length, set, slice_index, ℤ, pos, ◌+ℤ◌, neg_ℤ, sum_by, All, refl, sym, ap, ◌∙◌, subst, arith, length-append, to_z, w64, FitsSigned}
use native.Mathlib.Decide.{ℕ_discrete}
use mathlib.Core.Logic.{dite}
use Rattle.std.proofs.lemmas.Int.{ints}
use Rattle.std.proofs.lemmas.List.Sums.{sum_by-append, sum_by_push}
use Rattle.std.proofs.lemmas.List.Elements.{All-set, All-push, All-weaker}
use mathlib.Core.Option.{some}
use lib.ListN.{get_elem?}
use Rattle.sums.specs.Totals.{total, into}
use Rattle.sums.proofs.Totals.{total-append}
use Rattle.weave_core.specs.declared.part.Part.{Part}
use Rattle.weave_core.specs.declared.limits.TheConstants.{SHARES, NO_KEY}
use Rattle.weave_core.specs.Parts.{total_at, least, fresh, collected, unclaimed, unkeyed, giving, both}
use Rattle.weave_core.specs.Agree.{Wraps, IsSound, HasEachBelow, Agree}
use Rattle.weave_core.proofs.Lists.{at_within, All-at, at_set_here, at_set_else, sum_by-at, sum_by-same_at, total-at, least-le, least-le_at, least-append, least-lowered_at, least-same_at, least-spent_at, sum_by-alone, total-alone, least-alone}
use Rattle.weave_core.proofs.Words.{wraps_zero, wraps_same, wraps_fits}
use Rattle.weave_core.proofs.Steps.{here, replaced, word_here, word_else, long_set, same_pieces, same_counter, same_sums, same_key, into_here, into_else, total_at-added, misses_show}

-- a sound part without shares counts for nothing
idle_sum : (f : Part → ℕ) → f (fresh 0) ≡ 0 → (parts : List Part) → All IsSound parts → All (λ u. u.shares ≡ 0 → f u ≡ 0) parts
idle_sum f none parts sound = All-weaker IsSound (λ u. u.shares ≡ 0 → f u ≡ 0) (λ u s empty. ap f (s.idle empty) ∙ none) parts sound

idle_total : (f : Part → ℤ) → f (fresh 0) ≡ pos 0 → (parts : List Part) → All IsSound parts → All (λ u. u.shares ≡ 0 → f u ≡ pos 0) parts
idle_total f none parts sound = All-weaker IsSound (λ u. u.shares ≡ 0 → f u ≡ pos 0) (λ u s empty. ap f (s.idle empty) ∙ none) parts sound

idle_key : (parts : List Part) → All IsSound parts → All (λ u. u.shares ≡ 0 → u.key ≡ NO_KEY) parts
idle_key parts sound = All-weaker IsSound (λ u. u.shares ≡ 0 → u.key ≡ NO_KEY) (λ u s empty. ap (λ (w : Part). w.key) (s.idle empty)) parts sound

-- one holder has all shares
module _ (pieces count : ℕ) (words : List ℕ) (parts : List Part) (id : ℕ) (v : Part) (a : Agree pieces count words parts) (at : get_elem? parts id ≡ some v) (all : v.shares ≡ SHARES) where
  whole : sum_by (λ u. u.shares) parts ≡ v.shares
  whole = a.shares ∙ sym all

  sum_is : (f : Part → ℕ) → f (fresh 0) ≡ 0 → sum_by f parts ≡ f v
  sum_is f none = sum_by-alone (λ u. u.shares) f parts id v at whole (idle_sum f none parts a.sound)

  total_is : (f : Part → ℤ) → f (fresh 0) ≡ pos 0 → total f parts ≡ f v
  total_is f none = total-alone (λ u. u.shares) f parts id v at whole (idle_total f none parts a.sound)

  -- a force word, read as a signed number, is the total of the adds where that fits
  pub reads : (word : ℕ) → word < count → FitsSigned w64 (total_at word v.adds) → to_z w64 (slice_index words (word + 2)) ≡ total_at word v.adds
  reads word lt fits =
      wraps_fits (slice_index words (word + 2)) (total_at word v.adds) fits
      (wraps_same (slice_index words (word + 2)) (total (λ u. total_at word u.adds) parts) (total_at word v.adds) (sym (total_is (λ u. total_at word u.adds) refl)) (a.forces word lt))

  -- the fault word is the least key
  pub reads_key : slice_index words 1 ≡ v.key
  reads_key = a.fault ∙ least-alone (λ u. u.shares) (λ u. u.key) parts id v at whole (here pieces count words parts id v a at).key (idle_key parts a.sound)

  -- the counter is the number of pieces and of misses
  pub reads_counter : slice_index words 0 ≡ length v.pieces + v.misses
  reads_counter = omega (arith, a.counter, sum_is (λ u. length u.pieces) refl, sum_is (λ u. u.misses) refl)

  -- with a miss, the counter has passed every piece, and this holder has each once
  pub has_each : 0 < v.misses → HasEachBelow pieces v.pieces
  has_each missed weight =
      let past : pieces ≤ slice_index words 0 = misses_show pieces count words parts a id v at missed in
      let all_passed : min (slice_index words 0) pieces ≡ pieces = omega arith in
      sym (sum_is (λ u. sum_by weight u.pieces) refl) ∙ rw all_passed at (a.once weight)

  share : 0 < v.shares
  share = omega (arith, all)

  -- a force word is set to 0
  pub collects_keep : (word : ℕ) → word < count → Agree pieces count (set words (word + 2) 0) (set parts id (collected v word))
  collects_keep word lt =
      let value : ℤ = neg_ℤ (total_at word v.adds) in
      let w = collected v word in
      let words' = set words (word + 2) 0 in
      let brought : (k : ℕ) → total (λ u. total_at k u.adds) (set parts id w) ≡ total (λ u. total_at k u.adds) parts +ℤ into k (word, value) = λ k.
      omega (arith, ints, total-at (λ u. total_at k u.adds) parts id v w at, total_at-added v k word value) in
      let sums : (k : ℕ) → k < count → Wraps (slice_index words' (k + 2)) (total (λ u. total_at k u.adds) (set parts id w)) = λ k in_words. dite (ℕ_discrete k word)
      (λ is. subst (λ j. Wraps (slice_index words' (j + 2)) (total (λ u. total_at j u.adds) (set parts id w))) (sym is)
      (subst (λ n. Wraps n (total (λ u. total_at word u.adds) (set parts id w))) (sym (word_here pieces count words parts id v a at (word + 2) 0 (omega arith)))
      (wraps_same 0 (pos 0) (total (λ u. total_at word u.adds) (set parts id w)) (omega (arith, ints, brought word, into_here word value, total_is (λ u. total_at word u.adds) refl)) wraps_zero)))
      (λ ne. subst (λ n. Wraps n (total (λ u. total_at k u.adds) (set parts id w))) (sym (word_else pieces count words parts id v a at (word + 2) 0 (k + 2) (λ e. ne (omega (arith, e)))))
      (wraps_same (slice_index words (k + 2)) (total (λ u. total_at k u.adds) parts) (total (λ u. total_at k u.adds) (set parts id w)) (omega (arith, ints, brought k, into_else k word value ne)) (a.forces k in_words))) in
      replaced pieces count words parts id v a at words' w (slice_index words 0) (slice_index words 1)
      (long_set pieces count words parts id v a at (word + 2) 0) (word_else pieces count words parts id v a at (word + 2) 0 0 (omega arith)) (word_else pieces count words parts id v a at (word + 2) 0 1 (omega arith)) refl
      (record { idle = λ none. absurd (omega (arith, none, share)); misses = (here pieces count words parts id v a at).misses; key = (here pieces count words parts id v a at).key })
      (same_pieces pieces count words parts id v a at w refl) (same_counter pieces count words parts id v a at w refl refl) sums (same_key pieces count words parts id v a at w refl)

  -- the counter is set to 0, for a new phase
  pub unclaims_keep : Agree pieces count (set words 0 0) (set parts id (unclaimed v))
  unclaims_keep =
      let w = unclaimed v in
      let none_passed : min 0 pieces ≡ 0 = omega arith in
      let none_held : (f : Part → ℕ) → f (fresh 0) ≡ 0 → f w ≡ 0 → sum_by f (set parts id w) ≡ 0 = λ f idle empty. omega (arith, sum_by-at f parts id v w at, sum_is f idle, empty) in
      replaced pieces count words parts id v a at (set words 0 0) w 0 (slice_index words 1)
      (long_set pieces count words parts id v a at 0 0) (word_here pieces count words parts id v a at 0 0 (omega arith)) (word_else pieces count words parts id v a at 0 0 1 (omega arith)) refl
      (record { idle = λ none. absurd (omega (arith, none, share)); misses = omega arith; key = (here pieces count words parts id v a at).key })
      (rw none_passed (λ weight. none_held (λ u. sum_by weight u.pieces) refl refl))
      (omega (arith, none_held (λ u. length u.pieces) refl refl, none_held (λ u. u.misses) refl refl))
      (λ k lt. same_sums pieces count words parts id v a at (set words 0 0) w refl k lt (word_else pieces count words parts id v a at 0 0 (k + 2) (omega arith)))
      (same_key pieces count words parts id v a at w refl)

  -- the fault word is set to no key, for a new phase
  pub unkeys_keep : Agree pieces count (set words 1 NO_KEY) (set parts id (unkeyed v))
  unkeys_keep =
      let w = unkeyed v in
      let sound : IsSound w = record { idle = λ none. absurd (omega (arith, none, share)); misses = (here pieces count words parts id v a at).misses; key = omega arith } in
      let none_left : least (λ u. u.key) (set parts id w) ≡ NO_KEY =
      least-alone (λ u. u.shares) (λ u. u.key) (set parts id w) id w (at_set_here parts id w (at_within parts id v at))
      (sum_by-same_at (λ u. u.shares) parts id v w at refl ∙ whole) (omega arith) (idle_key (set parts id w) (All-set IsSound parts id w sound a.sound)) in
      replaced pieces count words parts id v a at (set words 1 NO_KEY) w (slice_index words 0) NO_KEY
      (long_set pieces count words parts id v a at 1 NO_KEY) (word_else pieces count words parts id v a at 1 NO_KEY 0 (omega arith)) (word_here pieces count words parts id v a at 1 NO_KEY (omega arith)) refl
      sound
      (same_pieces pieces count words parts id v a at w refl) (same_counter pieces count words parts id v a at w refl refl)
      (λ k lt. same_sums pieces count words parts id v a at (set words 1 NO_KEY) w refl k lt (word_else pieces count words parts id v a at 1 NO_KEY (k + 2) (omega arith)))
      (sym none_left)

-- a holder gives shares to a new one, which has nothing else
module _ (pieces count : ℕ) (words : List ℕ) (parts : List Part) (id : ℕ) (v : Part) (a : Agree pieces count words parts) (at : get_elem? parts id ≡ some v) where
  pub splits_keep : (give : ℕ) → v.misses + give < v.shares → Agree pieces count words (set parts id (giving give v) ++ fresh give ∷ [])
  splits_keep give room =
      let w = giving give v in
      let s : IsSound v = here pieces count words parts id v a at in
      let same : (f : Part → ℕ) → f w ≡ f v → f (fresh give) ≡ 0 → sum_by f (set parts id w ++ fresh give ∷ []) ≡ sum_by f parts = λ f e none.
      omega (arith, sum_by_push f (set parts id w) (fresh give), sum_by-same_at f parts id v w at e, none) in
      record {
        long = a.long;
        shares = omega (arith, a.shares, sum_by_push (λ u. u.shares) (set parts id w) (fresh give), sum_by-at (λ u. u.shares) parts id v w at);
        sound = All-push IsSound (set parts id w) (fresh give)
            (All-set IsSound parts id w (record { idle = λ none. absurd (omega (arith, none, room)); misses = omega (arith, room); key = s.key }) a.sound)
            (record { idle = λ none. ap fresh none; misses = omega arith; key = omega arith });
        once = λ weight. same (λ u. sum_by weight u.pieces) refl refl ∙ a.once weight;
        counter = omega (arith, a.counter, same (λ u. length u.pieces) refl refl, same (λ u. u.misses) refl refl);
        forces = λ k lt. wraps_same (slice_index words (k + 2)) (total (λ u. total_at k u.adds) parts) (total (λ u. total_at k u.adds) (set parts id w ++ fresh give ∷ []))
            (omega (arith, ints, total-append (λ u. total_at k u.adds) (set parts id w) (fresh give ∷ []), total-at (λ u. total_at k u.adds) parts id v w at)) (a.forces k lt);
        fault = omega (arith, a.fault, least-append (λ (u : Part). u.key) (set parts id w) (fresh give ∷ []), least-same_at (λ (u : Part). u.key) parts id v w at refl, least-le (λ (u : Part). u.key) parts);
      }

  -- a holder takes in what another has, and leaves it with nothing
  pub joins_keep : (other : ℕ) (w : Part) → other ≢ id → get_elem? (set parts id (both v w)) other ≡ some w → Agree pieces count words (set (set parts id (both v w)) other (fresh 0))
  joins_keep other w apart there =
      let s : IsSound v = here pieces count words parts id v a at in
      let first = set parts id (both v w) in
      let there_before : get_elem? parts other ≡ some w = sym (at_set_else parts id other (both v w) apart) ∙ there in
      let t : IsSound w = All-at IsSound parts other w a.sound there_before in
      let same : (f : Part → ℕ) → f (both v w) ≡ f v + f w → f (fresh 0) ≡ 0 → sum_by f (set first other (fresh 0)) ≡ sum_by f parts = λ f sums none.
      omega (arith, sum_by-at f parts id v (both v w) at, sum_by-at f first other w (fresh 0) there, sums, none) in
      let same_total : (k : ℕ) → total (λ u. total_at k u.adds) (set first other (fresh 0)) ≡ total (λ u. total_at k u.adds) parts = λ k.
      omega (arith, ints, total-at (λ u. total_at k u.adds) parts id v (both v w) at, total-at (λ u. total_at k u.adds) first other w (fresh 0) there, total-append (into k) v.adds w.adds) in
      let both_there : get_elem? (set first other (fresh 0)) id ≡ some (both v w) = at_set_else first other id (fresh 0) (λ e. apart (sym e)) ∙ at_set_here parts id (both v w) (at_within parts id v at) in
      record {
        long = a.long;
        shares = same (λ u. u.shares) refl refl ∙ a.shares;
        sound = All-set IsSound first other (fresh 0)
            (record { idle = λ none. refl; misses = omega arith; key = omega arith })
            (All-set IsSound parts id (both v w) (record { idle = both_idle s t; misses = omega (arith, s.misses, t.misses); key = omega (arith, s.key) }) a.sound);
        once = λ weight. same (λ u. sum_by weight u.pieces) (sum_by-append weight v.pieces w.pieces) refl ∙ a.once weight;
        counter = omega (arith, a.counter, same (λ u. length u.pieces) (length-append v.pieces w.pieces) refl, same (λ u. u.misses) refl refl);
        forces = λ k lt. wraps_same (slice_index words (k + 2)) (total (λ u. total_at k u.adds) parts) (total (λ u. total_at k u.adds) (set first other (fresh 0))) (same_total k) (a.forces k lt);
        fault = omega (arith, a.fault, least-lowered_at (λ (u : Part). u.key) parts id v (both v w) w.key at refl, least-le_at (λ (u : Part). u.key) parts other w there_before, least-spent_at (λ (u : Part). u.key) first other w (fresh 0) there refl, least-le_at (λ (u : Part). u.key) (set first other (fresh 0)) id (both v w) both_there);
      }
    where
      both_idle : IsSound v → IsSound w → v.shares + w.shares ≡ 0 → both v w ≡ fresh 0
      both_idle s t none =
          let mine : v ≡ fresh 0 = s.idle (omega (arith, none)) in
          let yours : w ≡ fresh 0 = t.idle (omega (arith, none)) in
          ap (λ u. both u w) mine ∙ ap (λ u. both (fresh 0) u) yours
