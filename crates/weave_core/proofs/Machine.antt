-- What the workers hold agrees with the words of the machine after every event, and so with the plan at the end.
use Rattle.std.proofs.Common.{◌≡◌, ℕ, zero, suc, ◌+◌, ◌-◌, ◌%◌, ◌^◌, ◌<◌, ◌≤◌, min, Bool, true, false, cond, ◌||◌, List, [], ◌∷◌, ◌++◌, length, get_or, set, drop, replicate, slice_get, slice_index, ℤ, pos, ◌+ℤ◌, Option, Some, None, is_none, unwrap_or, option_map, option_and_then, nat_le, nat_lt, sum_by, All, refl, sym, ap, ◌∙◌, subst, arith, of_z, w64, leb-true, length-set, get_or-set_same, get_or-set_other, drop_of_length-le}
use native.Mathlib.Decide.{ℕ_discrete}
use mathlib.Core.Logic.{dite}
use mathlib.Core.Option as maybe
use lib.ListN.{get_elem?}
use Rattle.std.proofs.lemmas.Int.{ints, fits_signed_from_abs}
use Rattle.std.proofs.lemmas.Bool.{and_parts}
use Rattle.std.proofs.lemmas.List.{length-replicate, get_or-replicate}
use Rattle.std.proofs.lemmas.List.Sums.{sum_by-cons}
use Rattle.std.proofs.lemmas.List.Elements.{All-cons, All-head, All-tail, All-replicate, All-from_get_or}
use Rattle.sums.specs.Totals.{total, into}
use Rattle.sums.proofs.Totals.{total-append}
use Rattle.weave_core.specs.declared.part.Part.{Part}
use Rattle.weave_core.specs.declared.plan.Piece.{Piece}
use Rattle.weave_core.specs.declared.plan.Plan.{Plan}
use Rattle.weave_core.specs.declared.event.Event.{Event}
use Rattle.weave_core.specs.declared.event.Event.TheVariants.{Claim, Add, Lower}
use Rattle.weave_core.specs.declared.event.Hand.{Hand}
use Rattle.weave_core.specs.declared.event.Hand.TheVariants.{Free, Missed, Holds}
use Rattle.weave_core.specs.declared.limits.TheConstants.{SHARES, NO_KEY}
use Rattle.weave_core.specs.Parts.{total_at, least, fresh, claimed, added, lowered}
use Rattle.weave_core.specs.Agree.{Wraps, IsSound, HoldEachBelow, Agree}
use Rattle.weave_core.specs.Machine.{IsAdd, IsPlan, Machine, key_of, piece_at, is_played, still, drawn, next_add, next_key, past_add, past_key, is_free, is_missed, is_holding, begin, hand_of, with_add, play, play_all, IsDone, first_parts, part_of, gains, gains_all, words_of, Ended, OrderFree}
use Rattle.weave_core.proofs.Hands.{next_add-inside}
use Rattle.weave_core.proofs.Lists.{at_index, least-append}
use Rattle.weave_core.proofs.Words.{wraps_zero, wraps_same}
use Rattle.weave_core.proofs.Steps.{claims_keep, adds_keep, lowers_keep}
use Rattle.weave_core.proofs.Ends.{total_of_all, least_of_all, total_numbered, least_numbered}

-- ---- a hand and a part that fit

-- the adds and the key of the piece in hand that are not yet played, and what a hand tells of misses
abbrev adds_left : Plan → Hand → List (ℕ × ℤ)
adds_left plan Free = []
adds_left plan Missed = []
adds_left plan (Holds piece played lowered) = drop played (piece_at plan piece).adds

abbrev key_left : Plan → Hand → ℕ
key_left plan Free = NO_KEY
key_left plan Missed = NO_KEY
key_left plan (Holds piece played lowered) = cond lowered NO_KEY (key_of (piece_at plan piece))

abbrev misses_of : Hand → ℕ
misses_of Free = 0
misses_of Missed = 1
misses_of (Holds piece played lowered) = 0

abbrev sum_of : Plan → ℕ → ℕ → ℤ
sum_of plan word piece = total_at word (piece_at plan piece).adds

abbrev key_at : Plan → ℕ → ℕ
key_at plan piece = key_of (piece_at plan piece)

-- what a worker has done, with what is left of the piece in hand, is all of the pieces that it holds
record Fits (plan : Plan) (h : Hand) (v : Part) : Type 0 where
  share : 0 < v.shares
  misses : v.misses ≡ misses_of h
  adds : (word : ℕ) → total_at word v.adds +ℤ total_at word (adds_left plan h) ≡ total (sum_of plan word) v.pieces
  key : min v.key (key_left plan h) ≡ least (key_at plan) v.pieces

module _ (plan : Plan) (piece played : ℕ) (lowered : Bool) where
  still_misses : misses_of (still plan piece played lowered) ≡ 0
  still_misses = by_test (is_played (piece_at plan piece) played lowered)
    where
      by_test : (b : Bool) → misses_of (cond b Free (Holds piece played lowered)) ≡ 0
      by_test true = refl
      by_test false = refl

  still_adds : (word : ℕ) → total_at word (adds_left plan (still plan piece played lowered)) ≡ total_at word (drop played (piece_at plan piece).adds)
  still_adds word = by_test (is_played (piece_at plan piece) played lowered) refl
    where
      by_test : (b : Bool) → is_played (piece_at plan piece) played lowered ≡ b → total_at word (adds_left plan (cond b Free (Holds piece played lowered))) ≡ total_at word (drop played (piece_at plan piece).adds)
      by_test true is =
          let past : length (piece_at plan piece).adds ≤ played = leb-true (length (piece_at plan piece).adds) played (and_parts (nat_le (length (piece_at plan piece).adds) played) (lowered || is_none (piece_at plan piece).key) is).0 in
          sym (ap (total_at word) (drop_of_length-le (piece_at plan piece).adds past))
      by_test false is = refl

  still_key : key_left plan (still plan piece played lowered) ≡ cond lowered NO_KEY (key_at plan piece)
  still_key = by_test (is_played (piece_at plan piece) played lowered) refl
    where
      no_key_left : (l : Bool) (key : Option ℕ) → (l || is_none key) ≡ true → NO_KEY ≡ cond l NO_KEY (unwrap_or key NO_KEY)
      no_key_left true key is = refl
      no_key_left false None is = refl
      no_key_left false (Some k) is = absurd (cc)

      by_test : (b : Bool) → is_played (piece_at plan piece) played lowered ≡ b → key_left plan (cond b Free (Holds piece played lowered)) ≡ cond lowered NO_KEY (key_at plan piece)
      by_test true is = no_key_left lowered (piece_at plan piece).key (and_parts (nat_le (length (piece_at plan piece).adds) played) (lowered || is_none (piece_at plan piece).key) is).1
      by_test false is = refl

-- after a claim
fits_claimed : (plan : Plan) (v : Part) (n : ℕ) → v.key ≤ NO_KEY → Fits plan Free v → Fits plan (drawn plan n) (claimed (length plan.pieces) v n)
fits_claimed plan v n small fits = by_test (nat_lt n (length plan.pieces))
  where
    by_test : (b : Bool) → Fits plan (cond b (still plan n 0 false) Missed) (cond b (record v { pieces = v.pieces ++ n ∷ [] }) (record v { misses = v.misses + 1 }))
    by_test true = record {
      share = fits.share;
      misses = fits.misses ∙ sym (still_misses plan n 0 false);
      adds = λ word. omega (arith, ints, fits.adds word, still_adds plan n 0 false word, total-append (sum_of plan word) v.pieces (n ∷ []));
      key = omega (arith, small, fits.key, still_key plan n 0 false, least-append (key_at plan) v.pieces (n ∷ []));
    }
    by_test false = record {
      share = fits.share;
      misses = ap (λ k. k + 1) fits.misses;
      adds = fits.adds;
      key = fits.key;
    }

next_left : {X : Type 0} (xs : List X) (i : ℕ) (x : X) → slice_get xs i ≡ Some x → drop i xs ≡ x ∷ drop (i + 1) xs
next_left [] i x got = absurd (cc)
next_left (y ∷ xs) zero x got =
    let same : y ≡ x = cc in
    let e : 0 + 1 ≡ suc 0 = omega arith in
    ap (λ z. z ∷ xs) same
next_left (y ∷ xs) (suc i) x got =
    let e : suc i + 1 ≡ suc (i + 1) = omega arith in
    rw e (next_left xs i x got)

-- after an add
fits_added : (plan : Plan) (h : Hand) (v : Part) (add : ℕ × ℤ) → next_add plan h ≡ Some add → Fits plan h v → Fits plan (past_add plan h) (added v add.0 add.1)
fits_added plan Free v add is fits = absurd (cc)
fits_added plan Missed v add is fits = absurd (cc)
fits_added plan (Holds piece played lowered) v add is fits =
    let left : (word : ℕ) → total_at word (drop played (piece_at plan piece).adds) ≡ into word add +ℤ total_at word (drop (played + 1) (piece_at plan piece).adds) = λ word. ap (total_at word) (next_left (piece_at plan piece).adds played add is) in
    record {
      share = fits.share;
      misses = fits.misses ∙ sym (still_misses plan piece (played + 1) lowered);
      adds = λ word. omega (arith, ints, fits.adds word, left word, still_adds plan piece (played + 1) lowered word, total-append (into word) v.adds (add ∷ []));
      key = ap (min v.key) (still_key plan piece (played + 1) lowered) ∙ fits.key;
    }

-- after the key
fits_lowered : (plan : Plan) (h : Hand) (v : Part) (key : ℕ) → v.key ≤ NO_KEY → next_key plan h ≡ Some key → Fits plan h v → Fits plan (past_key plan h) (lowered v key)
fits_lowered plan Free v key small is fits = absurd (cc)
fits_lowered plan Missed v key small is fits = absurd (cc)
fits_lowered plan (Holds piece played true) v key small is fits = absurd (cc)
fits_lowered plan (Holds piece played false) v key small is fits =
    let due : key_at plan piece ≡ key = ap (λ k. unwrap_or k NO_KEY) is in
    record {
      share = fits.share;
      misses = fits.misses ∙ sym (still_misses plan piece played true);
      adds = λ word. omega (arith, ints, fits.adds word, still_adds plan piece played true word);
      key = omega (arith, small, fits.key, due, still_key plan piece played true);
    }

-- ---- the machine and the parts agree

record Kept (m : Machine) (parts : List Part) : Type 0 where
  sound : IsPlan m.plan
  even : length m.hands ≡ length parts
  agree : Agree (length m.plan.pieces) m.plan.words (words_of m) parts
  fits : (worker : ℕ) → worker < length parts → Fits m.plan (hand_of m worker) (part_of parts worker)

is_worker : (hands : List Hand) (worker : ℕ) (h : Hand) → get_or hands worker Missed ≡ h → is_missed h ≡ false → worker < length hands
is_worker [] worker h is busy = absurd (let e : is_missed Missed ≡ false = ap is_missed is ∙ busy in cc)
is_worker (x ∷ hands) zero h is busy = omega arith
is_worker (x ∷ hands) (suc worker) h is busy = omega (arith, is_worker hands worker h is busy)

module _ (m : Machine) (parts : List Part) (kept : Kept m parts) (worker : ℕ) (within : worker < length parts) where
  at_worker : get_elem? parts worker ≡ maybe.some (part_of parts worker)
  at_worker = at_index parts worker (fresh 0) within

  sound_part : IsSound (part_of parts worker)
  sound_part = kept.agree.sound worker (fresh 0) within

  -- one worker's hand and part change
  kept_by : (counter fault : ℕ) (words : List ℕ) (h : Hand) (v : Part) → Agree (length m.plan.pieces) m.plan.words (counter ∷ fault ∷ words) (set parts worker v) → Fits m.plan h v
      → Kept (record { plan = m.plan; counter = counter; fault = fault; words = words; hands = set m.hands worker h }) (set parts worker v)
  kept_by counter fault words h v agree fits = record {
    sound = kept.sound;
    even = length-set m.hands worker h ∙ kept.even ∙ sym (length-set parts worker v);
    agree = agree;
    fits = λ k lt.
        let here_too : k < length parts = omega (arith, lt, length-set parts worker v) in
        dite (ℕ_discrete k worker)
        (λ is. subst (λ j. Fits m.plan (get_or (set m.hands worker h) j Missed) (get_or (set parts worker v) j (fresh 0))) (sym is)
        (let hand_is : get_or (set m.hands worker h) worker Missed ≡ h = get_or-set_same m.hands worker h Missed (omega (arith, within, kept.even)) in
        let part_is : get_or (set parts worker v) worker (fresh 0) ≡ v = get_or-set_same parts worker v (fresh 0) within in
        rw hand_is (rw part_is fits)))
        (λ ne.
        let hand_is : get_or (set m.hands worker h) k Missed ≡ get_or m.hands k Missed = get_or-set_other m.hands worker k h Missed ne in
        let part_is : get_or (set parts worker v) k (fresh 0) ≡ get_or parts k (fresh 0) = get_or-set_other parts worker k v (fresh 0) ne in
        rw hand_is (rw part_is (kept.fits k here_too)));
  }

-- what an event that is enabled leaves
record Goes (m n : Machine) (parts : List Part) : Type 0 where
  kept : Kept n parts
  same : n.plan ≡ m.plan

module _ (m n : Machine) (parts : List Part) (kept : Kept m parts) (worker : ℕ) where
  claim_goes : (h : Hand) → hand_of m worker ≡ h
      → cond (is_free h) (Some (record m { counter = m.counter + 1; hands = set m.hands worker (drawn m.plan m.counter) })) None ≡ Some n
      → Goes m n (set parts worker (claimed (length m.plan.pieces) (part_of parts worker) m.counter))
  claim_goes Missed is goes = absurd (cc)
  claim_goes (Holds piece played lowered) is goes = absurd (cc)
  claim_goes Free is goes =
      let within : worker < length parts = omega (arith, is_worker m.hands worker Free is refl, kept.even) in
      let v = part_of parts worker in
      let fits : Fits m.plan Free v = subst (λ h. Fits m.plan h v) is (kept.fits worker within) in
      let agree : Agree (length m.plan.pieces) m.plan.words ((m.counter + 1) ∷ m.fault ∷ m.words) (set parts worker (claimed (length m.plan.pieces) v m.counter)) =
      claims_keep (length m.plan.pieces) m.plan.words (words_of m) parts worker v kept.agree (at_worker m parts kept worker within) (omega (arith, fits.misses, fits.share)) in
      let after : Machine = record m { counter = m.counter + 1; hands = set m.hands worker (drawn m.plan m.counter) } in
      let same : after ≡ n = cc in
      subst (λ k. Goes m k (set parts worker (claimed (length m.plan.pieces) v m.counter))) same
      (record {
        kept = kept_by m parts kept worker within (m.counter + 1) m.fault m.words (drawn m.plan m.counter) (claimed (length m.plan.pieces) v m.counter) agree
            (fits_claimed m.plan v m.counter (sound_part m parts kept worker within).key fits);
        same = refl;
      })

  adds_busy : (plan : Plan) (h : Hand) (add : ℕ × ℤ) → next_add plan h ≡ Some add → is_missed h ≡ false
  adds_busy plan Free add is = refl
  adds_busy plan Missed add is = absurd (cc)
  adds_busy plan (Holds piece played lowered) add is = refl

  add_goes : (next : Option (ℕ × ℤ)) → next_add m.plan (hand_of m worker) ≡ next
      → option_map (λ (add : ℕ × ℤ). record m { words = with_add m.words add; hands = set m.hands worker (past_add m.plan (hand_of m worker)) }) next ≡ Some n
      → Goes m n (unwrap_or (option_map (λ (add : ℕ × ℤ). set parts worker (added (part_of parts worker) add.0 add.1)) next) parts)
  add_goes None is goes = absurd (cc)
  add_goes (Some add) is goes =
      let h = hand_of m worker in
      let within : worker < length parts = omega (arith, is_worker m.hands worker h refl (adds_busy m.plan h add is), kept.even) in
      let v = part_of parts worker in
      let fits : Fits m.plan h v = kept.fits worker within in
      let inside : IsAdd m.plan.words add = next_add-inside m.plan h add kept.sound is in
      let e : add.0 + 2 ≡ suc (suc add.0) = omega arith in
      let agree : Agree (length m.plan.pieces) m.plan.words (m.counter ∷ m.fault ∷ with_add m.words add) (set parts worker (added v add.0 add.1)) =
      subst (λ j. Agree (length m.plan.pieces) m.plan.words (set (words_of m) j ((slice_index (words_of m) j + of_z w64 add.1) % 2 ^ 64)) (set parts worker (added v add.0 add.1))) e
      (adds_keep (length m.plan.pieces) m.plan.words (words_of m) parts worker v kept.agree (at_worker m parts kept worker within) add.0 add.1 inside.inside fits.share
      (fits_signed_from_abs w64 add.1 (omega (arith, inside.small)))) in
      let after : Machine = record m { words = with_add m.words add; hands = set m.hands worker (past_add m.plan h) } in
      let same : after ≡ n = cc in
      subst (λ k. Goes m k (set parts worker (added v add.0 add.1))) same
      (record {
        kept = kept_by m parts kept worker within m.counter m.fault (with_add m.words add) (past_add m.plan h) (added v add.0 add.1) agree (fits_added m.plan h v add is fits);
        same = refl;
      })

  keys_busy : (plan : Plan) (h : Hand) (key : ℕ) → next_key plan h ≡ Some key → is_missed h ≡ false
  keys_busy plan Free key is = refl
  keys_busy plan Missed key is = absurd (cc)
  keys_busy plan (Holds piece played lowered) key is = refl

  lower_goes : (next : Option ℕ) → next_key m.plan (hand_of m worker) ≡ next
      → option_map (λ (key : ℕ). record m { fault = min m.fault key; hands = set m.hands worker (past_key m.plan (hand_of m worker)) }) next ≡ Some n
      → Goes m n (unwrap_or (option_map (λ (key : ℕ). set parts worker (lowered (part_of parts worker) key)) next) parts)
  lower_goes None is goes = absurd (cc)
  lower_goes (Some key) is goes =
      let h = hand_of m worker in
      let within : worker < length parts = omega (arith, is_worker m.hands worker h refl (keys_busy m.plan h key is), kept.even) in
      let v = part_of parts worker in
      let fits : Fits m.plan h v = kept.fits worker within in
      let agree : Agree (length m.plan.pieces) m.plan.words (m.counter ∷ min m.fault key ∷ m.words) (set parts worker (lowered v key)) =
      lowers_keep (length m.plan.pieces) m.plan.words (words_of m) parts worker v kept.agree (at_worker m parts kept worker within) key fits.share in
      let after : Machine = record m { fault = min m.fault key; hands = set m.hands worker (past_key m.plan h) } in
      let same : after ≡ n = cc in
      subst (λ k. Goes m k (set parts worker (lowered v key))) same
      (record {
        kept = kept_by m parts kept worker within m.counter (min m.fault key) m.words (past_key m.plan h) (lowered v key) agree
            (fits_lowered m.plan h v key (sound_part m parts kept worker within).key is fits);
        same = refl;
      })

play_goes : (m n : Machine) (parts : List Part) (event : Event) → Kept m parts → play m event ≡ Some n → Goes m n (gains m event parts)
play_goes m n parts (Claim worker) kept goes = claim_goes m n parts kept worker (hand_of m worker) refl goes
play_goes m n parts (Add worker) kept goes = add_goes m n parts kept worker (next_add m.plan (hand_of m worker)) refl goes
play_goes m n parts (Lower worker) kept goes = lower_goes m n parts kept worker (next_key m.plan (hand_of m worker)) refl goes

plays_go : (events : List Event) (m n : Machine) (parts : List Part) → Kept m parts → play_all m events ≡ Some n → Goes m n (gains_all m events parts)
plays_go [] m n parts kept goes =
    let same : m ≡ n = cc in
    subst (λ k. Goes m k parts) same (record { kept = kept; same = refl })
plays_go (event ∷ events) m n parts kept goes = by_turn (λ k. plays_go events k n (gains m event parts)) (play m event) refl goes
  where
    by_turn : ((k : Machine) → Kept k (gains m event parts) → play_all k events ≡ Some n → Goes k n (gains_all k events (gains m event parts))) → (next : Option Machine) → play m event ≡ next → option_and_then (λ k. play_all k events) next ≡ Some n → Goes m n (gains_all (unwrap_or next m) events (gains m event parts))
    by_turn onward None is rest = absurd (cc)
    by_turn onward (Some k) is rest =
        let first = play_goes m k parts event kept is in
        let later = onward k first.kept rest in
        record { kept = later.kept; same = later.same ∙ first.same }

-- ---- the start

nothing_summed : {X : Type 0} (f : X → ℕ) (x : X) (n : ℕ) → f x ≡ 0 → sum_by f (replicate n x) ≡ 0
nothing_summed f x zero none = refl
nothing_summed f x (suc n) none = omega (arith, sum_by-cons f x (replicate n x), nothing_summed f x n none, none)

ones_summed : {X : Type 0} (f : X → ℕ) (x : X) (n : ℕ) → f x ≡ 1 → sum_by f (replicate n x) ≡ n
ones_summed f x zero one = refl
ones_summed f x (suc n) one = omega (arith, sum_by-cons f x (replicate n x), ones_summed f x n one, one)

nothing_totalled : {X : Type 0} (f : X → ℤ) (x : X) (n : ℕ) → f x ≡ pos 0 → total f (replicate n x) ≡ pos 0
nothing_totalled f x zero none = refl
nothing_totalled f x (suc n) none = omega (arith, ints, nothing_totalled f x n none, none)

no_key_found : {X : Type 0} (f : X → ℕ) (x : X) (n : ℕ) → f x ≡ NO_KEY → least f (replicate n x) ≡ NO_KEY
no_key_found f x zero none = refl
no_key_found f x (suc n) none = omega (arith, no_key_found f x n none, none)

fits_fresh : (plan : Plan) (shares : ℕ) → 0 < shares → Fits plan Free (fresh shares)
fits_fresh plan shares some_share = record { share = some_share; misses = refl; adds = λ word. refl; key = refl }

sound_fresh : (shares : ℕ) → IsSound (fresh shares)
sound_fresh shares = record { idle = λ none. ap fresh none; misses = omega arith; key = omega arith }

module _ (plan : Plan) (workers : ℕ) (sound : IsPlan plan) (some_worker : 0 < workers) (few : workers ≤ SHARES) where
  summed : (f : Part → ℕ) → ((shares : ℕ) → f (fresh shares) ≡ 0) → sum_by f (first_parts workers) ≡ 0
  summed f none =
      let rest : List Part = replicate (workers - 1) (fresh 1) in
      omega (arith, sum_by-cons f (fresh (SHARES - (workers - 1))) rest, none (SHARES - (workers - 1)), nothing_summed f (fresh 1) (workers - 1) (none 1))

  begin_agrees : Agree (length plan.pieces) plan.words (words_of (begin plan workers)) (first_parts workers)
  begin_agrees =
      let rest : List Part = replicate (workers - 1) (fresh 1) in
      let none_passed : min 0 (length plan.pieces) ≡ 0 = omega arith in
      record {
        long = omega (arith, length-replicate {A = ℕ} plan.words 0);
        shares = omega (arith, sum_by-cons (λ (v : Part). v.shares) (fresh (SHARES - (workers - 1))) rest, ones_summed (λ (v : Part). v.shares) (fresh 1) (workers - 1) refl);
        sound = All-cons IsSound (fresh (SHARES - (workers - 1))) rest (sound_fresh (SHARES - (workers - 1))) (All-replicate IsSound (workers - 1) (fresh 1) (sound_fresh 1));
        once = rw none_passed (λ weight. summed (λ v. sum_by weight v.pieces) (λ shares. refl));
        counter = omega (arith, summed (λ (v : Part). length v.pieces) (λ shares. refl), summed (λ (v : Part). v.misses) (λ shares. refl));
        forces = λ word lt.
            let e : word + 2 ≡ suc (suc word) = omega arith in
            let word_is : slice_index (words_of (begin plan workers)) (word + 2) ≡ 0 = rw e (get_or-replicate plan.words word 0 0 lt) in
            let sum_is : total (λ (v : Part). total_at word v.adds) (first_parts workers) ≡ pos 0 = omega (arith, ints, nothing_totalled (λ (v : Part). total_at word v.adds) (fresh 1) (workers - 1) refl) in
            rw word_is (rw sum_is wraps_zero);
        fault = omega (arith, no_key_found (λ (v : Part). v.key) (fresh 1) (workers - 1) refl);
      }

  begin_kept : Kept (begin plan workers) (first_parts workers)
  begin_kept = record {
    sound = sound;
    even = omega (arith, length-replicate workers Free, length-replicate (workers - 1) (fresh 1));
    agree = begin_agrees;
    fits = λ worker lt.
        let in_hands : worker < workers = omega (arith, lt, length-replicate (workers - 1) (fresh 1)) in
        let hand_is : get_or (replicate workers Free) worker Missed ≡ Free = get_or-replicate workers worker Free Missed in_hands in
        rw hand_is (part_fits worker in_hands);
  }
    where
      part_fits : (worker : ℕ) → worker < workers → Fits plan Free (part_of (first_parts workers) worker)
      part_fits zero lt = fits_fresh plan (SHARES - (workers - 1)) (omega arith)
      part_fits (suc worker) lt =
          let part_is : get_or (replicate (workers - 1) (fresh 1)) worker (fresh 0) ≡ fresh 1 = get_or-replicate (workers - 1) worker (fresh 1) (fresh 0) (omega arith) in
          rw part_is (fits_fresh plan 1 (omega arith))

-- ---- the end

total_same_all : {X : Type 0} (f g : X → ℤ) (xs : List X) → All (λ x. f x ≡ g x) xs → total f xs ≡ total g xs
total_same_all f g [] same = refl
total_same_all f g (x ∷ xs) same = omega (arith, ints, All-head (λ y. f y ≡ g y) x xs same, total_same_all f g xs (All-tail (λ y. f y ≡ g y) x xs same))

least_same_all : {X : Type 0} (f g : X → ℕ) (xs : List X) → All (λ x. f x ≡ g x) xs → least f xs ≡ least g xs
least_same_all f g [] same = refl
least_same_all f g (x ∷ xs) same = omega (arith, All-head (λ y. f y ≡ g y) x xs same, least_same_all f g xs (All-tail (λ y. f y ≡ g y) x xs same))

no_adds_left : (plan : Plan) (h : Hand) → is_holding h ≡ false → adds_left plan h ≡ []
no_adds_left plan Free done = refl
no_adds_left plan Missed done = refl
no_adds_left plan (Holds piece played lowered) done = absurd (cc)

no_key_left : (plan : Plan) (h : Hand) → is_holding h ≡ false → key_left plan h ≡ NO_KEY
no_key_left plan Free done = refl
no_key_left plan Missed done = refl
no_key_left plan (Holds piece played lowered) done = absurd (cc)

module _ (m : Machine) (parts : List Part) (kept : Kept m parts) (done : IsDone m) (reached : length m.plan.pieces ≤ m.counter) where
  done_at : (worker : ℕ) → worker < length parts → is_holding (hand_of m worker) ≡ false
  done_at worker lt = done worker Missed (omega (arith, lt, kept.even))

  all_held : HoldEachBelow (length m.plan.pieces) parts
  all_held =
      let all_passed : min m.counter (length m.plan.pieces) ≡ length m.plan.pieces = omega arith in
      rw all_passed at kept.agree.once

  sums_are : (word : ℕ) → total (λ v. total_at word v.adds) parts ≡ total (λ (piece : Piece). total_at word piece.adds) m.plan.pieces
  sums_are word =
      total_same_all (λ v. total_at word v.adds) (λ v. total (sum_of m.plan word) v.pieces) parts
      (All-from_get_or (λ (v : Part). total_at word v.adds ≡ total (sum_of m.plan word) v.pieces) parts (fresh 0)
      (λ worker lt. omega (arith, ints, (kept.fits worker lt).adds word, ap (total_at word) (no_adds_left m.plan (hand_of m worker) (done_at worker lt)))))
      ∙ total_of_all (length m.plan.pieces) parts all_held (sum_of m.plan word)
      ∙ total_numbered (λ (piece : Piece). total_at word piece.adds) m.plan.pieces (record { adds = []; key = None })

  key_is : least (λ v. v.key) parts ≡ least key_of m.plan.pieces
  key_is =
      least_same_all (λ v. v.key) (λ v. least (key_at m.plan) v.pieces) parts
      (All-from_get_or (λ (v : Part). v.key ≡ least (key_at m.plan) v.pieces) parts (fresh 0)
      (λ worker lt. omega (arith, (kept.fits worker lt).key, no_key_left m.plan (hand_of m worker) (done_at worker lt), (kept.agree.sound worker (fresh 0) lt).key)))
      ∙ least_of_all (length m.plan.pieces) parts all_held (key_at m.plan)
      ∙ least_numbered key_of m.plan.pieces (record { adds = []; key = None })

  ends : Ended m.plan m parts
  ends = record {
    pieces = all_held;
    forces = λ word lt.
        let e : word + 2 ≡ suc (suc word) = omega arith in
        let wraps : Wraps (slice_index m.words word) (total (λ v. total_at word v.adds) parts) = subst (λ j. Wraps (slice_index (words_of m) j) (total (λ v. total_at word v.adds) parts)) e (kept.agree.forces word lt) in
        wraps_same (slice_index m.words word) (total (λ v. total_at word v.adds) parts) (total (λ (piece : Piece). total_at word piece.adds) m.plan.pieces) (sym (sums_are word)) wraps;
    fault = kept.agree.fault ∙ key_is;
  }

pub order_free : OrderFree
order_free plan workers events m sound some_worker few goes =
    let end = plays_go events (begin plan workers) m (first_parts workers) (begin_kept plan workers sound some_worker few) goes in
    let parts : List Part = gains_all (begin plan workers) events (first_parts workers) in
    let same : m.plan ≡ plan = end.same in (
      subst (λ (p : Plan). Agree (length p.pieces) p.words (words_of m) parts) same end.kept.agree,
      λ done reached. subst (λ (p : Plan). Ended p m parts) same (ends m parts end.kept done (subst (λ (p : Plan). length p.pieces ≤ m.counter) (sym same) reached)),
    )
