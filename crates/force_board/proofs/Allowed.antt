-- Each step of a seat keeps the rule of the shared words, and tells what it is to tell.
use Rattle.std.proofs.Common.{◌≡◌, ℕ, ◌+◌, ◌-◌, ◌%◌, ◌^◌, ◌<◌, ◌≤◌, min, List, [], ◌∷◌, ◌++◌, set, slice_index, ℤ, pos, neg_ℤ, refl, sym, ap, ◌∙◌, subst, arith, of_z, to_z, w64, FitsSigned, mod-eq_of_lt}
use Rattle.std.proofs.lemmas.Int.{ints, to_z-of_z}
use Rattle.std.proofs.lemmas.List.{set-get_or}
use mathlib.Core.Option.{none}
use Rattle.atomic_table.specs.Table.{State, step, Allows, Splits, Joins}
use Rattle.atomic_table.specs.Table.Act.{keeps}
use Rattle.atomic_table.proofs.Lists.{set_again}
use Rattle.weave_core.specs.declared.part.Part.{Part}
use Rattle.weave_core.specs.declared.limits.TheConstants.{SHARES, MAX_PIECES, NO_KEY}
use Rattle.weave_core.specs.Parts.{total_at, fresh, claimed, added, lowered, collected, unclaimed, unkeyed, giving, both}
use Rattle.weave_core.specs.Agree.{Agree}
use Rattle.weave_core.proofs.Lists.{at_within, at_set_here}
use Rattle.weave_core.proofs.Steps.{into_here, total_at-added, counter_bound, claims_keep, adds_keep, lowers_keep}
use Rattle.weave_core.proofs.Whole.{reads, reads_counter, reads_key, collects_keep, unclaims_keep, unkeys_keep, splits_keep, joins_keep}
use Rattle.force_board.specs.Steps.{Own, Claims, Looks, Counts, Adds, Lowers, Collects, Unclaims, Unkeys}
use Rattle.force_board.proofs.Known.{knows, all_drawn}

-- a word that was taken has the total 0
pub collected_gone : (v : Part) (word : ℕ) → total_at word (collected v word).adds ≡ pos 0
collected_gone v word = omega (arith, ints, total_at-added v word word (neg_ℤ (total_at word v.adds)), into_here word (neg_ℤ (total_at word v.adds)))

module _ (P C : ℕ) (key : ℕ × ℕ) (is : key ≡ (P, C)) where
  abbrev Rule : State ℕ Part → Type 0
  Rule s = Agree key.0 key.1 s.words s.views

  to : (words : List ℕ) (views : List Part) → Agree P C words views → Agree key.0 key.1 words views
  to words views a = subst (λ (k : ℕ × ℕ). Agree k.0 k.1 words views) (sym is) a

  from : (words : List ℕ) (views : List Part) → Agree key.0 key.1 words views → Agree P C words views
  from words views a = subst (λ (k : ℕ × ℕ). Agree k.0 k.1 words views) is a

  claims : (slots id : ℕ) (me : Own) → P ≤ MAX_PIECES → me.0.misses < me.0.shares → Allows Rule slots id me 0 (λ n. (n + 1) % 2 ^ 64) (Claims P (step slots 0 1 0 none) me)
  claims slots id me few room s holds len at under =
      let a = from s.words s.views holds in
      let n : ℕ = slice_index s.words 0 in
      let small : (n + 1) % 2 ^ 64 ≡ n + 1 = mod-eq_of_lt (omega (arith, counter_bound P C s.words s.views a)) in
      let after : Agree P C (set s.words 0 (n + 1)) (set s.views id (claimed P me.0 n)) = claims_keep P C s.words s.views id me.0 a at room in
      let kept : Agree P C (set s.words 0 ((n + 1) % 2 ^ 64)) (set s.views id (claimed P me.0 n)) = rw small after in (
        claimed P me.0 n,
        keeps,
        tt,
        to (set s.words 0 ((n + 1) % 2 ^ 64)) (set s.views id (claimed P me.0 n)) kept,
        (refl, all_drawn P C s.words s.views id me.0 a at, knows P C (set s.words 0 (n + 1)) (set s.views id (claimed P me.0 n)) id (claimed P me.0 n) after (at_set_here s.views id (claimed P me.0 n) (at_within s.views id me.0 at)) few),
      )

  looks : (slots id : ℕ) (me : Own) → P ≤ MAX_PIECES → Allows Rule slots id me 0 (λ n. n) (Looks P (step slots 0 0 0 none) me)
  looks slots id me few s holds len at under =
      let a = from s.words s.views holds in
      let words_stay : set s.words 0 (slice_index s.words 0) ≡ s.words = set-get_or s.words 0 0 in
      let views_stay : set s.views id me.0 ≡ s.views = set_again s.views id me.0 at in
      (me.0, keeps, tt, rw words_stay (rw views_stay holds), (refl, knows P C s.words s.views id me.0 a at few))

  pub counts : (slots id : ℕ) (me : Own) → me.0.shares ≡ SHARES → Allows Rule slots id me 0 (λ n. n) (Counts (step slots 0 0 0 none) me)
  counts slots id me all s holds len at under =
      let a = from s.words s.views holds in
      let words_stay : set s.words 0 (slice_index s.words 0) ≡ s.words = set-get_or s.words 0 0 in
      let views_stay : set s.views id me.0 ≡ s.views = set_again s.views id me.0 at in
      (me.0, keeps, tt, rw words_stay (rw views_stay holds), (refl, reads_counter P C s.words s.views id me.0 a at all))

  -- the same where a call picks the number of pieces
  pub claims_at : (number : ℕ) → number ≡ P → (slots id : ℕ) (me : Own) → P ≤ MAX_PIECES → me.0.misses < me.0.shares → Allows Rule slots id me 0 (λ n. (n + 1) % 2 ^ 64) (Claims number (step slots 0 1 0 none) me)
  claims_at number picked slots id me few room = subst (λ m. Allows Rule slots id me 0 (λ n. (n + 1) % 2 ^ 64) (Claims m (step slots 0 1 0 none) me)) (sym picked) (claims slots id me few room)

  pub looks_at : (number : ℕ) → number ≡ P → (slots id : ℕ) (me : Own) → P ≤ MAX_PIECES → Allows Rule slots id me 0 (λ n. n) (Looks number (step slots 0 0 0 none) me)
  looks_at number picked slots id me few = subst (λ m. Allows Rule slots id me 0 (λ n. n) (Looks m (step slots 0 0 0 none) me)) (sym picked) (looks slots id me few)

  pub adds : (slots id : ℕ) (me : Own) (word operand : ℕ) (value : ℤ) → word < C → 0 < me.0.shares → FitsSigned w64 value → operand ≡ of_z w64 value
      → Allows Rule slots id me (word + 2) (λ n. (n + operand) % 2 ^ 64) (Adds (step slots (word + 2) operand 0 none) me)
  adds slots id me word operand value lt share fits op s holds len at under =
      let a = from s.words s.views holds in
      let n : ℕ = slice_index s.words (word + 2) in
      let read : to_z w64 operand ≡ value = ap (to_z w64) op ∙ to_z-of_z w64 value fits in
      let back : (word + 2) - 2 ≡ word = omega arith in
      let w : Part = added me.0 word value in
      let after : Agree P C (set s.words (word + 2) ((n + of_z w64 value) % 2 ^ 64)) (set s.views id w) = adds_keep P C s.words s.views id me.0 a at word value lt share fits in
      let kept : Agree P C (set s.words (word + 2) ((n + operand) % 2 ^ 64)) (set s.views id w) = rw op after in (
        w,
        keeps,
        tt,
        to (set s.words (word + 2) ((n + operand) % 2 ^ 64)) (set s.views id w) kept,
        rw back (rw read refl),
      )

  pub lowers : (slots id : ℕ) (me : Own) (least : ℕ) → 0 < me.0.shares → Allows Rule slots id me 1 (λ n. min n least) (Lowers (step slots 1 least 0 none) me)
  lowers slots id me least share s holds len at under =
      let a = from s.words s.views holds in
      let new : ℕ = min (slice_index s.words 1) least in
      (lowered me.0 least, keeps, tt, to (set s.words 1 new) (set s.views id (lowered me.0 least)) (lowers_keep P C s.words s.views id me.0 a at least share), refl)

  pub collects : (slots id : ℕ) (me : Own) (word : ℕ) → word < C → me.0.shares ≡ SHARES → Allows Rule slots id me (word + 2) (λ _. 0) (Collects (step slots (word + 2) 0 0 none) me)
  collects slots id me word lt all s holds len at under =
      let a = from s.words s.views holds in
      let back : (word + 2) - 2 ≡ word = omega arith in
      let w : Part = collected me.0 word in (
        w,
        keeps,
        tt,
        to (set s.words (word + 2) 0) (set s.views id w) (collects_keep P C s.words s.views id me.0 a at all word lt),
        rw back (refl, λ fits. reads P C s.words s.views id me.0 a at all word lt fits),
      )

  pub unclaims : (slots id : ℕ) (me : Own) → me.0.shares ≡ SHARES → Allows Rule slots id me 0 (λ _. 0) (Unclaims (step slots 0 0 0 none) me)
  unclaims slots id me all s holds len at under =
      let a = from s.words s.views holds in
      (unclaimed me.0, keeps, tt, to (set s.words 0 0) (set s.views id (unclaimed me.0)) (unclaims_keep P C s.words s.views id me.0 a at all), refl)

  pub unkeys : (slots id : ℕ) (me : Own) → me.0.shares ≡ SHARES → Allows Rule slots id me 1 (λ _. NO_KEY) (Unkeys (step slots 1 NO_KEY 0 none) me)
  unkeys slots id me all s holds len at under =
      let a = from s.words s.views holds in
      (unkeyed me.0, keeps, tt, to (set s.words 1 NO_KEY) (set s.views id (unkeyed me.0)) (unkeys_keep P C s.words s.views id me.0 a at all), (refl, reads_key P C s.words s.views id me.0 a at all))

  pub splits : (id : ℕ) (v : Part) (give : ℕ) → v.misses + give < v.shares → Splits Rule id v (giving give v) (fresh give)
  splits id v give room s holds at =
      let a = from s.words s.views holds in
      to s.words (set s.views id (giving give v) ++ fresh give ∷ []) (splits_keep P C s.words s.views id v a at give room)

  pub joins : (id : ℕ) (v : Part) (other : ℕ) (w : Part) → Joins Rule id v other w (both v w) (fresh 0)
  joins id v other w s holds at apart there =
      let a = from s.words s.views holds in
      to s.words (set (set s.views id (both v w)) other (fresh 0)) (joins_keep P C s.words s.views id v a at other w apart there)
