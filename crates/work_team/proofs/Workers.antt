-- How a worker goes on from piece to piece, and how what two workers did is joined.
use Rattle.std.proofs.Common.{◌≡◌, ℕ, ◌+◌, ◌*◌, ◌≤◌, min, List, [], ◌∷◌, ◌++◌, length, pos, ◌+ℤ◌, refl, sym, ap, ◌∙◌, subst, arith, length-append}
use Rattle.std.proofs.lemmas.Int.{ints}
use Rattle.std.proofs.lemmas.List.Sums.{sum_by-cons, sum_by-append}
use Rattle.sums.specs.Totals.{into}
use Rattle.sums.proofs.Totals.{total-append}
use Rattle.weave_core.specs.declared.part.Part.{Part}
use Rattle.weave_core.specs.declared.limits.TheConstants.{NO_KEY}
use Rattle.weave_core.specs.Parts.{total_at, fresh, giving, both}
use Rattle.weave_core.proofs.Lists.{least-le, least-append}
use Rattle.force_board.specs.Steps.{Knows}
use Rattle.work_team.specs.declared.tally.Tally.{Tally}
use Rattle.work_team.specs.declared.limits.TheConstants.{MAX_TALLY}
use Rattle.work_team.specs.Tallies.{no_tally, plus, IsWithin}
use Rattle.work_team.specs.Effects.{Effect, Played, adds_at, key_of, terms_of, tally_of, IsIdle, Worked}
use Rattle.work_team.proofs.TallyLemmas.{IsWithin-weaker, IsWithin-plus, tally_of-append, tally_of-one}

-- ---- sums over pieces

module _ (effect : ℕ → Effect) where
  adds_at-append : (word : ℕ) (ps qs : List ℕ) → adds_at word effect (ps ++ qs) ≡ adds_at word effect ps +ℤ adds_at word effect qs
  adds_at-append word ps qs = total-append (λ p. total_at word (effect p).adds) ps qs

  key_of-append : (ps qs : List ℕ) → key_of effect (ps ++ qs) ≡ min (key_of effect ps) (key_of effect qs)
  key_of-append ps qs = least-append (λ p. (effect p).key) ps qs

  key_of-le : (ps : List ℕ) → key_of effect ps ≤ NO_KEY
  key_of-le ps = least-le (λ p. (effect p).key) ps

  pub terms_of-append : (ps qs : List ℕ) → terms_of effect (ps ++ qs) ≡ terms_of effect ps + terms_of effect qs
  terms_of-append ps qs = sum_by-append (λ p. (effect p).terms) ps qs

  terms_of-one : (p : ℕ) → terms_of effect (p ∷ []) ≡ (effect p).terms
  terms_of-one p = omega (arith, sum_by-cons (λ q. (effect q).terms) p [])

-- ---- one worker

-- A worker that began with the part `old` and the count `before` has no miss yet.
pub record IsDrawing (count : ℕ) (effect : ℕ → Effect) (old now : Part) (before after : ℕ) (sum : Tally) : Type 0 where
  pub shares : now.shares ≡ old.shares
  pub misses : now.misses ≡ 0
  pub few : length now.pieces ≤ count
  pub totals : (word : ℕ) → total_at word now.adds ≡ total_at word old.adds +ℤ adds_at word effect now.pieces
  pub key : min now.key NO_KEY ≡ min old.key (key_of effect now.pieces)
  pub tally : sum ≡ tally_of effect now.pieces
  pub within : IsWithin (MAX_TALLY * length now.pieces) sum
  pub steps : after ≡ before + terms_of effect now.pieces

module _ (count : ℕ) (effect : ℕ → Effect) (old : Part) (before : ℕ) where
  pub begins : IsIdle old → IsDrawing count effect old old before before no_tally
  begins idle =
      let none : (word : ℕ) → adds_at word effect old.pieces ≡ pos 0 = λ word. ap (adds_at word effect) idle.pieces in record {
        shares = refl;
        misses = idle.misses;
        few = omega (arith, ap length idle.pieces);
        totals = λ word. omega (arith, ints, none word);
        key = ap (λ ps. min old.key (key_of effect ps)) (sym idle.pieces);
        tally = ap (tally_of effect) (sym idle.pieces);
        within = record { pair = omega arith; bond = omega arith; angle = omega arith; virial = omega arith };
        steps = omega (arith, ap (terms_of effect) idle.pieces);
      }

  pub goes_on : (now mid new : Part) (p s s' : ℕ) (sum one : Tally) → IsDrawing count effect old now before s sum
      → mid ≡ record now { pieces = now.pieces ++ p ∷ [] } → Knows count mid → Played (effect p) mid new
      → s' ≡ s + (effect p).terms → one ≡ (effect p).tally → IsWithin MAX_TALLY one
      → IsDrawing count effect old new before s' (plus sum one)
  goes_on now mid new p s s' sum one so claimed knows played counted told small =
      let pieces : new.pieces ≡ now.pieces ++ p ∷ [] = played.pieces ∙ ap (λ (v : Part). v.pieces) claimed in
      let long : length new.pieces ≡ length now.pieces + 1 = omega (arith, ap length pieces, length-append now.pieces (p ∷ [])) in record {
        shares = played.shares ∙ (ap (λ (v : Part). v.shares) claimed ∙ so.shares);
        misses = played.misses ∙ (ap (λ (v : Part). v.misses) claimed ∙ so.misses);
        few = omega (arith, knows.few, ap length played.pieces);
        totals = λ word. omega (
          arith,
          ints,
          played.totals word,
          ap (λ (v : Part). total_at word v.adds) claimed,
          so.totals word,
          ap (adds_at word effect) pieces,
          adds_at-append effect word now.pieces (p ∷ []),
        );
        key = omega (arith, played.key, ap (λ (v : Part). v.key) claimed, so.key, ap (key_of effect) pieces, key_of-append effect now.pieces (p ∷ []));
        tally = ap (λ t. plus t one) so.tally ∙ (ap (plus (tally_of effect now.pieces)) (told ∙ sym (tally_of-one effect p)) ∙ (sym (tally_of-append effect now.pieces (p ∷ [])) ∙ ap (tally_of effect) (sym pieces)));
        within = IsWithin-weaker (MAX_TALLY * length now.pieces + MAX_TALLY) (MAX_TALLY * length new.pieces) (plus sum one) (omega (arith, long)) (IsWithin-plus (MAX_TALLY * length now.pieces) MAX_TALLY sum one so.within small);
        steps = omega (arith, counted, so.steps, ap (terms_of effect) pieces, terms_of-append effect now.pieces (p ∷ []), terms_of-one effect p);
      }

  pub ends : (now new : Part) (s : ℕ) (sum : Tally) → IsDrawing count effect old now before s sum
      → new ≡ record now { misses = now.misses + 1 } → Knows count new → Worked count effect old new sum
  ends now new s sum so missed knows =
      let pieces : new.pieces ≡ now.pieces = ap (λ (v : Part). v.pieces) missed in record {
        shares = ap (λ (v : Part). v.shares) missed ∙ so.shares;
        missed = omega (arith, ap (λ (v : Part). v.misses) missed);
        totals = λ word. ap (λ (v : Part). total_at word v.adds) missed ∙ (so.totals word ∙ ap (λ ps. total_at word old.adds +ℤ adds_at word effect ps) (sym pieces));
        key = omega (arith, ap (λ (v : Part). v.key) missed, so.key, ap (key_of effect) pieces, knows.low);
        tally = so.tally ∙ ap (tally_of effect) (sym pieces);
        within = subst (λ ps. IsWithin (MAX_TALLY * length ps) sum) (sym pieces) so.within;
        known = knows;
      }

-- ---- two workers

-- one seat is split, both are worked with, and then they are joined
pub joins : (count : ℕ) (effect : ℕ → Effect) (old v w new : Part) (shares : ℕ) (s t : Tally) → shares ≤ old.shares
    → Worked count effect (giving shares old) v s → Worked count effect (fresh shares) w t → new ≡ both v w → Knows count new
    → Worked count effect old new (plus s t)
joins count effect old v w new shares s t le ours theirs joined knows =
    let pieces : new.pieces ≡ v.pieces ++ w.pieces = ap (λ (u : Part). u.pieces) joined in
    let long : length new.pieces ≡ length v.pieces + length w.pieces = omega (arith, ap length pieces, length-append v.pieces w.pieces) in record {
      shares = omega (arith, ap (λ (u : Part). u.shares) joined, ours.shares, theirs.shares, le);
      missed = omega (arith, ap (λ (u : Part). u.misses) joined, ours.missed);
      totals = λ word. omega (
        arith,
        ints,
        ap (λ (u : Part). total_at word u.adds) joined,
        total-append (λ a. into word a) v.adds w.adds,
        ours.totals word,
        theirs.totals word,
        ap (adds_at word effect) pieces,
        adds_at-append effect word v.pieces w.pieces,
      );
      key = omega (arith, ap (λ (u : Part). u.key) joined, ours.key, theirs.key, ap (key_of effect) pieces, key_of-append effect v.pieces w.pieces, key_of-le effect w.pieces);
      tally = ap (λ x. plus x t) ours.tally ∙ (ap (plus (tally_of effect v.pieces)) theirs.tally ∙ (sym (tally_of-append effect v.pieces w.pieces) ∙ ap (tally_of effect) (sym pieces)));
      within = IsWithin-weaker (MAX_TALLY * length v.pieces + MAX_TALLY * length w.pieces) (MAX_TALLY * length new.pieces) (plus s t) (omega (arith, long)) (IsWithin-plus (MAX_TALLY * length v.pieces) (MAX_TALLY * length w.pieces) s t ours.within theirs.within);
      known = knows;
    }
