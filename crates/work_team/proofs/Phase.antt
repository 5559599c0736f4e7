-- What stands after a phase, where the seat that did it has all shares again.
use Rattle.std.proofs.Common.{◌≡◌, ℕ, zero, suc, ◌*◌, ◌<◌, ◌≤◌, Bool, true, false, cond, ◌==◌, List, [], ◌∷◌, ℤ, pos, All, sum_by, count_by, unsigned_abs, ap, ◌∙◌, arith}
use Rattle.std.proofs.lemmas.Int.{ints, fits_signed_from_abs}
use Rattle.std.proofs.lemmas.List.Sums.{sum_by-cons, sum_by-append}
use Rattle.std.proofs.lemmas.List.Elements.{All-head, All-tail}
use mir.Syntax.{w64}
use Rattle.sums.specs.Totals.{total, into}
use Rattle.sums.proofs.Totals.{total-append}
use Rattle.weave_core.specs.declared.part.Part.{Part}
use Rattle.weave_core.specs.declared.limits.TheConstants.{SHARES, MAX_ADD}
use Rattle.weave_core.specs.Parts.{numbers_below, total_at}
use Rattle.weave_core.specs.Agree.{HasEachBelow, HoldEachBelow}
use Rattle.weave_core.specs.Machine.{IsAdd}
use Rattle.weave_core.proofs.Lists.{least-le}
use Rattle.weave_core.proofs.Ends.{total_of_all, least_of_all}
use Rattle.force_board.specs.declared.board.Board.{Board}
use Rattle.force_board.specs.Seats.{pieces_of, words_of}
use Rattle.work_team.specs.declared.tally.Tally.{Tally}
use Rattle.work_team.specs.Effects.{Effect, AreSmall, adds_at, add_count, tally_of, every_piece, Worked, IsClear, IsDone, Reads}
use Rattle.work_team.proofs.TallyLemmas.{same_tally}

-- ---- how large the sum of all adds to a word is

into_within : (word : ℕ) (add : ℕ × ℤ) → unsigned_abs add.1 ≤ MAX_ADD → unsigned_abs (into word add) ≤ MAX_ADD * cond (add.0 == word) 1 0
into_within word add small = by_test (add.0 == word)
  where
    by_test : (b : Bool) → unsigned_abs (cond b add.1 (pos 0)) ≤ MAX_ADD * cond b 1 0
    by_test true = omega (arith, small)
    by_test false = omega arith

total_at_within : (word words : ℕ) (adds : List (ℕ × ℤ)) → All (IsAdd words) adds → unsigned_abs (total_at word adds) ≤ MAX_ADD * count_by (λ (add : ℕ × ℤ). add.0 == word) adds
total_at_within word words [] all = omega arith
total_at_within word words (add ∷ adds) all =
    omega (
      arith,
      ints,
      into_within word add (All-head (IsAdd words) add adds all).small,
      sum_by-cons (λ (a : ℕ × ℤ). cond (a.0 == word) 1 0) add adds,
      total_at_within word words adds (All-tail (IsAdd words) add adds all),
    )

adds_at_within : (word words : ℕ) (effect : ℕ → Effect) (n : ℕ) → ((piece : ℕ) → piece < n → All (IsAdd words) (effect piece).adds)
    → unsigned_abs (adds_at word effect (numbers_below n)) ≤ MAX_ADD * add_count word effect (numbers_below n)
adds_at_within word words effect zero small = omega arith
adds_at_within word words effect (suc n) small =
    let count : ℕ → ℕ = λ piece. count_by (λ (add : ℕ × ℤ). add.0 == word) (effect piece).adds in
    omega (
      arith,
      ints,
      total-append (λ piece. total_at word (effect piece).adds) (numbers_below n) (n ∷ []),
      sum_by-append count (numbers_below n) (n ∷ []),
      sum_by-cons count n [],
      total_at_within word words (effect n).adds (small n (omega arith)),
      adds_at_within word words effect n (λ piece lt. small piece (omega (arith, lt))),
    )

-- ---- all pieces

module _ (board : Board) (effect : ℕ → Effect) (old new : Part) (sum : Tally) (worked : Worked (pieces_of board) effect old new sum) (all : new.shares ≡ SHARES) where
  each : HasEachBelow (pieces_of board) new.pieces
  each = worked.known.whole all worked.missed

  hold : HoldEachBelow (pieces_of board) (new ∷ [])
  hold weight = omega (arith, each weight, sum_by-cons (λ (v : Part). sum_by weight v.pieces) new [])

  total_all : (f : ℕ → ℤ) → total f new.pieces ≡ total f (every_piece board)
  total_all f = omega (arith, ints, total_of_all (pieces_of board) (new ∷ []) hold f)

  pub done : IsDone board effect old new
  done = record {
    shares = all;
    pieces = each;
    totals = λ word. omega (arith, ints, worked.totals word, total_all (λ piece. total_at word (effect piece).adds));
    key = omega (arith, worked.key, least_of_all (pieces_of board) (new ∷ []) hold (λ piece. (effect piece).key), least-le (λ piece. (effect piece).key) new.pieces);
  }

  pub tally_all : sum ≡ tally_of effect (every_piece board)
  tally_all =
      worked.tally
      ∙ same_tally _ _
      (total_all (λ piece. (effect piece).tally.pair))
      (total_all (λ piece. (effect piece).tally.bond))
      (total_all (λ piece. (effect piece).tally.angle))
      (total_all (λ piece. (effect piece).tally.virial))

  pub reads : AreSmall board effect → IsClear (words_of board) old → Reads board effect new
  reads small clear =
      let words : (word : ℕ) → word < words_of board → total_at word new.adds ≡ adds_at word effect (every_piece board) = λ word lt.
      omega (arith, ints, done.totals word, clear.totals word lt) in record {
        words = words;
        fits = λ word lt few. fits_signed_from_abs w64 (total_at word new.adds) (omega (arith, few, ap unsigned_abs (words word lt), adds_at_within word (words_of board) effect (pieces_of board) small));
        fault = omega (arith, done.key, clear.key, least-le (λ piece. (effect piece).key) (every_piece board));
      }
