-- What the test's work does to a seat, and that its sums fit the words.
use Rattle.std.proofs.Common.{◌≡◌, ℕ, zero, suc, ◌+◌, ◌-◌, ◌*◌, ◌^◌, ◌<◌, ◌≤◌, [], ◌∷◌, ◌==◌, ℤ, pos, neg_ℤ, count_by, ap, arith}
use Rattle.std.proofs.lemmas.Int.{ints}
use Rattle.std.proofs.lemmas.List.Sums.{sum_by-cons, sum_by-append, count_by-le-length}
use Rattle.weave_core.specs.declared.part.Part.{Part}
use Rattle.weave_core.specs.declared.limits.TheConstants.{SHARES, MAX_ADD, MAX_PIECES}
use Rattle.weave_core.specs.Parts.{numbers_below, total_at, fresh, added, lowered, collected}
use Rattle.weave_core.proofs.Steps.{total_at-added}
use Rattle.force_board.specs.declared.board.Board.{Board}
use Rattle.force_board.specs.Seats.{pieces_of}
use Rattle.work_team.specs.Effects.{Played, IsClear, add_count, every_piece}
use Rattle.part_tests.specs.Ladder.{ladder}

pub ladder_played : (piece : ℕ) (old new : Part) → new ≡ lowered (added (added old 1 (neg_ℤ (pos (piece + 1)))) 0 (pos (piece + 1))) (1000 - piece) → Played (ladder piece) old new
ladder_played piece old new is =
    let first : Part = added old 1 (neg_ℤ (pos (piece + 1))) in record {
      shares = ap (λ (v : Part). v.shares) is;
      pieces = ap (λ (v : Part). v.pieces) is;
      misses = ap (λ (v : Part). v.misses) is;
      totals = λ word. omega (arith, ints, ap (λ (v : Part). total_at word v.adds) is, total_at-added first word 0 (pos (piece + 1)), total_at-added old word 1 (neg_ℤ (pos (piece + 1))));
      key = ap (λ (v : Part). v.key) is;
    }

pub clear_at_first : (words : ℕ) (v : Part) → v ≡ fresh SHARES → IsClear words v
clear_at_first words v is = record { totals = λ word lt. ap (λ (u : Part). total_at word u.adds) is; key = ap (λ (u : Part). u.key) is }

-- two adds a piece
count_below : (word n : ℕ) → add_count word ladder (numbers_below n) ≤ 2 * n
count_below word zero = omega arith
count_below word (suc n) =
    let count : ℕ → ℕ = λ piece. count_by (λ (add : ℕ × ℤ). add.0 == word) (ladder piece).adds in
    omega (
      arith,
      sum_by-append count (numbers_below n) (n ∷ []),
      sum_by-cons count n [],
      count_by-le-length (λ (add : ℕ × ℤ). add.0 == word) (ladder n).adds,
      count_below word n,
    )

pub few_adds : (board : Board) → pieces_of board ≤ MAX_PIECES → (word : ℕ) → MAX_ADD * add_count word ladder (every_piece board) < 2 ^ 63
few_adds board few word = omega (arith, few, count_below word (pieces_of board))

-- what is taken from word 0 leaves word 1 alone
pub second_stays : (v w : Part) → w ≡ collected v 0 → total_at 1 w.adds ≡ total_at 1 v.adds
second_stays v w is = omega (arith, ints, ap (λ (u : Part). total_at 1 u.adds) is, total_at-added v 1 0 (neg_ℤ (total_at 0 v.adds)))
