-- What the work on a piece does, and what the work on all pieces comes to.
use Rattle.std.specs.Prelude.{◌≡◌, ℕ, ◌*◌, ◌^◌, ◌<◌, min, List, [], length, ℤ, pos, ◌+ℤ◌, All, sum_by, count_by, ◌==◌, FitsSigned}
use mir.Syntax.{w64}
use Rattle.sums.specs.Totals.{total}
use Rattle.weave_core.specs.declared.part.Part.{Part}
use Rattle.weave_core.specs.declared.limits.TheConstants.{SHARES, MAX_ADD, NO_KEY}
use Rattle.weave_core.specs.Parts.{numbers_below, total_at, least}
use Rattle.weave_core.specs.Agree.{HasEachBelow}
use Rattle.weave_core.specs.Machine.{IsAdd}
use Rattle.force_board.specs.declared.board.Board.{Board}
use Rattle.force_board.specs.Seats.{pieces_of, words_of}
use Rattle.force_board.specs.Steps.{Knows}
use Rattle.work_team.specs.declared.tally.Tally.{Tally}
use Rattle.work_team.specs.declared.limits.TheConstants.{MAX_TALLY}
use Rattle.work_team.specs.Tallies.{IsWithin}

-- ---- one piece

-- What the work on a piece does: its adds to force words, the key of its worst fault (NO_KEY: none), how many pair
-- terms it evaluates, and its tally.
pub record Effect : Type 0 where
  pub adds : List (ℕ × ℤ)
  pub key : ℕ
  pub terms : ℕ
  pub tally : Tally

-- each add of each piece of the board is to one of its words, of a magnitude that is allowed
abbrev pub AreSmall : Board → (ℕ → Effect) → Type 0
AreSmall board effect = (piece : ℕ) → piece < pieces_of board → All (IsAdd (words_of board)) (effect piece).adds

-- A piece was worked on: totals grew by its adds, whatever their order, and the key was lowered to its key.
pub record Played (effect : Effect) (old new : Part) : Type 0 where
  pub shares : new.shares ≡ old.shares
  pub pieces : new.pieces ≡ old.pieces
  pub misses : new.misses ≡ old.misses
  pub totals : (word : ℕ) → total_at word new.adds ≡ total_at word old.adds +ℤ total_at word effect.adds
  pub key : new.key ≡ min old.key effect.key

-- ---- several pieces

-- what their adds bring to a word
abbrev pub adds_at : ℕ → (ℕ → Effect) → List ℕ → ℤ
adds_at word effect pieces = total (λ piece. total_at word (effect piece).adds) pieces

-- how many of their adds are to a word
abbrev pub add_count : ℕ → (ℕ → Effect) → List ℕ → ℕ
add_count word effect pieces = sum_by (λ piece. count_by (λ add. add.0 == word) (effect piece).adds) pieces

-- their least key
abbrev pub key_of : (ℕ → Effect) → List ℕ → ℕ
key_of effect pieces = least (λ piece. (effect piece).key) pieces

-- their terms
abbrev pub terms_of : (ℕ → Effect) → List ℕ → ℕ
terms_of effect pieces = sum_by (λ piece. (effect piece).terms) pieces

-- the sum of their tallies
abbrev pub tally_of : (ℕ → Effect) → List ℕ → Tally
tally_of effect pieces = record {
  pair = total (λ piece. (effect piece).tally.pair) pieces;
  bond = total (λ piece. (effect piece).tally.bond) pieces;
  angle = total (λ piece. (effect piece).tally.angle) pieces;
  virial = total (λ piece. (effect piece).tally.virial) pieces;
}

-- ---- workers

-- with no piece and no miss
pub record IsIdle (v : Part) : Type 0 where
  pub pieces : v.pieces ≡ []
  pub misses : v.misses ≡ 0

-- From an idle seat, pieces were drawn until there was a miss, and each that was drawn was worked on.
pub record Worked (count : ℕ) (effect : ℕ → Effect) (old new : Part) (sum : Tally) : Type 0 where
  pub shares : new.shares ≡ old.shares
  pub missed : 0 < new.misses
  pub totals : (word : ℕ) → total_at word new.adds ≡ total_at word old.adds +ℤ adds_at word effect new.pieces
  pub key : new.key ≡ min old.key (key_of effect new.pieces)
  pub tally : sum ≡ tally_of effect new.pieces
  pub within : IsWithin (MAX_TALLY * length new.pieces) sum
  pub known : Knows count new

-- ---- a phase

-- the pieces of a board
abbrev pub every_piece : Board → List ℕ
every_piece board = numbers_below (pieces_of board)

-- The seat that did a phase has all shares again, and every piece once. Totals grew by the adds of all pieces, and the
-- key is the lesser of its key before and the least key of all pieces.
pub record IsDone (board : Board) (effect : ℕ → Effect) (old new : Part) : Type 0 where
  pub shares : new.shares ≡ SHARES
  pub pieces : HasEachBelow (pieces_of board) new.pieces
  pub totals : (word : ℕ) → total_at word new.adds ≡ total_at word old.adds +ℤ adds_at word effect (every_piece board)
  pub key : new.key ≡ min old.key (key_of effect (every_piece board))

-- nothing is added to these words, and there is no key
pub record IsClear (words : ℕ) (v : Part) : Type 0 where
  pub totals : (word : ℕ) → word < words → total_at word v.adds ≡ pos 0
  pub key : v.key ≡ NO_KEY

-- What the holder of all shares reads after a phase: in each word the sum of all adds of all pieces, and in the fault
-- word the least of all keys. The sum fits the word where the adds to it are few enough.
pub record Reads (board : Board) (effect : ℕ → Effect) (v : Part) : Type 0 where
  pub words : (word : ℕ) → word < words_of board → total_at word v.adds ≡ adds_at word effect (every_piece board)
  pub fits : (word : ℕ) → word < words_of board → MAX_ADD * add_count word effect (every_piece board) < 2 ^ 63 → FitsSigned w64 (total_at word v.adds)
  pub fault : v.key ≡ key_of effect (every_piece board)
