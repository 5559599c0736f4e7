-- What each step of a seat tells: the seat's part before, the number found, and the part after.
use Rattle.std.specs.Prelude.{◌≡◌, ℕ, ◌+◌, ◌-◌, ◌<◌, ◌≤◌, length, FitsSigned, All}
use Rattle.std.specs.Int.{cast_signed}
use mir.Syntax.{w64}
use Rattle.atomic_table.specs.Table.{Me, Step}
use Rattle.weave_core.specs.declared.part.Part.{Part}
use Rattle.weave_core.specs.declared.limits.TheConstants.{SHARES, MAX_PIECES, NO_KEY}
use Rattle.weave_core.specs.Parts.{total_at, claimed, added, lowered, collected, unclaimed, unkeyed}
use Rattle.weave_core.specs.Agree.{HasEachBelow}

-- a seat's part, and the slots that it holds, of which there are none
abbrev pub Own : Type 0
Own = Me ℕ Part

-- What the board knows of a part: it has no more pieces than there are, which are not too many, its key is one, and with
-- all shares and a miss it has every piece, each once.
pub record Knows (pieces : ℕ) (v : Part) : Type 0 where
  pub few : length v.pieces ≤ pieces
  pub most : pieces ≤ MAX_PIECES
  pub low : v.key ≤ NO_KEY
  pub whole : v.shares ≡ SHARES → 0 < v.misses → HasEachBelow pieces v.pieces

-- a claim: the number found is drawn, and it is greater than every piece that the seat has
abbrev pub Claims : ℕ → Step ℕ → Own → ℕ → Own → Type 0
Claims pieces s v n w = (w ≡ (claimed pieces v.0 n, v.1)) × All (λ piece. piece < n) v.0.pieces × Knows pieces w.0

-- a look: nothing changes
abbrev pub Looks : ℕ → Step ℕ → Own → ℕ → Own → Type 0
Looks pieces s v n w = (w ≡ v) × Knows pieces v.0

-- the claims are counted: what is found is the number of pieces and of misses
abbrev pub Counts : Step ℕ → Own → ℕ → Own → Type 0
Counts s v n w = (w ≡ v) × (n ≡ length v.0.pieces + v.0.misses)

-- an add of the operand, read as a signed number, to the step's word; force words begin at word 2
abbrev pub Adds : Step ℕ → Own → ℕ → Own → Type 0
Adds s v n w = w ≡ (added v.0 (s.word - 2) (cast_signed w64 s.first), v.1)

-- a lowering to the operand
abbrev pub Lowers : Step ℕ → Own → ℕ → Own → Type 0
Lowers s v n w = w ≡ (lowered v.0 s.first, v.1)

-- a force word is taken: read as a signed number, what is found is the total, where that fits
abbrev pub Collects : Step ℕ → Own → ℕ → Own → Type 0
Collects s v n w =
    (w ≡ (collected v.0 (s.word - 2), v.1)) × (FitsSigned w64 (total_at (s.word - 2) v.0.adds) → cast_signed w64 n ≡ total_at (s.word - 2) v.0.adds)

-- the claims are forgotten
abbrev pub Unclaims : Step ℕ → Own → ℕ → Own → Type 0
Unclaims s v n w = w ≡ (unclaimed v.0, v.1)

-- the fault word is taken: what is found is the seat's key
abbrev pub Unkeys : Step ℕ → Own → ℕ → Own → Type 0
Unkeys s v n w = (w ≡ (unkeyed v.0, v.1)) × (n ≡ v.0.key)
