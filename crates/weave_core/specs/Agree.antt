-- How the shared words and what the holders have agree, at every moment.
use Rattle.std.specs.Prelude.{◌≡◌, ℕ, ◌+◌, ◌^◌, ◌<◌, ◌≤◌, min, List, length, ℤ, slice_index, sum_by, All}
use Rattle.std.specs.Int.{cast_signed, int_wrap}
use mir.Syntax.{w64}
use Rattle.sums.specs.Totals.{total}
use Rattle.weave_core.specs.declared.part.Part.{Part}
use Rattle.weave_core.specs.declared.limits.TheConstants.{SHARES, NO_KEY}
use Rattle.weave_core.specs.Parts.{numbers_below, total_at, least, fresh}

-- the word holds the sum modulo 2^64: read as a signed number it is the sum, wrapped to 64 bits
pub record Wraps (word : ℕ) (sum : ℤ) : Type 0 where
  pub small : word < 2 ^ 64
  pub is : cast_signed w64 word ≡ int_wrap w64 sum

-- a holder without a share has nothing; none has more misses than shares
pub record IsSound (v : Part) : Type 0 where
  pub idle : v.shares ≡ 0 → v ≡ fresh 0
  pub misses : v.misses ≤ v.shares
  pub key : v.key ≤ NO_KEY

-- the list has the numbers below n, each once: whatever each number weighs, the list weighs what these do
abbrev pub HasEachBelow : ℕ → List ℕ → Type 0
HasEachBelow n held = (weight : ℕ → ℕ) → sum_by weight held ≡ sum_by weight (numbers_below n)

-- the holders together have the numbers below n, each once
abbrev pub HoldEachBelow : ℕ → List Part → Type 0
HoldEachBelow n parts = (weight : ℕ → ℕ) → sum_by (λ v. sum_by weight v.pieces) parts ≡ sum_by weight (numbers_below n)

-- Word 0 counts claims, word 1 is the fault word, and `count` force words follow.
-- The holders have all shares, and each is sound.
-- They hold the pieces that the counter has passed, each once, and the counter is what they hold and what they missed.
-- Each force word is the sum of what they added to it, and the fault word is the least of their keys.
pub record Agree (pieces count : ℕ) (words : List ℕ) (parts : List Part) : Type 0 where
  pub long : length words ≡ count + 2
  pub shares : sum_by (λ v. v.shares) parts ≡ SHARES
  pub sound : All IsSound parts
  pub once : HoldEachBelow (min (slice_index words 0) pieces) parts
  pub counter : slice_index words 0 ≡ sum_by (λ v. length v.pieces) parts + sum_by (λ v. v.misses) parts
  pub forces : (word : ℕ) → word < count → Wraps (slice_index words (word + 2)) (total (λ v. total_at word v.adds) parts)
  pub fault : slice_index words 1 ≡ least (λ v. v.key) parts
