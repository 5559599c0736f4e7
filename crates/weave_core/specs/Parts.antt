-- What a holder has, and how each step changes it.
use Rattle.std.specs.Prelude.{ℕ, zero, suc, ◌+◌, ◌-◌, min, List, [], ◌∷◌, ◌++◌, ℤ, neg_ℤ, nat_lt, if◌then◌else◌}
use Rattle.sums.specs.Totals.{total, into}
use Rattle.weave_core.specs.declared.part.Part.{Part}
use Rattle.weave_core.specs.declared.limits.TheConstants.{NO_KEY}

-- the numbers below n, in order
abbrev pub numbers_below : ℕ → List ℕ
numbers_below zero = []
numbers_below (suc n) = numbers_below n ++ n ∷ []

-- the sum of those adds that go to the word
abbrev pub total_at : ℕ → List (ℕ × ℤ) → ℤ
total_at word adds = total (into word) adds

-- the least f of the elements, or what stands for no key where there is none
abbrev pub least : {X : Type 0} → (X → ℕ) → List X → ℕ
least f [] = NO_KEY
least f (x ∷ xs) = min (f x) (least f xs)

-- with so many shares, and nothing else
abbrev pub fresh : ℕ → Part
fresh shares = record { shares = shares; pieces = []; misses = 0; adds = []; key = NO_KEY }

-- after a claim that drew the number n, of so many pieces: the piece n, or a miss
abbrev pub claimed : ℕ → Part → ℕ → Part
claimed pieces v n = if nat_lt n pieces then record v { pieces = v.pieces ++ n ∷ [] } else record v { misses = v.misses + 1 }

-- after an add of a number to a word
abbrev pub added : Part → ℕ → ℤ → Part
added v word value = record v { adds = v.adds ++ (word, value) ∷ [] }

-- after a lowering of the fault word to a key
abbrev pub lowered : Part → ℕ → Part
lowered v key = record v { key = min v.key key }

-- after a word was read and set to 0: what was added to it is taken off again
abbrev pub collected : Part → ℕ → Part
collected v word = added v word (neg_ℤ (total_at word v.adds))

-- without pieces and misses, as for a new phase
abbrev pub unclaimed : Part → Part
unclaimed v = record v { pieces = []; misses = 0 }

-- without a key, as for a new phase
abbrev pub unkeyed : Part → Part
unkeyed v = record v { key = NO_KEY }

-- without the shares that it gives away
abbrev pub giving : ℕ → Part → Part
giving shares v = record v { shares = v.shares - shares }

-- what two have together
abbrev pub both : Part → Part → Part
both v w = record { shares = v.shares + w.shares; pieces = v.pieces ++ w.pieces; misses = v.misses + w.misses; adds = v.adds ++ w.adds; key = min v.key w.key }
