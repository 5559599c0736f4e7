-- Ids in strictly rising order, and what stands above an id.
use Rattle.std.proofs.Common.{◌<◌, ℕ, zero, suc, List, [], ◌∷◌, length, get_or, arith}
use Rattle.box_geo.specs.Ids.{Rises}

-- all ids of a list are above one
abbrev pub Above : ℕ → List ℕ → Type 0
Above z ids = (i : ℕ) → i < length ids → z < get_or ids i 0

pub above_none : (z : ℕ) → Above z []
above_none z i h = omega arith

pub rises_above : (id : ℕ) (ids : List ℕ) → Rises (id ∷ ids) → Above id ids
rises_above id ids all i w = all 0 (suc i) (omega arith) (omega arith)

pub rises_tail : (id : ℕ) (ids : List ℕ) → Rises (id ∷ ids) → Rises ids
rises_tail id ids all i j h w = all (suc i) (suc j) (omega arith) (omega arith)

pub rises_none : Rises []
rises_none i j h w = absurd (omega arith)

pub rises_cons : (id : ℕ) (ids : List ℕ) → Above id ids → Rises ids → Rises (id ∷ ids)
rises_cons id ids above all i zero h w = absurd (omega arith)
rises_cons id ids above all zero (suc j) h w = above j (omega arith)
rises_cons id ids above all (suc i) (suc j) h w = all i j (omega arith) (omega arith)
