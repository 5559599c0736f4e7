-- A table in which no type is set.
use Rattle.std.proofs.Common.{◌<◌, ℕ, Option, None, IfSome, get_or, replicate}
use Rattle.std.proofs.lemmas.List.{get_or-replicate}

pub none_is_set : {X : Type 0} (P : X → Type 0) (n : ℕ) → (k : ℕ) (d : Option X) → k < n → IfSome (get_or (replicate n None) k d) P
none_is_set P n k d lt = rw (get_or-replicate n k None d lt) tt
