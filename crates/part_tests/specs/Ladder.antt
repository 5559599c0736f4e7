-- Work for a test, the heavier the later the piece.
use Rattle.std.specs.Prelude.{ℕ, ◌+◌, ◌-◌, [], ◌∷◌, pos, neg_ℤ}
use Rattle.work_team.specs.Effects.{Effect}

-- Piece n adds n + 1 to word 0 and takes it from word 1. Its key is the less the later it is.
abbrev pub ladder : ℕ → Effect
ladder piece = record {
  adds = (0, pos (piece + 1)) ∷ (1, neg_ℤ (pos (piece + 1))) ∷ [];
  key = 1000 - piece;
  terms = 1;
  tally = record { pair = pos (piece + 1); bond = pos 1; angle = pos 0; virial = neg_ℤ (pos (piece + 1)) };
}
