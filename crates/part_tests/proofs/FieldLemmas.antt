-- The force field of a table with one pair.
use Rattle.std.proofs.Common.{◌≤◌, Bool, true, false, cond, unsigned_abs, Some, None, IfSome, [], ◌∷◌, arith}
use Rattle.std.specs.Option.{option_map}
use Rattle.pair_lj.specs.declared.pair_settings.PairCoefficients.{PairCoefficients}
use Rattle.pair_lj.specs.Pairs.{is_of, numbers_at, numbers_of}
use Rattle.serial_step.specs.Forces.{field_of}
use Rattle.serial_step.specs.Pairs.{IsReach}

-- it reaches as far as the pair's cutoff
pub one_reached : (p : PairCoefficients) → IsReach (field_of (p ∷ [])) (unsigned_abs p.cutoff)
unfolding numbers_at
one_reached p i j = by_test (is_of i j p)
  where
    by_test : (b : Bool) → IfSome (option_map numbers_of (cond b (Some p) None)) (λ n. n.cutoff ≤ unsigned_abs p.cutoff)
    by_test true = omega arith
    by_test false = tt
