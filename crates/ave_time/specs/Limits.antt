-- The limits of windows as numbers.
use Rattle.std.specs.Prelude.{◌≡◌, ◌^◌}
use Rattle.ave_time.specs.declared.limits.TheConstants.{MAX_END, MAX_REPEAT, MAX_SAMPLE, MAX_VALUES}

pub record WindowLimits : Type 0 where
  pub samples : MAX_REPEAT ≡ 2 ^ 24
  pub values : MAX_VALUES ≡ 255
  pub last_end : MAX_END ≡ 2 ^ 40
  pub sample : MAX_SAMPLE ≡ 2 ^ 98
