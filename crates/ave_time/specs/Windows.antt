-- Windows of averages over time: their sample steps, and what a push does.
use Rattle.std.specs.Prelude.{◌≡◌, ◌<◌, ◌≤◌, ◌+◌, ◌-◌, ◌*◌, ◌/◌, ◌%◌, ℕ, zero, suc, ℤ, pos, ◌+ℤ◌, unsigned_abs, nat_eq, nat_lt, Bool, List, [], ◌∷◌, All, length, map, replicate, if◌then◌else◌}
use Rattle.std.specs.List.{filter, list_any}
use Rattle.fx_num.specs.Rounding.{div_rounded}
use Rattle.box_geo.specs.declared.limits.TheConstants.{MAX_STEP}
use Rattle.ave_time.specs.declared.limits.TheConstants.{MAX_END, MAX_REPEAT, MAX_SAMPLE, MAX_VALUES}
use Rattle.ave_time.specs.declared.parts.WindowParts.{WindowParts}

-- the rules of the three numbers: there is a sample each `every` steps, `repeat` of them end at a multiple of `freq`
pub record IsSchedule (every repeat freq : ℕ) : Type 0 where
  pub apart : 0 < every
  pub some : 0 < repeat
  pub few : repeat ≤ MAX_REPEAT
  pub whole : freq % every ≡ 0
  pub room : every * repeat ≤ freq
  pub short : freq ≤ MAX_STEP

-- the steps that lie k times `every` before the end, for each k below the number, the earliest first
abbrev pub sample_steps : ℕ → ℕ → ℕ → List ℕ
sample_steps end every zero = []
sample_steps end every (suc k) = (end - k * every) ∷ sample_steps end every k

-- whether the step is a sample step of the window
abbrev pub is_sample : WindowParts → ℕ → Bool
is_sample p step = list_any (λ s. nat_eq s step) (sample_steps p.end p.every p.repeat)

-- how many sample steps of the window are below the step
abbrev pub samples_below : WindowParts → ℕ → ℕ
samples_below p step = length (filter (λ s. nat_lt s step) (sample_steps p.end p.every p.repeat))

-- from the first sample step of a window to its end
abbrev pub span : ℕ → ℕ → ℕ
span every repeat = every * repeat - every

-- a sum of so many samples is no greater than they allow
abbrev pub IsSmall : ℕ → ℤ → Type 0
IsSmall samples sum = unsigned_abs sum ≤ samples * MAX_SAMPLE

-- a window's numbers keep to their rules
pub record IsWindow (p : WindowParts) : Type 0 where
  pub schedule : IsSchedule p.every p.repeat p.freq
  pub whole : p.end % p.freq ≡ 0
  pub least : p.freq ≤ p.end
  pub greatest : p.end ≤ MAX_END
  pub begun : p.samples < p.repeat
  pub some : 0 < length p.sums
  pub few : length p.sums ≤ MAX_VALUES
  pub small : All (IsSmall p.samples) p.sums

-- the end of the first window whose samples all come after the step
abbrev pub first_end : ℕ → ℕ → ℕ → ℕ → ℕ
first_end every repeat freq step = freq * ((step + span every repeat) / freq) + freq

-- that window, before its first sample
abbrev pub first_window : ℕ → ℕ → ℕ → ℕ → ℕ → WindowParts
first_window every repeat freq values step = record {
  every = every;
  repeat = repeat;
  freq = freq;
  end = first_end every repeat freq step;
  samples = 0;
  sums = replicate values (pos 0);
}

-- its first sample comes after the step, and that of the window before it does not
pub record IsFirstAfter (step : ℕ) (p : WindowParts) : Type 0 where
  pub after : step + span p.every p.repeat < p.end
  pub first : p.end ≤ step + span p.every p.repeat + p.freq

-- sums with one value more in each
abbrev pub plus : List ℤ → List ℤ → List ℤ
plus [] values = []
plus (s ∷ sums) [] = s ∷ sums
plus (s ∷ sums) (v ∷ values) = (s +ℤ v) ∷ plus sums values

-- the averages: each sum over the number of samples of a whole window, rounded once
abbrev pub averages_of : ℕ → List ℤ → List ℤ
averages_of repeat sums = map (λ s. div_rounded s (pos repeat)) sums

-- a window with one sample more
abbrev pub sampled : WindowParts → List ℤ → WindowParts
sampled p values = record p { samples = p.samples + 1; sums = plus p.sums values }

-- the window behind this one
abbrev pub next_window : WindowParts → WindowParts
next_window p = record p { end = p.end + p.freq; samples = 0; sums = replicate (length p.sums) (pos 0) }

-- a window as contracts see it: its numbers, and the averages of the last window that ended
pub record WindowState : Type 0 where
  pub parts : WindowParts
  pub averages : List ℤ

-- the window after a push: at its end the next one, at any other sample step with one sample more, else as it was
abbrev pub after_push : WindowParts → ℕ → List ℤ → WindowParts
after_push p step values = if nat_eq step p.end then next_window p else (if is_sample p step then sampled p values else p)

-- the averages after a push: at the window's end those with these last values, else as they were
abbrev pub averages_after : WindowState → ℕ → List ℤ → List ℤ
averages_after w step values = if nat_eq step w.parts.end then averages_of w.parts.repeat (plus w.parts.sums values) else w.averages
