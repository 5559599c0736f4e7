-- Fault keys: of several faults of one phase, that of the least number ends the run.
use Rattle.std.specs.Prelude.{◌+◌, ◌-◌, ◌*◌, ◌^◌, ◌<◌, ◌≡◌, ◌⊎◌, ℕ}
use Rattle.box_geo.specs.declared.fault.FaultKey.{FaultKey}
use Rattle.box_geo.specs.declared.fault.FaultPhase.{FaultPhase}
use Rattle.box_geo.specs.declared.fault.FaultPhase.TheVariants.{Drift, Forces, Kick}
use Rattle.box_geo.specs.declared.fault.FaultKind.{FaultKind}
use Rattle.box_geo.specs.declared.fault.FaultKind.TheVariants.{Close, Bond, Angle, Force, Speed, Lost, Image}

abbrev pub phase_number : FaultPhase → ℕ
phase_number Drift = 1
phase_number Forces = 2
phase_number Kick = 3

abbrev pub kind_number : FaultKind → ℕ
kind_number Close = 1
kind_number Bond = 2
kind_number Angle = 3
kind_number Force = 4
kind_number Speed = 5
kind_number Lost = 6
kind_number Image = 7

-- phase, kind and the two ids, in this order
abbrev pub key_word : FaultKey → ℕ
key_word k = k.phase * 2 ^ 56 + k.kind * 2 ^ 48 + k.a * 2 ^ 24 + k.b

-- the numbers of a key fit their places in its word; the phase is at the top and has no bound
abbrev pub FitsWord : FaultKey → Type 0
FitsWord k = (k.kind < 2 ^ 8) × (k.a < 2 ^ 24) × (k.b < 2 ^ 24)

-- m is below n, or they are equal and the rest decides
abbrev pub IsLess : ℕ → ℕ → Type 0 → Type 0
IsLess m n rest = (m < n) ⊎ ((m ≡ n) × rest)

-- the order of keys: by phase, then kind, then the ids
abbrev pub ComesBefore : FaultKey → FaultKey → Type 0
ComesBefore k l = IsLess k.phase l.phase (IsLess k.kind l.kind (IsLess k.a l.a (k.b < l.b)))

-- no fault: greater than the key of every phase and kind there is
abbrev pub no_fault : ℕ
no_fault = 2 ^ 64 - 1
