-- What the disk over real files counts.
use Rattle.std.specs.Prelude.{ℕ, List, Result, Ok, Err}
use Rattle.outside.specs.Memory.{next}
use Rattle.disk_outside.specs.declared.disk.DiskRefusal.{DiskRefusal}
use Rattle.disk_outside.specs.declared.disk.DiskRefusal.TheVariants as no
use Rattle.disk_outside.specs.declared.disk.Failed.{Failed}

-- the count of failures after a read, by its answer
abbrev pub read_faults_after : ℕ → Result (List ℕ) DiskRefusal → ℕ
read_faults_after faults (Ok bytes) = faults
read_faults_after faults (Err no.TooLong) = faults
read_faults_after faults (Err no.Faulted) = next faults
read_faults_after faults (Err no.NoMemory) = faults

-- the count of failures after a call that changes a file, by its answer
abbrev pub faults_after : ℕ → Result Unit Failed → ℕ
faults_after faults (Ok unit) = faults
faults_after faults (Err why) = next faults
