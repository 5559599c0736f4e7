-- A disk in memory: its first files and the calls that changed them, and what these have come to.
use Rattle.std.specs.Prelude.{◌≡◌, ◌≤◌, ◌+◌, ◌||◌, ℕ, Bool, true, false, min, nat_lt, List, [], ◌∷◌, ◌++◌, length, take, drop, Option, Some, None, Result, Ok, Err}
use Rattle.std.specs.Str.{bytes_eq}
use Rattle.outside.specs.Memory.{next, fails_at}
use Rattle.outside.specs.Stock.{content}
use Rattle.outside.specs.declared.files.File.{File}
use Rattle.disk_outside.specs.Disk.{Bytes, View, Torn, Cut, Unmoved, written}
use Rattle.disk_outside.specs.declared.calls.Call.{Call}
use Rattle.disk_outside.specs.declared.calls.Kind.{Kind}
use Rattle.disk_outside.specs.declared.calls.Kind.TheVariants as kind
use Rattle.disk_outside.specs.declared.disk.DiskRefusal.{DiskRefusal}
use Rattle.disk_outside.specs.declared.disk.DiskRefusal.TheVariants as no
use Rattle.disk_outside.specs.declared.disk.Failed.{Failed}

-- a call that was made on a file: its number among all of the disk, the first being 0, and what it is: a write of the
-- bytes at the place, a cut to that length, or a sync
pub record Op : Type 0 where
  pub number : ℕ
  pub kind : Kind
  pub name : Bytes
  pub at : ℕ
  pub bytes : Bytes

-- what a read gives after a call
abbrev pub changed : Kind → ℕ → Bytes → Bytes → Bytes
changed kind.Write at bytes old = written old (min at (length old)) bytes
changed kind.Cut at bytes old = take at old
changed kind.Sync at bytes old = old

-- what a call that a crash tears may do to what a crash left before it, where a read gave `seen`
abbrev pub tears : Kind → ℕ → Bytes → Bytes → Bytes → Bytes → Type 0
tears kind.Write at bytes seen = Torn (min at (length seen)) (length bytes)
tears kind.Cut at bytes seen = Cut at
tears kind.Sync at bytes seen = Unmoved

-- what a crash may leave after a call: after a write or a cut what it may leave of it, after a sync what a read gives
abbrev pub torn : Kind → ℕ → Bytes → Bytes → (Bytes → Type 0) → Bytes → Type 0
torn kind.Write at bytes seen leaves = λ c. (d : Bytes) × leaves d × Torn (min at (length seen)) (length bytes) d c
torn kind.Cut at bytes seen leaves = λ c. (d : Bytes) × leaves d × Cut at d c
torn kind.Sync at bytes seen leaves = λ c. c ≡ seen

-- what a read gives of a file after a call, on this file or on another
abbrev pub seen_step : Bool → Op → Bytes → Bytes
seen_step true op seen = changed op.kind op.at op.bytes seen
seen_step false op seen = seen

-- what a crash may leave of a file after a call, on this file or on another
abbrev pub leaves_step : Bool → Op → Bytes → (Bytes → Type 0) → Bytes → Type 0
leaves_step true op seen leaves = torn op.kind op.at op.bytes seen leaves
leaves_step false op seen leaves = leaves

-- what a read gives of a file after all these calls
abbrev pub seen_after : Bytes → List Op → Bytes → Bytes
seen_after name [] seen = seen
seen_after name (op ∷ ops) seen = seen_after name ops (seen_step (bytes_eq op.name name) op seen)

-- what a crash may leave of a file after all these calls
abbrev pub leaves_after : Bytes → List Op → Bytes → (Bytes → Type 0) → Bytes → Type 0
leaves_after name [] seen leaves = leaves
leaves_after name (op ∷ ops) seen leaves = leaves_after name ops (seen_step (bytes_eq op.name name) op seen) (leaves_step (bytes_eq op.name name) op seen leaves)

-- the bytes, or none where the file is missing
abbrev pub bytes_or_none : Option Bytes → Bytes
bytes_or_none None = []
bytes_or_none (Some bytes) = bytes

-- the bytes under a name in the first files
abbrev pub first_bytes : List File → Bytes → Bytes
first_bytes files name = bytes_or_none (content files name)

-- by name, what a read gives after these calls
abbrev pub seen_by : List File → List Op → Bytes → Bytes
seen_by files ops name = seen_after name ops (first_bytes files name)

-- by name, what a crash may leave after these calls; before them it leaves the first files
abbrev pub leaves_by : List File → List Op → Bytes → Bytes → Type 0
leaves_by files ops name = leaves_after name ops (first_bytes files name) (λ c. c ≡ first_bytes files name)

-- the view of such a disk; its moment is the number of the calls
abbrev pub view_after : List File → List Op → ℕ → View
view_after files ops faults = record {
  seen = seen_by files ops;
  leaves = leaves_by files ops;
  moment = length ops;
  left = λ t image. (k : ℕ) × (t ≤ k) × (k ≤ length ops) × ((name : Bytes) → leaves_by files (take k ops) name (image name));
  faults = faults;
}

-- the state of a disk in memory: its first files, the calls that changed them, the numbers of the calls that fail, how
-- many calls there were, the greatest cost, the cost so far, and how many calls failed
pub record MemState : Type 0 where
  pub files : List File
  pub calls : List Op
  pub fail : List ℕ
  pub made : ℕ
  pub reserve : ℕ
  pub used : ℕ
  pub faults : ℕ

abbrev pub view_of : MemState → View
view_of d = view_after d.files d.calls d.faults

-- what a call costs
abbrev pub cost : Op → ℕ
cost op = 1 + length op.name + length op.bytes

-- whether a call fails: it is one of the list, or would pass the reserve
abbrev pub fails : MemState → Op → Bool
fails d op = fails_at d.fail d.made || nat_lt d.reserve (d.used + cost op)

-- the disk after a call that is done
abbrev pub done : MemState → Op → MemState
done d op = record d { calls = d.calls ++ op ∷ []; made = next d.made; used = d.used + cost op }

-- the disk after a call that fails: it changes nothing but the counts
abbrev pub refused : MemState → MemState
refused d = record d { made = next d.made; faults = next d.faults }

-- a call is done, or fails, by its answer
abbrev pub Does : MemState → Op → Result Unit Failed → MemState → Type 0
Does old op (Ok unit) new = (fails old op ≡ false) × (new ≡ done old op)
Does old op (Err why) new = (fails old op ≡ true) × (new ≡ refused old)

-- the next call, where it is a write, a cut or a sync
abbrev pub writing : MemState → Bytes → ℕ → Bytes → Op
writing d name at bytes = record { number = d.made; kind = kind.Write; name = name; at = at; bytes = bytes }

abbrev pub cutting : MemState → Bytes → ℕ → Op
cutting d name at = record { number = d.made; kind = kind.Cut; name = name; at = at; bytes = [] }

abbrev pub syncing : MemState → Bytes → Op
syncing d name = record { number = d.made; kind = kind.Sync; name = name; at = 0; bytes = [] }

-- a read is counted, or fails, by its answer
abbrev pub Counts : MemState → Result Unit Failed → MemState → Type 0
Counts old (Ok unit) new = (fails_at old.fail old.made ≡ false) × (new ≡ record old { made = next old.made })
Counts old (Err why) new = (fails_at old.fail old.made ≡ true) × (new ≡ refused old)

-- whether a read answered that the disk failed
abbrev pub is_fault : Result Bytes DiskRefusal → Bool
is_fault (Ok bytes) = false
is_fault (Err no.TooLong) = false
is_fault (Err no.Faulted) = true
is_fault (Err no.NoMemory) = false

-- the disk after a read, by its answer
abbrev pub read_after : MemState → Result Bytes DiskRefusal → MemState
read_after d (Ok bytes) = record d { made = next d.made }
read_after d (Err no.TooLong) = record d { made = next d.made }
read_after d (Err no.Faulted) = refused d
read_after d (Err no.NoMemory) = record d { made = next d.made }

-- the calls that stand so in memory: names and bytes lie one after the other
abbrev pub ops_of : List Call → List ℕ → List Op
ops_of [] pool = []
ops_of (call ∷ calls) pool = record { number = call.number; kind = call.kind; name = take call.name pool; at = call.at; bytes = take call.bytes (drop call.name pool) } ∷ ops_of calls (drop call.bytes (drop call.name pool))

-- how many bytes these calls have there
abbrev pub pool_length : List Call → ℕ
pool_length [] = 0
pool_length (call ∷ calls) = call.name + call.bytes + pool_length calls
