-- What a disk tells: what a read gives, and what a crash leaves.
use Rattle.std.specs.Prelude.{◌≡◌, ◌≢◌, ◌⊎◌, ◌<◌, ◌≤◌, ◌+◌, ℕ, max, List, [], ◌++◌, length, take, drop, Result, Ok, Err}
use Rattle.disk_outside.specs.declared.disk.TheConstants.{MAX_READ}
use Rattle.disk_outside.specs.declared.disk.DiskRefusal.{DiskRefusal}
use Rattle.disk_outside.specs.declared.disk.DiskRefusal.TheVariants.{TooLong, Faulted, NoMemory}

-- the bytes of a file, or of its name
abbrev pub Bytes : Type 0
Bytes = List ℕ

-- a whole disk at one moment: by name the bytes of each file; a file that is missing is an empty one
abbrev pub Image : Type 0
Image = Bytes → Bytes

-- a disk as contracts see it
pub record View : Type 1 where
  -- by name, what a read gives
  pub seen : Bytes → Bytes
  -- by name, what a crash now may leave
  pub leaves : Bytes → Bytes → Type 0
  -- a number that never falls
  pub moment : ℕ
  -- what a crash at some moment from that one on might have left, all files at one and the same moment
  pub left : ℕ → Image → Type 0
  -- how often the disk has failed
  pub faults : ℕ

-- how many bytes a file has, by what a read gives
abbrev pub size : View → Bytes → ℕ
size v name = length (v.seen name)

-- the view of a disk that tells its count of failures and nothing else
abbrev pub untold : ℕ → View
untold faults = record { seen = λ name. []; leaves = λ name c. Unit {0}; moment = 0; left = λ t image. Unit {0}; faults = faults }

-- a crash now may leave this, of several files in every combination
abbrev pub MayBe : View → Image → Type 0
MayBe v image = (name : Bytes) → v.leaves name (image name)

-- a crash now leaves of this file just what a read gives
abbrev pub IsSettled : View → Bytes → Type 0
IsSettled v name = (c : Bytes) → v.leaves name c → c ≡ v.seen name

-- what holds of the view of each disk: a crash now is a crash from any earlier moment on, one from now on is a crash
-- now, and what a read gives is one of the images
pub record IsOrderly (v : View) : Type 0 where
  pub counts_now : (t : ℕ) (image : Image) → t ≤ v.moment → MayBe v image → v.left t image
  pub only_now : (image : Image) → v.left v.moment image → MayBe v image
  pub is_one : (name : Bytes) → v.leaves name (v.seen name)

-- the file with these bytes at this place
abbrev pub written : Bytes → ℕ → Bytes → Bytes
written old at bytes = take at old ++ bytes ++ drop (at + length bytes) old

-- after a write of n bytes that a crash tears: any bytes in the range and past the old end, the others as they were
pub record Torn (at n : ℕ) (old new : Bytes) : Type 0 where
  pub before : take at new ≡ take at old
  pub after : drop (at + n) new ≡ drop (at + n) old
  pub no_shorter : length old ≤ length new
  pub no_longer : length new ≤ max (length old) (at + n)

-- after a cut that a crash tears: any length from the old one down to that of the cut, and any bytes in what it took off
pub record Cut (n : ℕ) (old new : Bytes) : Type 0 where
  pub front : take n new ≡ take n old
  pub no_longer : length new ≤ length old

-- no byte changes
abbrev pub Unmoved : Bytes → Bytes → Type 0
Unmoved old new = new ≡ old

-- of this file nothing changes: neither what a read gives nor what a crash may leave
pub record IsSame (name : Bytes) (old new : View) : Type 0 where
  pub seen : new.seen name ≡ old.seen name
  pub kept : (c : Bytes) → old.leaves name c → new.leaves name c
  pub only : (c : Bytes) → new.leaves name c → old.leaves name c

-- time goes on: a crash since t might have left what it might have left before, or what it may leave now
pub record Elapses (old new : View) : Type 0 where
  pub later : old.moment ≤ new.moment
  pub nothing_else : (t : ℕ) (image : Image) → t ≤ old.moment → new.left t image → old.left t image ⊎ MayBe new image
  pub keeps : (t : ℕ) (image : Image) → t ≤ old.moment → old.left t image → new.left t image

-- a call on one file: each image of it is an old one after the step, every other file is as it was, and time goes on
pub record Steps (name : Bytes) (step : Bytes → Bytes → Type 0) (old new : View) : Type 0 where
  pub here : (c : Bytes) → new.leaves name c → (d : Bytes) × old.leaves name d × step d c
  pub others : (other : Bytes) → other ≢ name → IsSame other old new
  pub time : Elapses old new

-- a call that changes no file
pub record Stays (old new : View) : Type 0 where
  pub all : (name : Bytes) → IsSame name old new
  pub time : Elapses old new

-- a read answers so, where these bytes stand under the name: it gives them all, if they are not more than `MAX_READ`
abbrev pub Reads : Bytes → Result Bytes DiskRefusal → Type 0
Reads had (Ok bytes) = (bytes ≡ had) × (length had ≤ MAX_READ)
Reads had (Err TooLong) = MAX_READ < length had
Reads had (Err Faulted) = Unit {0}
Reads had (Err NoMemory) = Unit {0}
