-- What a crash at any moment of a piece of work leaves.
use Rattle.std.specs.Prelude.{◌≢◌, ◌⊎◌, ◌≤◌, ℕ}
use Rattle.disk_outside.specs.Disk.{Bytes, Image, View, IsSame}

-- a disk on which only this file is at work: it has T, and of the others a crash may leave what it may leave there
pub record Between (name : Bytes) (T : Bytes → Type 0) (v : View) (image : Image) : Type 0 where
  pub others : (other : Bytes) → other ≢ name → v.leaves other (image other)
  pub this : T (image name)

-- work on one file: at each moment since its start, and now, a crash leaves of the file something with T, and of every
-- other file what it might have left before
pub record Within (name : Bytes) (T : Bytes → Type 0) (old new : View) : Type 0 where
  pub later : old.moment ≤ new.moment
  pub now : (c : Bytes) → new.leaves name c → T c
  pub same : (other : Bytes) → other ≢ name → IsSame other old new
  pub since : (t : ℕ) (image : Image) → t ≤ old.moment → new.left t image → old.left t image ⊎ Between name T old image
  pub keeps : (t : ℕ) (image : Image) → t ≤ old.moment → old.left t image → new.left t image

-- what a crash might have left of the file before, or one of the things that were saved
abbrev pub OldOr : View → Bytes → (Bytes → Type 0) → Bytes → Type 0
OldOr v name Saved c = v.leaves name c ⊎ Saved c

-- a crash at each moment since the start of the work, and now, leaves a disk with P
pub record LeavesOnly (old new : View) (P : Image → Type 0) : Type 0 where
  pub later : old.moment ≤ new.moment
  pub each : (image : Image) → new.left old.moment image → P image
  -- for work that began earlier
  pub before : (t : ℕ) (image : Image) → t ≤ old.moment → new.left t image → old.left t image ⊎ P image
