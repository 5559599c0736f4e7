-- What shows that a refusal had its cause: what contracts see of the outside objects before and after a call.
use Rattle.std.specs.Prelude.{◌≡◌, ◌≤◌, ◌+◌, ℕ, None, IfNone, IsTrue, OnOk, Result, Err}
use Rattle.meaning.specs.declared.refusal.Refusal.{Refusal}
use Rattle.meaning.specs.declared.refusal.Refusal.TheVariants.{DiskFault, NoMemory, NotBuilt, Range, ReadFault, WriteFault}
use Rattle.meaning.specs.declared.refusal.Refusal.TheVariants as why
use Rattle.meaning.specs.Answers.{is_absence}
use Rattle.outside.specs.Sent.{Pressed}
use Rattle.outside.specs.Stock.{Rose, Shelved}

-- what contracts see of what a call is lent: a shelf, a press, and of a disk how often it failed
pub record Outside : Type 0 where
  pub shelf : Shelved
  pub press : Pressed
  pub disk : ℕ

abbrev pub seen_of : Shelved → Pressed → ℕ → Outside
seen_of shelf press disk = record { shelf = shelf; press = press; disk = disk }

-- in place of what a call is not lent: counts that can't rise, so it never blames such a device
abbrev pub no_shelf : Shelved
no_shelf = record { stock = None; faults = 0; absent = 0 }

abbrev pub no_press : Pressed
no_press = record { sent = None; faults = 0 }

abbrev pub nothing_lent : Outside
nothing_lent = seen_of no_shelf no_press 0

abbrev pub press_alone : Pressed → Outside
press_alone press = seen_of no_shelf press 0

abbrev pub shelf_alone : Shelved → Outside
shelf_alone shelf = seen_of shelf no_press 0

-- a fault of a device comes only where its count rose; a file that a shelf missed which tells nothing, only where that count rose
abbrev pub Rests : Refusal → Outside → Outside → Type 0
Rests (why.Code code) old new = IsTrue (is_absence code) → IfNone old.shelf.stock (Rose old.shelf.absent new.shelf.absent)
Rests (Range key step) old new = Unit {0}
Rests ReadFault old new = Rose old.shelf.faults new.shelf.faults
Rests WriteFault old new = Rose old.press.faults new.press.faults
Rests DiskFault old new = Rose old.disk new.disk
Rests NoMemory old new = Unit {0}
Rests NotBuilt old new = Unit {0}

-- counts never fall, and a shelf keeps what stands on it
pub record Kept (old new : Outside) : Type 0 where
  pub stock : new.shelf.stock ≡ old.shelf.stock
  pub reads : old.shelf.faults ≤ new.shelf.faults
  pub absences : old.shelf.absent ≤ new.shelf.absent
  pub writes : old.press.faults ≤ new.press.faults
  pub saves : old.disk ≤ new.disk

-- a count of faults stays where the answer does not blame the device
abbrev pub ReadsStay : Outside → Outside → Type 0
ReadsStay old new = new.shelf.faults ≡ old.shelf.faults

abbrev pub WritesStay : Outside → Outside → Type 0
WritesStay old new = new.press.faults ≡ old.press.faults

abbrev pub SavesStay : Outside → Outside → Type 0
SavesStay old new = new.disk ≡ old.disk

abbrev pub Stays : {T : Type 0} → Result T Refusal → Outside → Outside → Type 0
Stays (Err ReadFault) old new = WritesStay old new × SavesStay old new
Stays (Err WriteFault) old new = ReadsStay old new × SavesStay old new
Stays (Err DiskFault) old new = ReadsStay old new × WritesStay old new
Stays _ old new = ReadsStay old new × (WritesStay old new × SavesStay old new)

-- a call sums at most the terms of pairs that are meant, and just so many where it is done
pub record Counted {T : Type 0} (pairs : ℕ) (old : ℕ) (result : Result T Refusal) (new : ℕ) : Type 0 where
  pub few : new ≤ old + pairs
  pub exact : OnOk result (new ≡ old + pairs)
