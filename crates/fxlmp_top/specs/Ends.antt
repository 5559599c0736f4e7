-- How a call ends, against what it was to write.
use Rattle.std.specs.Prelude.{◌≡◌, ℕ, Option, Some, None, IfNone, Result, Ok, Err, List}
use Rattle.meaning.specs.declared.code.Code.TheVariants.{NoFile}
use Rattle.meaning.specs.Causes.{Outside}
use Rattle.outside.specs.declared.press.Piece.{Piece}
use Rattle.outside.specs.Sent.{plus, SendsCut, SendsFront}
use Rattle.outside.specs.Stock.{Rose}
use Rattle.fxlmp_top.specs.declared.asked.Asked.{Asked}
use Rattle.fxlmp_top.specs.declared.asked.Wanted.{Wanted}
use Rattle.fxlmp_top.specs.declared.words.Misread.{Misread}
use Rattle.fxlmp_top.specs.declared.words.Misread.TheVariants as words
use Rattle.fxlmp_top.specs.Serial.{Run}
use Rattle.fxlmp_top.specs.Words.{Stand}
use Rattle.session.specs.declared.status.Status.{Status}
use Rattle.session.specs.Ends.{EndsWith}
use Rattle.session.specs.declared.status.Status.TheVariants.{DiskFault, NoMemory, ReadFault, ScriptRefused, WriteFault}

-- what the words so far ask for, with what is wanted next, unless a word has no reading
abbrev pub stand_of : Asked → Option Wanted → Option Stand
stand_of a (Some next) = Some record { asked = a; wanted = next }
stand_of a None = None

-- a word is taken as is meant; want of memory may come wherever
abbrev pub Steps : {X : Type 0} → Option Stand → Result (Option Wanted) X → Asked → Type 0
Steps meant (Ok next) new = meant ≡ stand_of new next
Steps meant (Err why) new = Unit {0}

-- words are read as is meant
abbrev pub Reads : Result Asked ℕ → Result Asked Misread → Type 0
Reads meant (Ok a) = meant ≡ Ok a
Reads meant (Err (words.Usage place)) = meant ≡ Err place
Reads meant (Err words.NoMemory) = Unit {0}

-- the status is that of the run, unless a fault or want of memory ended the call
abbrev pub IsSerialStatus : Status → Run → Type 0
IsSerialStatus ReadFault run = Unit {0}
IsSerialStatus WriteFault run = Unit {0}
IsSerialStatus DiskFault run = Unit {0}
IsSerialStatus NoMemory run = Unit {0}
IsSerialStatus status run = run.status ≡ status

-- the pieces are those of the run, unless a fault or want of memory ended the call
abbrev pub SendsAll : Status → Option (List Piece) → Run → Option (List Piece) → Type 0
SendsAll ReadFault old run new = Unit {0}
SendsAll WriteFault old run new = Unit {0}
SendsAll DiskFault old run new = Unit {0}
SendsAll NoMemory old run new = Unit {0}
SendsAll status old run new = new ≡ plus old run.pieces

-- after a fault or without memory they are a prefix of those of the run, and after a failure of the press the next one follows cut
abbrev pub SendsPart : Status → Option (List Piece) → Run → Option (List Piece) → Type 0
SendsPart ReadFault old run new = SendsFront old run.pieces new
SendsPart DiskFault old run new = SendsFront old run.pieces new
SendsPart NoMemory old run new = SendsFront old run.pieces new
SendsPart WriteFault old run new = SendsCut old run.pieces new
SendsPart status old run new = Unit {0}

-- the run is complete: its status and all its pieces; or memory was wanting
abbrev pub IsComplete : Status → Option (List Piece) → Run → Option (List Piece) → Type 0
IsComplete ReadFault old run new = ⊥
IsComplete WriteFault old run new = ⊥
IsComplete DiskFault old run new = ⊥
IsComplete NoMemory old run new = SendsFront old run.pieces new
IsComplete status old run new = (run.status ≡ status) × (new ≡ plus old run.pieces)

-- all of this in one relation: with the status and all pieces of the run, or with a prefix of them after a fault or without memory
abbrev pub EndsAs : Status → Option (List Piece) → Run → Option (List Piece) → Type 0
EndsAs status old run new = EndsWith status old run.pieces run.status new

-- a status blames a device only where its count rose. A file that a shelf missed which tells nothing is told of only where that count rose; not so a
-- script that is too long, since its limit is lower than the shelf's.
abbrev pub HasCause : Status → Outside → Outside → Type 0
HasCause (ScriptRefused code file line) old new =
    code ≡ NoFile → IfNone old.shelf.stock (Rose old.shelf.absent new.shelf.absent)
HasCause ReadFault old new = Rose old.shelf.faults new.shelf.faults
HasCause WriteFault old new = Rose old.press.faults new.press.faults
HasCause DiskFault old new = Rose old.disk new.disk
HasCause _ old new = Unit {0}
