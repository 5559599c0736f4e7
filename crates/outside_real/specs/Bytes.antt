-- What was read of a file that was opened, and what was written to one. `remaining` gives the bytes that a reader has
-- left, and `contents` those that a writer holds, where these are known.
use Rattle.std.specs.Prelude.{◌<◌, ℕ, List, length, Option, Result, Ok, Err}
use Rattle.std.specs.Io.KnownBytes.{Appends, Consumes, IsAtEnd}
use Rattle.outside.specs.declared.shelf.TheConstants.{MAX_FETCHED}

-- more bytes left a reader than may be fetched
abbrev pub LosesTooMany : Option (List ℕ) → Option (List ℕ) → Type 0
LosesTooMany old new = (bytes : List ℕ) × Consumes old new bytes × (MAX_FETCHED < length bytes)

-- the file was opened, these bytes left it, and it is at its end
abbrev pub IsReadWhole : {F E : Type 0} → (F → Option (List ℕ)) → Result F E → Result F E → List ℕ → Type 0
IsReadWhole remaining (Ok old) (Ok new) bytes = Consumes (remaining old) (remaining new) bytes × IsAtEnd (remaining new)
IsReadWhole remaining (Ok old) (Err error) bytes = ⊥
IsReadWhole remaining (Err error) new bytes = ⊥

-- the file was opened, and more bytes left it than may be fetched
abbrev pub IsReadTooFar : {F E : Type 0} → (F → Option (List ℕ)) → Result F E → Result F E → Type 0
IsReadTooFar remaining (Ok old) (Ok new) = LosesTooMany (remaining old) (remaining new)
IsReadTooFar remaining (Ok old) (Err error) = ⊥
IsReadTooFar remaining (Err error) new = ⊥

-- the file was opened, and these bytes were added to its end
abbrev pub IsWritten : {W E : Type 0} → (W → Option (List ℕ)) → Result W E → Result W E → List ℕ → Type 0
IsWritten contents (Ok old) (Ok new) bytes = Appends (contents old) (contents new) bytes
IsWritten contents (Ok old) (Err error) bytes = ⊥
IsWritten contents (Err error) new bytes = ⊥
