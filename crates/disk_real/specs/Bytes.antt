-- What was read of a file that was opened. `remaining` gives the bytes that a reader has left, where these are known.
use Rattle.std.specs.Prelude.{◌≡◌, ◌<◌, ℕ, List, [], length, Option, Result, Ok, Err}
use Rattle.std.specs.Io.KnownBytes.{Consumes, IsAtEnd}
use Rattle.disk_outside.specs.declared.disk.TheConstants.{MAX_READ}

-- more bytes left a reader than may be read
abbrev pub LosesTooMany : Option (List ℕ) → Option (List ℕ) → Type 0
LosesTooMany old new = (bytes : List ℕ) × Consumes old new bytes × (MAX_READ < length bytes)

-- the file was opened, these bytes left it, and it is at its end; one that was not opened has none
abbrev pub IsReadWhole : {F E : Type 0} → (F → Option (List ℕ)) → Result F E → Result F E → List ℕ → Type 0
IsReadWhole remaining (Ok old) (Ok new) bytes = Consumes (remaining old) (remaining new) bytes × IsAtEnd (remaining new)
IsReadWhole remaining (Ok old) (Err error) bytes = ⊥
IsReadWhole remaining (Err error) new bytes = bytes ≡ []

-- the file was opened, and more bytes left it than may be read
abbrev pub IsReadTooFar : {F E : Type 0} → (F → Option (List ℕ)) → Result F E → Result F E → Type 0
IsReadTooFar remaining (Ok old) (Ok new) = LosesTooMany (remaining old) (remaining new)
IsReadTooFar remaining (Ok old) (Err error) = ⊥
IsReadTooFar remaining (Err error) new = ⊥
