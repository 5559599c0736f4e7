-- Texts of the log: each is put under the log's name, unless there is none, and then on the screen, unless it is off.
use Rattle.std.specs.Prelude.{Bool, true, false, not, ℕ, Option, Some, None, List, [], ◌∷◌, ◌++◌, codes}
use Rattle.meaning.specs.declared.output.Output.{Output}
use Rattle.meaning.specs.declared.uses.NameUse.{NameUse}
use Rattle.meaning.specs.Uses.{begun, has_begun}
use Rattle.outside.specs.declared.press.Piece.{Piece}
use Rattle.outside.specs.Sent.{piece_of}

-- the name under which pieces go to the screen
abbrev pub screen_name : List ℕ
screen_name = codes "*screen*"

-- the pieces of a text, and the uses of names afterwards
pub record Shown : Type 0 where
  pub pieces : List Piece
  pub uses : List NameUse

abbrev pub nothing_shown : List NameUse → Shown
nothing_shown uses = record { pieces = []; uses = uses }

-- a text under a name: fresh where it is the first under it
abbrev pub shown_under : List ℕ → List ℕ → List NameUse → Shown
shown_under name text uses = record { pieces = piece_of name (not (has_begun uses name)) text ∷ []; uses = begun name uses }

-- a text that starts its file anew, whatever was put under the name
abbrev pub put_anew : List ℕ → List ℕ → List NameUse → Shown
put_anew name text uses = record { pieces = piece_of name true text ∷ []; uses = begun name uses }

abbrev pub shown_in_log : Option (List ℕ) → List ℕ → List NameUse → Shown
shown_in_log None text uses = nothing_shown uses
shown_in_log (Some name) text uses = shown_under name text uses

abbrev pub shown_on_screen : Bool → List ℕ → List NameUse → Shown
shown_on_screen true text uses = shown_under screen_name text uses
shown_on_screen false text uses = nothing_shown uses

-- one after the other
abbrev pub shown_then : Shown → (List NameUse → Shown) → Shown
shown_then first next = record { pieces = first.pieces ++ (next first.uses).pieces; uses = (next first.uses).uses }

-- a text of the log
unfoldable pub shown : Output → List ℕ → List NameUse → Shown
shown o text uses = shown_then (shown_in_log o.log text uses) (shown_on_screen o.screen text)
