-- The next line of open files, as it is looked for.
use Rattle.std.specs.Prelude.{◌≡◌, take, List, [], ◌∷◌}
use Rattle.script_lines.specs.Physical.{feeds}
use Rattle.script_lines.specs.Script.{script_at, with_line}
use Rattle.control_flow.specs.declared.search.Found.{Found}
use Rattle.control_flow.specs.Flow.{OpenFile}

-- a line that was found is the next of the first of these files
abbrev pub StandsIn : Found → List OpenFile → Type 0
StandsIn found [] = ⊥
StandsIn found (file ∷ outer) =
    (file.name ≡ found.file)
    × (file.left ≡ with_line found.line.number found.line.words (script_at file.text found.line.next.at))
    × (found.line.next.ended ≡ feeds (take found.line.next.at file.text))
