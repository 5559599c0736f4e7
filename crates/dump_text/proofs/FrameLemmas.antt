-- A frame from its header and its rows.
use Rattle.std.proofs.Common.{◌≡◌, ◌++◌, [], ℕ, ℤ, List, length, refl}
use Rattle.box_geo.specs.declared.atoms.Atom.{Atom}
use Rattle.box_geo.specs.declared.sim_box.Sides.{Sides}
use Rattle.dump_text.specs.declared.columns.Column.{Column}
use Rattle.dump_text.specs.Frame.{frame_text, header_text, members, rows_text}

pub frame_is : (s : Sides) (masses : List ℤ) (atoms : List Atom) (ids : List ℕ) (columns spec : List Column) (step count : ℕ) (none header whole : List ℕ)
    → none ≡ [] → columns ≡ spec → count ≡ length (members ids atoms)
    → header ≡ none ++ header_text step count s columns
    → whole ≡ header ++ rows_text s masses columns (members ids atoms)
    → whole ≡ frame_text step s masses atoms ids spec
unfolding frame_text
frame_is s masses atoms ids columns spec step count none header whole empty same counted headed rowed =
    rw (rowed, headed, empty, counted, same) refl
