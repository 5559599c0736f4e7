-- A walk through rising ids beside rising atoms.
use Rattle.std.specs.Prelude.{◌==◌, Bool, false, cond, nat_lt, ℕ, List, [], ◌∷◌}
use Rattle.box_geo.specs.declared.atoms.Atom.{Atom}

-- what a list has from the first id on that is not below one
abbrev pub ids_from : ℕ → List ℕ → List ℕ
ids_from id [] = []
ids_from id (first ∷ ids) = cond (nat_lt first id) (ids_from id ids) (first ∷ ids)

abbrev pub begins_with : List ℕ → ℕ → Bool
begins_with [] id = false
begins_with (first ∷ ids) id = first == id

-- an atom alone, or none
abbrev pub one_if : Bool → Atom → List Atom
one_if kept a = cond kept (a ∷ []) []
