-- A row of pairs: one atom with others.
use Rattle.std.specs.Prelude.{◌≡◌, ◌*◌, ◌^◌, ◌≤◌, ℕ, ℤ, pos, ◌+ℤ◌, unsigned_abs, min, Option, Some, None, Result, Ok, Err, List, [], ◌∷◌, map}
use Rattle.box_geo.specs.Fault.{no_fault}
use Rattle.box_geo.specs.declared.limits.TheConstants.{MAX_ID}
use Rattle.pair_lj.specs.Table.{IsType, Table}
use Rattle.box_geo.specs.Sides.{IsInside, x_of, y_of, z_of}
use Rattle.box_geo.specs.declared.atoms.Atom.{Atom}
use Rattle.box_geo.specs.declared.sim_box.Sides.{Sides}
use Rattle.box_geo.specs.declared.term.Term.{Term}
use Rattle.pair_lj.specs.declared.close.Close.{Close}
use Rattle.pair_forces.specs.Adds.{FitWords, in_word, minus, plus}
use Rattle.pair_forces.specs.declared.row.Row.{Row}
use Rattle.serial_step.specs.Forces.{Field, close_word, energy_of, force_of, least, term_of, virial_of}
use Rattle.sums.specs.Totals.{total}

-- the force on the second atom of a pair after its term: less by that on the first
abbrev pub pushed : Result (Option Term) Close → List ℤ → List ℤ
pushed (Ok (Some t)) f = minus f t.f
pushed (Ok None) f = f
pushed (Err close) f = f

-- no pairs
abbrev pub no_row : Row
no_row = record { f = pos 0 ∷ pos 0 ∷ pos 0 ∷ []; energy = pos 0; virial = pos 0; fault = no_fault }

-- a row with one pair more, of atoms of these ids
abbrev pub row_with : ℕ → ℕ → Result (Option Term) Close → Row → Row
row_with a b (Ok (Some t)) row = record row { f = plus row.f t.f; energy = row.energy +ℤ t.energy; virial = row.virial +ℤ t.virial }
row_with a b (Ok None) row = row
row_with a b (Err close) row = record row { fault = min row.fault (close_word a b (Err close)) }

-- the sums of a row of an atom with others
pub record IsRowOf (field : Field) (s : Sides) (own : Atom) (others : List Atom) (row : Row) : Type 0 where
  pub x : in_word (x_of row.f) ≡ in_word (total (λ other. x_of (force_of (term_of field s own other))) others)
  pub y : in_word (y_of row.f) ≡ in_word (total (λ other. y_of (force_of (term_of field s own other))) others)
  pub z : in_word (z_of row.f) ≡ in_word (total (λ other. z_of (force_of (term_of field s own other))) others)
  pub energy : row.energy ≡ total (λ other. energy_of (term_of field s own other)) others
  pub virial : row.virial ≡ total (λ other. virial_of (term_of field s own other)) others
  pub fault : row.fault ≡ least (map (λ other. close_word own.id other.id (term_of field s own other)) others)

-- the numbers of a row of so many pairs
pub record IsRowWithin (pairs : ℕ) (row : Row) : Type 0 where
  pub f : FitWords row.f
  pub energy : unsigned_abs row.energy ≤ 2 ^ 60 * pairs
  pub virial : unsigned_abs row.virial ≤ 2 ^ 72 * pairs

-- what pair terms ask of an atom: a position inside the box, a type of the table, an id within the limits
pub record IsPlaced (pairs : Table) (s : Sides) (a : Atom) : Type 0 where
  pub inside : IsInside s a.x
  pub kind : IsType pairs a.kind
  pub id : a.id ≤ MAX_ID
