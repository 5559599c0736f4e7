-- A row of pairs: what the pairs of one atom with others give to it, to each of them, and to the sums.
use Rattle.std.specs.Prelude.{◌≡◌, ◌*◌, ◌^◌, ◌≤◌, ℕ, ℤ, pos, ◌+ℤ◌, ◌-ℤ◌, unsigned_abs, min, Option, Some, None, Result, Ok, Err, List, [], ◌∷◌, map, take, drop, ◌++◌}
use Rattle.box_geo.specs.declared.atoms.Atom.{Atom}
use Rattle.box_geo.specs.declared.sim_box.Sides.{Sides}
use Rattle.box_geo.specs.declared.term.Term.{Term}
use Rattle.box_geo.specs.Fault.{no_fault}
use Rattle.box_geo.specs.Sides.{x_of, y_of, z_of}
use Rattle.pair_lj.specs.declared.close.Close.{Close}
use Rattle.serial_step.specs.Forces.{Field, close_word, energy_of, force_on, least, pair_energy, pair_virial, term_of, terms_fault, virial_of, with_force}
use Rattle.serial_step.specs.Pairs.{energy_between, virial_between, word_between}
use Rattle.sums.specs.Totals.{half, total}
use Rattle.step_engine.specs.declared.rows.Row.{Row}
use Rattle.step_engine.specs.declared.pairs.Sums.{Sums}
use Rattle.step_engine.specs.Ranges.{IsWithin}

-- no force
abbrev pub no_force : List ℤ
no_force = pos 0 ∷ pos 0 ∷ pos 0 ∷ []

-- the sum and the difference of two vectors
abbrev pub sum_of : List ℤ → List ℤ → List ℤ
sum_of a b = (x_of a +ℤ x_of b) ∷ (y_of a +ℤ y_of b) ∷ (z_of a +ℤ z_of b) ∷ []

abbrev pub difference_of : List ℤ → List ℤ → List ℤ
difference_of a b = (x_of a -ℤ x_of b) ∷ (y_of a -ℤ y_of b) ∷ (z_of a -ℤ z_of b) ∷ []

-- the second atom of a pair after its term: the force on it is less by that on the first
abbrev pub pushed : Result (Option Term) Close → Atom → Atom
pushed (Ok (Some t)) other = with_force other (difference_of other.f t.f)
pushed (Ok None) other = other
pushed (Err close) other = other

-- the second atom after its pair with `own`
abbrev pub pushed_by : Field → Sides → Atom → Atom → Atom
pushed_by field s own other = pushed (term_of field s own other) other

-- a row with the sums of a term more
abbrev pub row_plus : Term → Row → Row
row_plus t row = record row { f = sum_of row.f t.f; energy = row.energy +ℤ t.energy; virial = row.virial +ℤ t.virial }

-- a row with one pair more, of atoms of these ids
abbrev pub row_with : ℕ → ℕ → Result (Option Term) Close → Row → Row
row_with a b (Ok (Some t)) row = row_plus t row
row_with a b (Ok None) row = row
row_with a b (Err close) row = record row { fault = min row.fault (close_word a b (Err close)) }

-- the row of an atom with others: the force on it, the sums, and the least word of a fault
unfoldable pub row_of : Field → Sides → Atom → List Atom → Row
row_of field s own others = record {
  f = force_on field s others own;
  energy = total (λ other. energy_of (term_of field s own other)) others;
  virial = total (λ other. virial_of (term_of field s own other)) others;
  fault = least (map (λ other. close_word own.id other.id (term_of field s own other)) others);
}

-- no pairs
abbrev pub no_row : Row
no_row = record { f = no_force; energy = pos 0; virial = pos 0; fault = no_fault }

-- the row of the first of some atoms with the others, and the atoms after it
abbrev pub first_row : Field → Sides → List Atom → Row
first_row field s [] = no_row
first_row field s (own ∷ others) = row_of field s own others

abbrev pub after_row : Field → Sides → List Atom → List Atom
after_row field s [] = []
after_row field s (own ∷ others) = with_force own (sum_of own.f (force_on field s others own)) ∷ map (pushed_by field s own) others

-- the numbers of a row of so many pairs
pub record IsRowWithin (pairs : ℕ) (row : Row) : Type 0 where
  pub f : IsWithin (2 ^ 42 * pairs) row.f
  pub energy : unsigned_abs row.energy ≤ 2 ^ 60 * pairs
  pub virial : unsigned_abs row.virial ≤ 2 ^ 72 * pairs

-- an atom with the force of all atoms of a list on it
abbrev pub forced : Field → Sides → List Atom → Atom → Atom
forced field s atoms own = with_force own (force_on field s atoms own)

-- the atoms after the rows of the first i: those have the force of all, the others that of the first i
unfoldable pub forced_up_to : Field → Sides → List Atom → ℕ → List Atom
forced_up_to field s atoms i = map (forced field s atoms) (take i atoms) ++ map (forced field s (take i atoms)) (drop i atoms)

-- the sums with those of a row more
abbrev pub sums_plus : Row → Sums → Sums
sums_plus row sums = record { energy = sums.energy +ℤ row.energy; virial = sums.virial +ℤ row.virial; fault = min sums.fault row.fault }

-- the sums over the rows of the first i atoms: with those of all pairs behind them they are the sums over all pairs
pub record AreSumsUpTo (field : Field) (s : Sides) (atoms : List Atom) (i : ℕ) (sums : Sums) : Type 0 where
  pub energy : sums.energy +ℤ total (energy_between field s) (half (drop i atoms)) ≡ pair_energy field s atoms
  pub virial : sums.virial +ℤ total (virial_between field s) (half (drop i atoms)) ≡ pair_virial field s atoms
  pub fault : min sums.fault (least (map (word_between field s) (half (drop i atoms)))) ≡ terms_fault field s atoms

-- the sums of so many rows
pub record AreSumsWithin (rows : ℕ) (sums : Sums) : Type 0 where
  pub energy : unsigned_abs sums.energy ≤ 2 ^ 80 * rows
  pub virial : unsigned_abs sums.virial ≤ 2 ^ 92 * rows
  pub fault : sums.fault ≤ no_fault
