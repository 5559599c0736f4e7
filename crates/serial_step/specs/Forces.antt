-- The forces on atoms and the sums over pairs of atoms. All are sums of whole numbers, so nothing depends on an order.
use Rattle.std.specs.Prelude.{◌+◌, ◌*◌, ◌^◌, ◌==◌, ◌||◌, Bool, true, false, cond, min, max, nat_lt, ℕ, zero, suc, ℤ, pos, unsigned_abs, Option, Some, None, Result, Ok, Err, List, [], ◌∷◌, map, fold}
use Rattle.box_geo.specs.declared.atoms.Atom.{Atom}
use Rattle.box_geo.specs.declared.sim_box.Sides.{Sides}
use Rattle.box_geo.specs.declared.term.Term.{Term}
use Rattle.box_geo.specs.declared.fault.FaultPhase.TheVariants.{Forces}
use Rattle.box_geo.specs.declared.fault.FaultKind.TheVariants as kind
use Rattle.box_geo.specs.Fault.{no_fault, phase_number, kind_number}
use Rattle.box_geo.specs.Sides.{x_of, y_of, z_of, near_image}
use Rattle.pair_lj.specs.declared.close.Close.{Close}
use Rattle.pair_lj.specs.declared.pair_settings.PairCoefficients.{PairCoefficients}
use Rattle.pair_lj.specs.Pairs.{PairNumbers, numbers_at, term_by}
use Rattle.sums.specs.Totals.{total, half}

-- what forces rest on: the pairs of types that are set, and the special weight of each pair of ids, in units
pub record Field : Type 0 where
  pub pairs : List PairCoefficients
  pub weight : ℕ → ℕ → ℕ

-- the field of the pairs that are set; until bonds come each weight is 1
abbrev pub field_of : List PairCoefficients → Field
field_of pairs = record { pairs = pairs; weight = λ i j. 2 ^ 24 }

-- a term with a weight above 0, for types that have coefficients
abbrev pub term_with : ℕ → Option PairNumbers → List ℤ → Result (Option Term) Close
term_with zero k d = Ok None
term_with (suc w) None d = Ok None
term_with (suc w) (Some k) d = term_by k (suc w) d

abbrev pub term_apart : Bool → ℕ → Option PairNumbers → List ℤ → Result (Option Term) Close
term_apart true w k d = Ok None
term_apart false w k d = term_with w k d

-- the term of atom i by atom j at their nearest image; there is none between an atom and itself, or at weight 0
unfoldable pub term_of : Field → Sides → Atom → Atom → Result (Option Term) Close
term_of field s i j =
    term_apart (i.id == j.id) (field.weight i.id j.id) (numbers_at field.pairs i.kind j.kind) (near_image s i.x j.x)

-- what a term gives: the force on the first atom, the energy, the product of displacement and force
abbrev pub force_of : Result (Option Term) Close → List ℤ
force_of (Ok (Some t)) = t.f
force_of (Ok None) = pos 0 ∷ pos 0 ∷ pos 0 ∷ []
force_of (Err close) = pos 0 ∷ pos 0 ∷ pos 0 ∷ []

abbrev pub energy_of : Result (Option Term) Close → ℤ
energy_of (Ok (Some t)) = t.energy
energy_of (Ok None) = pos 0
energy_of (Err close) = pos 0

abbrev pub virial_of : Result (Option Term) Close → ℤ
virial_of (Ok (Some t)) = t.virial
virial_of (Ok None) = pos 0
virial_of (Err close) = pos 0

-- the force on an atom: the sum over all other atoms
unfoldable pub force_on : Field → Sides → List Atom → Atom → List ℤ
force_on field s atoms own =
    total (λ other. x_of (force_of (term_of field s own other))) atoms
    ∷ total (λ other. y_of (force_of (term_of field s own other))) atoms
    ∷ total (λ other. z_of (force_of (term_of field s own other))) atoms
    ∷ []

-- the sums over all unordered pairs of atoms
unfoldable pub pair_energy : Field → Sides → List Atom → ℤ
pair_energy field s atoms = total (λ p. energy_of (term_of field s p.0 p.1)) (half atoms)

unfoldable pub pair_virial : Field → Sides → List Atom → ℤ
pair_virial field s atoms = total (λ p. virial_of (term_of field s p.0 p.1)) (half atoms)

-- the word of a fault
abbrev pub word : ℕ → ℕ → ℕ → ℕ → ℕ
word phase kind a b = phase * 2 ^ 56 + kind * 2 ^ 48 + a * 2 ^ 24 + b

-- the least of the words, `no_fault` without any
abbrev pub least : List ℕ → ℕ
least words = fold min no_fault words

-- the word of a pair that is too close, the lesser id first
abbrev pub close_word : ℕ → ℕ → Result (Option Term) Close → ℕ
close_word a b (Ok t) = no_fault
close_word a b (Err close) = word (phase_number Forces) (kind_number kind.Close) (min a b) (max a b)

-- the fault of the terms: the least word over all unordered pairs
unfoldable pub terms_fault : Field → Sides → List Atom → ℕ
terms_fault field s atoms = least (map (λ p. close_word p.0.id p.1.id (term_of field s p.0 p.1)) (half atoms))

-- the force on an atom leaves its range
abbrev pub is_too_great : List ℤ → Bool
is_too_great f = nat_lt (2 ^ 44) (unsigned_abs (x_of f)) || nat_lt (2 ^ 44) (unsigned_abs (y_of f)) || nat_lt (2 ^ 44) (unsigned_abs (z_of f))

abbrev pub force_word : Atom → ℕ
force_word a = cond (is_too_great a.f) (word (phase_number Forces) (kind_number kind.Force) a.id 0) no_fault

-- the atoms with the forces of the field
abbrev pub with_force : Atom → List ℤ → Atom
with_force a f = record a { f = f }

unfoldable pub with_forces : Field → Sides → List Atom → List Atom
with_forces field s atoms = map (λ a. with_force a (force_on field s atoms a)) atoms

-- the fault of an evaluation of forces: that of a term, and only where there is none that of a force on an atom
unfoldable pub forces_fault : Field → Sides → List Atom → ℕ
forces_fault field s atoms =
    cond (terms_fault field s atoms == no_fault)
    (least (map force_word (with_forces field s atoms)))
    (terms_fault field s atoms)
