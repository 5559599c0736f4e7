-- What pairs of places of atoms bring to the forces, which are kept modulo 2^64.
use Rattle.std.specs.Prelude.{◌≡◌, ◌<◌, All, ℕ, ℤ, pos, ◌+ℤ◌, ◌-ℤ◌, neg_ℤ, FitsSigned, Option, Result, List, [], ◌∷◌, flat_map, length, map, slice_index_or}
use Rattle.std.specs.Int.{int_wrap}
use mir.Syntax.{w64}
use Rattle.box_geo.specs.Sides.{x_of, y_of, z_of}
use Rattle.box_geo.specs.declared.atoms.Atom.{Atom}
use Rattle.box_geo.specs.declared.sim_box.Sides.{Sides}
use Rattle.box_geo.specs.declared.term.Term.{Term}
use Rattle.pair_lj.specs.declared.close.Close.{Close}
use Rattle.serial_step.specs.Forces.{Field, force_of, term_of}
use Rattle.sums.specs.Totals.{into, opposite_adds, total}

-- what is left of a number in a word
abbrev pub in_word : ℤ → ℤ
in_word x = int_wrap w64 x

-- a number that a word holds, and a vector of such numbers
abbrev pub FitsWord : ℤ → Type 0
FitsWord x = FitsSigned w64 x

abbrev pub FitWords : List ℤ → Type 0
FitWords v = FitsWord (x_of v) × FitsWord (y_of v) × FitsWord (z_of v)

-- the sum and the difference of two vectors, in words
abbrev pub plus : List ℤ → List ℤ → List ℤ
plus a b = in_word (x_of a +ℤ x_of b) ∷ in_word (y_of a +ℤ y_of b) ∷ in_word (z_of a +ℤ z_of b) ∷ []

abbrev pub minus : List ℤ → List ℤ → List ℤ
minus a b = in_word (x_of a -ℤ x_of b) ∷ in_word (y_of a -ℤ y_of b) ∷ in_word (z_of a -ℤ z_of b) ∷ []

-- the term of the atoms at two places, d past the end
abbrev pub term_at : Field → Sides → List Atom → Atom → ℕ → ℕ → Result (Option Term) Close
term_at field s atoms d p q = term_of field s (slice_index_or atoms p d) (slice_index_or atoms q d)

-- one component of what pairs of places bring to a place: each pair its force to the first, and the negative to the second
unfoldable pub brought_at : Field → Sides → List Atom → Atom → (List ℤ → ℤ) → List (ℕ × ℕ) → ℕ → ℤ
brought_at field s atoms d component places k =
    total (into k) (flat_map (opposite_adds (λ p. p) (λ p q. component (force_of (term_at field s atoms d p q)))) places)

-- one component of the forces has more by what was brought to each place
abbrev pub HasMore : (List ℤ → ℤ) → List (List ℤ) → List (List ℤ) → (ℕ → ℤ) → Type 0
HasMore component old new brought =
    (k : ℕ) (v : List ℤ) → k < length old → in_word (component (slice_index_or new k v)) ≡ in_word (component (slice_index_or old k v) +ℤ brought k)

-- what pairs of places bring was added to the forces
pub record AreAdded (field : Field) (s : Sides) (atoms : List Atom) (places : List (ℕ × ℕ)) (old new : List (List ℤ)) : Type 0 where
  pub long : length new ≡ length old
  pub x : (d : Atom) → HasMore x_of old new (brought_at field s atoms d x_of places)
  pub y : (d : Atom) → HasMore y_of old new (brought_at field s atoms d y_of places)
  pub z : (d : Atom) → HasMore z_of old new (brought_at field s atoms d z_of places)

-- one component of what an atom's pairs with those at some places bring to a place: the negative of each force on it
unfoldable pub taken_at : Field → Sides → List Atom → Atom → Atom → (List ℤ → ℤ) → List ℕ → ℕ → ℤ
taken_at field s atoms d own component others k =
    total (λ q. into k (q, neg_ℤ (component (force_of (term_of field s own (slice_index_or atoms q d)))))) others

-- what an atom's pairs bring to the others was added to the forces
pub record AreTaken (field : Field) (s : Sides) (atoms : List Atom) (own : Atom) (others : List ℕ) (old new : List (List ℤ)) : Type 0 where
  pub long : length new ≡ length old
  pub x : (d : Atom) → HasMore x_of old new (taken_at field s atoms d own x_of others)
  pub y : (d : Atom) → HasMore y_of old new (taken_at field s atoms d own y_of others)
  pub z : (d : Atom) → HasMore z_of old new (taken_at field s atoms d own z_of others)

-- the pairs of an atom's place with others
abbrev pub pairs_with : ℕ → List ℕ → List (ℕ × ℕ)
pairs_with place others = map (λ other. (place, other)) others

-- no force
abbrev pub IsNone : List ℤ → Type 0
IsNone f = (x_of f ≡ pos 0) × (y_of f ≡ pos 0) × (z_of f ≡ pos 0)

-- the pairs are of places of the atoms
abbrev pub ArePlaces : List Atom → List (ℕ × ℕ) → Type 0
ArePlaces atoms places = All (λ p. (p.0 < length atoms) × (p.1 < length atoms)) places
