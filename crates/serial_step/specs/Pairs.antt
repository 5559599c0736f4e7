-- What the laws of sums over pairs speak of: fields in which a pair has no order, lists of pairs, and what the adds of their terms bring.
use Rattle.std.specs.Prelude.{◌≡◌, ◌*◌, ◌<◌, ◌≤◌, ◌==◌, ◌&&◌, ◌⊎◌, Bool, true, false, cond, nat_lt, ℕ, ℤ, Ok, None, IfSome, List, flat_map, length, slice_index_or}
use Rattle.std.specs.List.{AllByRecursion, Contains, IsDistinct, filter}
use Rattle.std.specs.List.Sorted.{IsPermutation}
use Rattle.box_geo.specs.declared.atoms.Atom.{Atom}
use Rattle.box_geo.specs.declared.sim_box.Sides.{Sides}
use Rattle.box_geo.specs.Sides.{near_image, length2}
use Rattle.pair_lj.specs.Pairs.{numbers_at}
use Rattle.sums.specs.Totals.{total, half, into, opposite_adds}
use Rattle.serial_step.specs.Forces.{Field, close_word, energy_of, force_of, term_of, virial_of}

-- the weight doesn't depend on the order of a pair; the numbers of its types never do
pub record IsFair (field : Field) : Type 0 where
  pub weight : (a b : ℕ) → field.weight a b ≡ field.weight b a

-- no two of the atoms have one number
abbrev pub AreApart : (Atom → ℕ) → List Atom → Type 0
AreApart number atoms = IsDistinct (λ a b. number a == number b) atoms

-- a pair that the test leaves out has no term
abbrev pub LeavesNoTerm : Field → Sides → (Atom × Atom → Bool) → Type 0
LeavesNoTerm field s near = (p : Atom × Atom) → near p ≡ false → term_of field s p.0 p.1 ≡ Ok None

-- the list has each unordered pair of the atoms that is near, once, in any order
abbrev pub AreNearPairs : (Atom × Atom → Bool) → List Atom → List (Atom × Atom) → Type 0
AreNearPairs near atoms pairs = IsPermutation (filter near (half atoms)) pairs

-- the pair of the atoms at two places, d past the end
abbrev pub pair_at : List Atom → Atom → ℕ × ℕ → Atom × Atom
pair_at atoms d places = (slice_index_or atoms places.0 d, slice_index_or atoms places.1 d)

abbrev pub are_same_places : ℕ × ℕ → ℕ × ℕ → Bool
are_same_places p q = (p.0 == q.0) && (p.1 == q.1)

-- the list of pairs of places has those whose atoms are near, the lesser place first, each once
pub record HasEachNearPairOnce (near : Atom × Atom → Bool) (atoms : List Atom) (d : Atom) (places : List (ℕ × ℕ)) : Type 0 where
  pub once : IsDistinct are_same_places places
  pub only : (p : ℕ × ℕ) → Contains places p → (p.0 < p.1) × (p.1 < length atoms) × (near (pair_at atoms d p) ≡ true)
  pub each : (p : ℕ × ℕ) → p.0 < p.1 → p.1 < length atoms → near (pair_at atoms d p) ≡ true → Contains places p

-- each pair is as it was or turned round
abbrev pub OnlyTurns : (Atom × Atom → Atom × Atom) → Type 0
OnlyTurns turn = (p : Atom × Atom) → (turn p ≡ p) ⊎ (turn p ≡ (p.1, p.0))

-- the atom of the lesser id first
abbrev pub lesser_id_first : Atom × Atom → Atom × Atom
lesser_id_first p = cond (nat_lt p.1.id p.0.id) (p.1, p.0) p

-- what a list of pairs brings to a word, for one component of the force: each pair adds it to the word of its first atom, and the negative to the word of its second
abbrev pub brought : Field → Sides → (List ℤ → ℤ) → (Atom → ℕ) → List (Atom × Atom) → ℕ → ℤ
brought field s component word pairs k =
    total (into k) (flat_map (opposite_adds word (λ a b. component (force_of (term_of field s a b)))) pairs)

-- the energy and the virial of a pair, and the word of its fault, `no_fault` without one
abbrev pub energy_between : Field → Sides → Atom × Atom → ℤ
energy_between field s p = energy_of (term_of field s p.0 p.1)

abbrev pub virial_between : Field → Sides → Atom × Atom → ℤ
virial_between field s p = virial_of (term_of field s p.0 p.1)

abbrev pub word_between : Field → Sides → Atom × Atom → ℕ
word_between field s p = close_word p.0.id p.1.id (term_of field s p.0 p.1)

-- several lists joined to one
abbrev pub joined : {X : Type 0} → List (List X) → List X
joined lists = flat_map (λ list. list) lists

-- no cutoff is beyond the reach
abbrev pub IsReach : Field → ℕ → Type 0
IsReach field reach = (i j : ℕ) → IfSome (numbers_at field.pairs i j) (λ k. k.cutoff ≤ reach)

-- the pair is nearer than the reach
abbrev pub is_within : Sides → ℕ → Atom × Atom → Bool
is_within s reach p = nat_lt (length2 (near_image s p.0.x p.1.x)) (reach * reach)
