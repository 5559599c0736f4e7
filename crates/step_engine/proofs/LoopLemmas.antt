-- What a loop over atoms has done so far.
use Rattle.std.proofs.Common.{◌≡◌, ◌≤◌, ◌<◌, ◌+◌, ◌++◌, [], ◌∷◌, ℕ, min, List, map, take, drop, length, get_or, set, All, refl, sym, ap, ◌∙◌, arith}
use Rattle.std.proofs.lemmas.Grind.{common_steps}
use Rattle.std.proofs.lemmas.List.{map_more, take_all, drop_all, get_or_default}
use Rattle.std.proofs.lemmas.List.Edits.{map_over_more}
use Rattle.std.proofs.lemmas.List.Elements.{All-set}
use Rattle.box_geo.specs.declared.atoms.Atom.{Atom}
use Rattle.box_geo.specs.Fault.{no_fault}
use Rattle.serial_step.specs.Forces.{least}
use Rattle.serial_step.specs.Step.{After, atoms_of}
use Rattle.serial_step.proofs.LeastLemmas.{least-append, least-cons, least-le}
use Rattle.step_engine.specs.declared.rules.Rules.{Rules}
use Rattle.step_engine.specs.Ranges.{IsMovable, IsPlaced}

-- what a step asks of an atom
pub record IsSoundAtom (r : Rules) (a : Atom) : Type 0 where
  pub placed : IsPlaced r.field.pairs r.cell.sides a
  pub movable : IsMovable r.mass a

-- the first of the atoms were passed through a part of a step: what they are now, the least word so far, and that they are sound where there is no fault
pub record Passed (part : Atom → After) (P : Atom → Type 0) (old new : List Atom) (i word : ℕ) : Type 0 where
  pub atoms : new ≡ map (λ a. (part a).atom) (take i old) ++ drop i old
  pub fault : word ≡ least (map (λ a. (part a).fault) (take i old))
  pub sound : word ≡ no_fault → All P new

-- the atom that comes next is as it was
next_is : (f : Atom → Atom) (old new : List Atom) (i : ℕ) (d : Atom) → i < length old → new ≡ map f (take i old) ++ drop i old → get_or new i d ≡ get_or old i d
next_is f old new i d lt is = grind (arith, common_steps)

same_length : (f : Atom → Atom) (old new : List Atom) (i : ℕ) → new ≡ map f (take i old) ++ drop i old → length new ≡ length old
same_length f old new i is = grind (arith, common_steps)

least_push : (words : List ℕ) (w : ℕ) → w ≤ no_fault → least (words ++ w ∷ []) ≡ min (least words) w
least_push words w high = omega (arith, least-append words (w ∷ []), least-cons w [])

both : (m n : ℕ) → m ≤ no_fault → n ≤ no_fault → min m n ≡ no_fault → (m ≡ no_fault) × (n ≡ no_fault)
both m n p q e = (omega arith, omega arith)

-- one atom more
pub passed_more : (part : Atom → After) (P : Atom → Type 0) (old new : List Atom) (i word : ℕ) (d b : Atom) (w next : ℕ) → Passed part P old new i word → i < length old → b ≡ (part (get_or new i d)).atom → w ≡ (part (get_or new i d)).fault → w ≤ no_fault → (w ≡ no_fault → P b) → next ≡ min word w → Passed part P old (set new i b) (i + 1) next
passed_more part P old new i word d b w next h lt atom fault high sound is =
    let f : Atom → Atom = λ a. (part a).atom in
    let g : Atom → ℕ = λ a. (part a).fault in
    let size : length new ≡ length old = same_length f old new i h.atoms in
    let moved : set new i (f (get_or new i d)) ≡ map f (take (i + 1) old) ++ drop (i + 1) old = map_over_more f old new i (get_or new i d) lt h.atoms (get_or_default new i d (get_or new i d) (omega arith)) in
    let words : least (map g (take (i + 1) old)) ≡ min (least (map g (take i old))) w = ap least (map_more g old i d lt) ∙ ap (λ (a : Atom). least (map g (take i old) ++ g a ∷ [])) (sym (next_is f old new i d lt h.atoms)) ∙ ap (λ (n : ℕ). least (map g (take i old) ++ n ∷ [])) (sym fault) ∙ least_push (map g (take i old)) w high in
    let low : word ≤ no_fault = omega (arith, h.fault, least-le (map g (take i old))) in
    record {
      atoms = ap (set new i) atom ∙ moved;
      fault = omega (arith, words, h.fault, is);
      sound = λ e. let found : (word ≡ no_fault) × (w ≡ no_fault) = both word w low high (sym is ∙ e) in All-set P new i b (sound found.1) (h.sound found.0);
    }

-- all atoms
twice : (part : Atom → After) (xs : List Atom) → map (λ a. (part a).atom) xs ++ [] ≡ atoms_of (map part xs)
twice part [] = refl
twice part (x ∷ xs) = ap (λ (ys : List Atom). (part x).atom ∷ ys) (twice part xs)

pub passed_all : (part : Atom → After) (P : Atom → Type 0) (old new : List Atom) (i word : ℕ) → Passed part P old new i word → length old ≤ i → new ≡ atoms_of (map part old)
passed_all part P old new i word h le =
    let f : Atom → Atom = λ a. (part a).atom in
    h.atoms
    ∙ ap (λ (xs : List Atom). map f xs ++ drop i old) (take_all i old le)
    ∙ ap (λ (xs : List Atom). map f old ++ xs) (drop_all i old le)
    ∙ twice part old
