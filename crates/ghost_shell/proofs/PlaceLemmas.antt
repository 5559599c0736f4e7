-- Atoms by their places.
use Rattle.std.proofs.Common.{◌≡◌, ◌<◌, ◌≤◌, ◌+◌, ◌-◌, Bool, ℕ, zero, suc, List, [], ◌∷◌, length, get_or, take, drop, map, filter, drop-cons, refl, sym, ap, ◌∙◌, arith}
use Rattle.std.specs.List.{All, range_with_len}
use Rattle.std.proofs.lemmas.List.Elements.{All-filter}
use Rattle.box_geo.specs.declared.atoms.Atom.{Atom}
use Rattle.rank_grid.specs.Owned.{numbered}
use Rattle.ghost_shell.specs.Walks.{atoms_at}

pub length-numbered : {X : Type 0} (m : ℕ) (xs : List X) → length (numbered m xs) ≡ length xs
length-numbered m [] = refl
length-numbered m (x ∷ xs) = ap suc (length-numbered (m + 1) xs)

pub take_one : {X : Type 0} (xs : List X) (k : ℕ) (d : X) → k < length xs → take 1 (drop k xs) ≡ get_or xs k d ∷ []
take_one xs k d lt = ap (λ (l : List _). take 1 l) (drop-cons xs k d lt)

pub numbered_at : {X : Type 0} (m : ℕ) (xs : List X) (k j : ℕ) (d : ℕ × X) (e : X) → k < length xs → j ≡ m + k → get_or (numbered m xs) k d ≡ (j, get_or xs k e)
numbered_at m [] k j d e lt is = absurd (omega arith)
numbered_at m (x ∷ xs) zero j d e lt is = let same : j ≡ m = omega arith in rw same refl
numbered_at m (x ∷ xs) (suc k) j d e lt is = numbered_at (m + 1) xs k j d e (omega arith) (omega arith)

pub place_of_numbered : {X : Type 0} (xs : List X) (k : ℕ) (d : ℕ × X) → k < length xs → (get_or (numbered 0 xs) k d).0 ≡ k
place_of_numbered xs k d lt = ap (λ (e : ℕ × _). e.0) (numbered_at 0 xs k k d d.1 lt (omega arith))

pub one_at : (atoms : List Atom) (k : ℕ) (a : Atom) → k < length atoms → a ≡ get_or atoms k a → take 1 (drop k (numbered 0 atoms)) ≡ (k, a) ∷ []
one_at atoms k a lt is =
    let room : k < length (numbered 0 atoms) = omega (arith, length-numbered 0 atoms) in
    take_one (numbered 0 atoms) k (k, a) room
    ∙ ap (λ (e : ℕ × Atom). e ∷ []) (numbered_at 0 atoms k k (k, a) a lt (omega arith) ∙ ap (λ (b : Atom). (k, b)) (sym is))

-- each numbered atom stands at its place
pub stands : (atoms : List Atom) → All (λ e. take 1 (drop e.0 (numbered 0 atoms)) ≡ e ∷ []) (numbered 0 atoms)
stands atoms = λ k d lt.
    let room : k < length atoms = omega (arith, length-numbered 0 atoms) in
    ap (λ (n : ℕ). take 1 (drop n (numbered 0 atoms))) (place_of_numbered atoms k d room)
    ∙ take_one (numbered 0 atoms) k d lt

found_again : (atoms : List Atom) (es : List (ℕ × Atom)) → All (λ e. take 1 (drop e.0 (numbered 0 atoms)) ≡ e ∷ []) es → atoms_at atoms (map (λ e. e.0) es) ≡ es
found_again atoms [] all = refl
found_again atoms (e ∷ es) all =
    let here : take 1 (drop e.0 (numbered 0 atoms)) ≡ e ∷ [] = all 0 e (omega arith) in
    let rest = found_again atoms es (λ k d lt. all (suc k) d (omega arith)) in
    rw (here, rest) refl

pub atoms_at_places : (atoms : List Atom) (p : ℕ × Atom → Bool) → atoms_at atoms (map (λ e. e.0) (filter p (numbered 0 atoms))) ≡ filter p (numbered 0 atoms)
atoms_at_places atoms p = found_again atoms (filter p (numbered 0 atoms)) (All-filter p (λ e. take 1 (drop e.0 (numbered 0 atoms)) ≡ e ∷ []) (numbered 0 atoms) (stands atoms))

-- the places of atoms are within the list, and the ids are those there
abbrev pub IsAt : List Atom → ℕ × Atom → Type 0
IsAt atoms e = (e.0 < length atoms) × (get_or (map (λ a. a.id) atoms) e.0 0 ≡ e.1.id)

get_or-id : (atoms : List Atom) (k : ℕ) (e : Atom) → k < length atoms → get_or (map (λ a. a.id) atoms) k 0 ≡ (get_or atoms k e).id
get_or-id [] k e lt = absurd (omega arith)
get_or-id (a ∷ others) zero e lt = refl
get_or-id (a ∷ others) (suc k) e lt = get_or-id others k e (omega arith)

at_of : (atoms : List Atom) (k : ℕ) (e : ℕ × Atom) (a : Atom) → k < length atoms → e ≡ (k, get_or atoms k a) → IsAt atoms e
at_of atoms k e a lt is = rw is (lt, get_or-id atoms k a lt)

pub all_at : (atoms : List Atom) → All (IsAt atoms) (numbered 0 atoms)
all_at atoms = λ k d lt.
    let room : k < length atoms = omega (arith, length-numbered 0 atoms) in
    at_of atoms k (get_or (numbered 0 atoms) k d) d.1 room (numbered_at 0 atoms k k d d.1 room (omega arith))

pub range_step : (k n : ℕ) → k < n → range_with_len k (n - k) ≡ k ∷ range_with_len (k + 1) (n - (k + 1))
range_step k n lt = let e : n - k ≡ suc (n - (k + 1)) = omega arith in ap (range_with_len k) e

pub range_end : (k n : ℕ) → n ≤ k → range_with_len k (n - k) ≡ []
range_end k n le = let e : n - k ≡ 0 = omega arith in ap (range_with_len k) e
