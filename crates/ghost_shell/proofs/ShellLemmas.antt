-- What the walk finds are the ghosts by the definition, in another order.
use Rattle.std.proofs.Common.{◌≡◌, ◌++◌, ◌==◌, ◌&&◌, Bool, true, false, not, cond, ℕ, ℤ, List, [], ◌∷◌, map, filter, flat_map, IsPermutation, refl, sym, ap, ◌∙◌, arith}
use Rattle.std.specs.List.{All, range_with_len}
use Rattle.std.proofs.lemmas.Bool.Decides.{nat_tests}
use Rattle.std.proofs.lemmas.List.Elements.{All-weaker, All-filter, All-map, filter_passes}
use Rattle.std.proofs.lemmas.List.Sorted.{IsPermutation-map, IsPermutation-trans, All-permutation}
use Rattle.box_geo.specs.declared.atoms.Atom.{Atom}
use Rattle.box_geo.specs.declared.sim_box.Sides.{Sides}
use Rattle.box_geo.specs.Sides.{IsInside, IsSound}
use Rattle.rank_grid.specs.Bricks.{AreCounts, owner, ranks}
use Rattle.rank_grid.specs.Owned.{atoms_of_rank, numbered}
use Rattle.rank_grid.proofs.OwnedLemmas.{All-numbered, atoms_parted}
use Rattle.ghost_shell.specs.declared.atom.Ghost.{Ghost}
use Rattle.ghost_shell.specs.declared.halo.Halo.{Halo}
use Rattle.ghost_shell.specs.Images.{Image, ghost_images, images, is_ghost, is_in_halo, moved, shifts, stays}
use Rattle.ghost_shell.specs.Ghosts.{IsGhostOf, IsSoundGhost, ghost_of, ghosts}
use Rattle.ghost_shell.specs.Halos.{IsHalo, holds}
use Rattle.ghost_shell.specs.Walks.{ghost_by, ghosts_from}
use Rattle.sums.proofs.Lists.{All-each, All-flat_map, IsPermutation-filter, IsPermutation-flat_map, exchange, filter-flat_map, flat_map_same, flat_map-flat_map, map-flat_map, permutation_along}
use Rattle.ghost_shell.proofs.PlaceLemmas.{all_at}
use Rattle.ghost_shell.proofs.WalkLemmas.{IsShift, image_near, shifts_short}

-- the halo of a rank is that of the definition
pub halo_is : (counts : List ℕ) (s : Sides) (rank : ℕ) (reach : ℤ) (h : Halo) (p : List ℤ) → IsHalo counts s rank reach h → holds h p ≡ is_in_halo counts s rank reach p
halo_is counts s rank reach h p is = let a = is.low in let b = is.high in let d = is.reach in let e = is.space in cc

-- of the atoms of one rank
test_is : (counts : List ℕ) (s : Sides) (rank other : ℕ) (reach : ℤ) (h : Halo) (shift : List ℤ) (e : ℕ × Atom) (b : Bool) → IsHalo counts s rank reach h
    → (owner counts s e.1.x == other) ≡ true → ((other == rank) && stays shift) ≡ b → is_ghost counts s rank reach (e, shift) ≡ (holds h (moved e.1.x shift) && not b)
test_is counts s rank other reach h shift e b is own t =
    let f = halo_is counts s rank reach h (moved e.1.x shift) is in
    let g : owner counts s e.1.x ≡ other = grind (arith, nat_tests) in
    rw (f, g, t) refl

-- the ghosts that the shifts make of an atom
abbrev ghosts_of : List ℕ → Sides → ℕ → ℤ → ℕ × Atom → List Ghost
ghosts_of counts s rank reach e = flat_map (λ shift. cond (is_ghost counts s rank reach (e, shift)) (ghost_of (e, shift) ∷ []) []) (shifts s)

by_shifts : (p : Image → Bool) (e : ℕ × Atom) (ds : List (List ℤ)) → map ghost_of (filter p (map (λ d. (e, d)) ds)) ≡ flat_map (λ d. cond (p (e, d)) (ghost_of (e, d) ∷ []) []) ds
by_shifts p e [] = refl
by_shifts p e (d ∷ ds) = by_test (p (e, d)) (by_shifts p e ds)
  where
    by_test : (b : Bool) → map ghost_of (filter p (map (λ d. (e, d)) ds)) ≡ flat_map (λ d. cond (p (e, d)) (ghost_of (e, d) ∷ []) []) ds
        → map ghost_of (cond b ((e, d) ∷ filter p (map (λ d. (e, d)) ds)) (filter p (map (λ d. (e, d)) ds))) ≡ cond b (ghost_of (e, d) ∷ []) [] ++ flat_map (λ d. cond (p (e, d)) (ghost_of (e, d) ∷ []) []) ds
    by_test true is = ap (λ (l : List Ghost). ghost_of (e, d) ∷ l) is
    by_test false is = is

-- of the atoms of one rank
of_rank : (counts : List ℕ) (s : Sides) (atoms : List Atom) (rank other : ℕ) (reach : ℤ) (h : Halo) → IsHalo counts s rank reach h
    → ghosts_from counts s atoms h rank other ≡ flat_map (ghosts_of counts s rank reach) (atoms_of_rank counts s atoms other)
of_rank counts s atoms rank other reach h is =
    flat_map_same (λ e. flat_map (ghost_by h (other == rank) e) (shifts s)) (ghosts_of counts s rank reach) (atoms_of_rank counts s atoms other)
    (All-weaker (λ e. (owner counts s e.1.x == other) ≡ true) (λ e. flat_map (ghost_by h (other == rank) e) (shifts s) ≡ ghosts_of counts s rank reach e)
    (λ e passes.
    flat_map_same (ghost_by h (other == rank) e) (λ shift. cond (is_ghost counts s rank reach (e, shift)) (ghost_of (e, shift) ∷ []) []) (shifts s)
    (All-each (λ shift. ghost_by h (other == rank) e shift ≡ cond (is_ghost counts s rank reach (e, shift)) (ghost_of (e, shift) ∷ []) [])
    (λ shift. ap (λ (b : Bool). cond b (ghost_of (e, shift) ∷ []) []) (sym (test_is counts s rank other reach h shift e ((other == rank) && stays shift) is passes refl))) (shifts s)))
    (atoms_of_rank counts s atoms other) (filter_passes (λ e. owner counts s e.1.x == other) (numbered 0 atoms)))

pub shell_is : (counts : List ℕ) (s : Sides) (atoms : List Atom) (rank : ℕ) (reach : ℤ) (h : Halo) (found : List Ghost) → AreCounts counts → All (λ a. IsInside s a.x) atoms → IsHalo counts s rank reach h
    → found ≡ flat_map (ghosts_from counts s atoms h rank) (range_with_len 0 (ranks counts))
    → IsPermutation (ghosts counts s rank reach atoms) found
shell_is counts s atoms rank reach h found some inside halo is =
    let rs : List ℕ = range_with_len 0 (ranks counts) in
    let es : List (ℕ × Atom) = numbered 0 atoms in
    let part : ℕ → List (ℕ × Atom) = atoms_of_rank counts s atoms in
    let test : Image → Bool = is_ghost counts s rank reach in
    let of_atom : ℕ × Atom → List Ghost = ghosts_of counts s rank reach in
    let by_atoms : List Image = flat_map (λ e. map (λ shift. (e, shift)) (shifts s)) es in
    let walked : found ≡ flat_map of_atom (flat_map part rs) =
    is
    ∙ flat_map_same (ghosts_from counts s atoms h rank) (λ r. flat_map of_atom (part r)) rs
    (All-each (λ r. ghosts_from counts s atoms h rank r ≡ flat_map of_atom (part r)) (λ r. of_rank counts s atoms rank r reach h halo) rs)
    ∙ sym (flat_map-flat_map of_atom part rs) in
    let all : map ghost_of (filter test by_atoms) ≡ flat_map of_atom es =
    ap (map ghost_of) (filter-flat_map test (λ e. map (λ shift. (e, shift)) (shifts s)) es)
    ∙ map-flat_map ghost_of (λ e. filter test (map (λ shift. (e, shift)) (shifts s))) es
    ∙ flat_map_same (λ e. map ghost_of (filter test (map (λ shift. (e, shift)) (shifts s)))) of_atom es
    (All-each (λ e. map ghost_of (filter test (map (λ shift. (e, shift)) (shifts s))) ≡ of_atom e) (λ e. by_shifts test e (shifts s)) es) in
    IsPermutation-trans _ (map ghost_of (filter test by_atoms)) _
    (IsPermutation-map ghost_of _ _ (IsPermutation-filter test _ _ (exchange (λ shift e. (e, shift)) (shifts s) es)))
    (permutation_along _ (flat_map of_atom es) _ (flat_map of_atom (flat_map part rs)) all walked
    (IsPermutation-flat_map of_atom es (flat_map part rs) (atoms_parted counts s atoms some inside)))

-- what holds of each image holds of each ghost
pub All-ghosts : (P : Ghost → Type 0) (counts : List ℕ) (s : Sides) (rank : ℕ) (reach : ℤ) (atoms : List Atom) (found : List Ghost) → All (λ p. P (ghost_of p)) (images s atoms)
    → IsPermutation (ghosts counts s rank reach atoms) found → All P found
All-ghosts P counts s rank reach atoms found all h =
    All-permutation P (ghosts counts s rank reach atoms) found h
    (All-map P ghost_of (ghost_images counts s rank reach atoms) (All-filter (is_ghost counts s rank reach) (λ p. P (ghost_of p)) (images s atoms) all))

All-images : (P : Image → Type 0) (s : Sides) (atoms : List Atom) → All (λ shift. All (λ e. P (e, shift)) (numbered 0 atoms)) (shifts s) → All P (images s atoms)
All-images P s atoms all =
    All-flat_map P (λ shift. map (λ e. (e, shift)) (numbered 0 atoms)) (shifts s)
    (All-weaker (λ shift. All (λ e. P (e, shift)) (numbered 0 atoms)) (λ shift. All P (map (λ e. (e, shift)) (numbered 0 atoms)))
    (λ shift h. All-map P (λ e. (e, shift)) (numbered 0 atoms) h) (shifts s) all)

pub stand_at_atoms : (counts : List ℕ) (s : Sides) (rank : ℕ) (reach : ℤ) (atoms : List Atom) (found : List Ghost) → IsPermutation (ghosts counts s rank reach atoms) found → All (IsGhostOf atoms) found
stand_at_atoms counts s rank reach atoms found h =
    All-ghosts (IsGhostOf atoms) counts s rank reach atoms found
    (All-images (λ p. IsGhostOf atoms (ghost_of p)) s atoms (All-each (λ shift. All (λ e. IsGhostOf atoms (ghost_of (e, shift))) (numbered 0 atoms)) (λ shift. all_at atoms) (shifts s))) h

pub ghosts_sound : (counts : List ℕ) (s : Sides) (rank : ℕ) (reach : ℤ) (atoms : List Atom) (found : List Ghost) → IsSound s → All (λ a. IsInside s a.x) atoms
    → IsPermutation (ghosts counts s rank reach atoms) found → All (IsSoundGhost s) found
ghosts_sound counts s rank reach atoms found sound inside h =
    All-ghosts (IsSoundGhost s) counts s rank reach atoms found
    (All-images (λ p. IsSoundGhost s (ghost_of p)) s atoms
    (All-weaker IsShift (λ shift. All (λ e. IsSoundGhost s (ghost_of (e, shift))) (numbered 0 atoms))
    (λ shift short. All-weaker (λ e. IsInside s e.1.x) (λ e. IsSoundGhost s (ghost_of (e, shift))) (λ e held. (held, image_near s e.1.x shift sound held short))
    (numbered 0 atoms) (All-numbered (λ a. IsInside s a.x) 0 atoms inside))
    (shifts s) (shifts_short s sound))) h
