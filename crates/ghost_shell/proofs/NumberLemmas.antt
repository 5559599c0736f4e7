-- Sites that are numbered by their places in their own list.
use Rattle.std.proofs.Common.{◌≡◌, ◌++◌, ◌<◌, ◌+◌, ◌==◌, Bool, true, false, cond, ℕ, suc, pos, List, [], ◌∷◌, length, map, filter, flat_map, IsPermutation, refl, sym, ap, subst, ◌∙◌, arith}
use Rattle.std.specs.Prelude.{slice_index}
use Rattle.std.specs.List.{All, IsDistinct, range_with_len}
use Rattle.std.proofs.lemmas.Bool.Decides.{nat_tests}
use Rattle.std.proofs.lemmas.List.{get_or_append_left, length-map, map-append}
use Rattle.std.proofs.lemmas.List.FromFn.{get_or-range_with_len, length-range_with_len}
use Rattle.std.proofs.lemmas.List.Sorted.{IsPermutation-map}
use Rattle.std.proofs.lemmas.Map.Keys.{IsDistinct-from_apart}
use Rattle.box_geo.specs.declared.atoms.Atom.{Atom}
use Rattle.box_geo.specs.declared.atoms.Site.{Site}
use Rattle.box_geo.specs.declared.sim_box.Sides.{Sides}
use Rattle.box_geo.specs.Sides.{HasEdges, IsInside}
use Rattle.rank_grid.specs.Bricks.{AreCounts, ranks}
use Rattle.ghost_shell.specs.declared.atom.Ghost.{Ghost}
use Rattle.ghost_shell.specs.Ghosts.{ghosts}
use Rattle.ghost_shell.specs.Lists.{HasRoom, HaveRisingIds, atom_places, is_in_row, near_places, own_sites, pairs_of_rows, rank_sites, sites_numbered, sites_of}
use Rattle.ghost_shell.proofs.ListsLemmas.{each_pair_once}

-- no two sites have one number
places_numbered : (k : ℕ) (sites : List Site) → map (λ s. s.place) (sites_numbered k sites) ≡ range_with_len k (length sites)
places_numbered k [] = refl
places_numbered k (s ∷ sites) = ap (λ (l : List ℕ). k ∷ l) (places_numbered (k + 1) sites)

pub own_numbers : (sites : List Site) → IsDistinct (λ a b. a == b) (map (λ s. s.place) (sites_numbered 0 sites))
own_numbers sites =
    let n : ℕ = length sites in
    let long : length (range_with_len 0 n) ≡ n = length-range_with_len 0 n in
    subst (IsDistinct (λ a b. a == b)) (sym (places_numbered 0 sites))
    (IsDistinct-from_apart (λ a b. a == b) (range_with_len 0 n)
    (λ i j d lt hi.
    let one = get_or-range_with_len 0 n i d (omega (arith, long)) in
    let other = get_or-range_with_len 0 n j d (omega (arith, long)) in
    rw (one, other) (grind (arith, nat_tests))))

module _ (reach : ℕ) (at : ℕ → ℕ) where
  abbrev placed : ℕ × ℕ → ℕ × ℕ
  placed p = (at p.0, at p.1)

  -- sites stand, from a number on, where they are looked up
  abbrev pub Stand : ℕ → List Site → Type 0
  Stand k xs = (i : ℕ) → i < length xs → at (k + i) ≡ slice_index (map (λ (s : Site). s.place) xs) i

  first : (k : ℕ) (x : Site) (xs : List Site) → Stand k (x ∷ xs) → at k ≡ x.place
  first k x xs stand = ap at (let e : k ≡ k + 0 = omega arith in e) ∙ stand 0 (omega arith)

  others : (k : ℕ) (x : Site) (xs : List Site) → Stand k (x ∷ xs) → Stand (k + 1) xs
  others k x xs stand = λ i lt. ap at (let e : (k + 1) + i ≡ k + suc i = omega arith in e) ∙ stand (suc i) (omega arith)

  row_numbered : (a : Site) (n k : ℕ) (xs : List Site) → Stand k xs
      → map placed (map (λ b. (n, b.place)) (filter (is_in_row reach a) (sites_numbered k xs))) ≡ map (λ b. (at n, b.place)) (filter (is_in_row reach a) xs)
  row_numbered a n k [] stand = refl
  row_numbered a n k (x ∷ xs) stand = one (is_in_row reach a x) (first k x xs stand) (row_numbered a n (k + 1) xs (others k x xs stand))
    where
      one : (b : Bool) → at k ≡ x.place → map placed (map (λ c. (n, c.place)) (filter (is_in_row reach a) (sites_numbered (k + 1) xs))) ≡ map (λ c. (at n, c.place)) (filter (is_in_row reach a) xs)
          → map placed (map (λ (c : Site). (n, c.place)) (cond b (record x { place = k } ∷ filter (is_in_row reach a) (sites_numbered (k + 1) xs)) (filter (is_in_row reach a) (sites_numbered (k + 1) xs))))
          ≡ map (λ (c : Site). (at n, c.place)) (cond b (x ∷ filter (is_in_row reach a) xs) (filter (is_in_row reach a) xs))
      one true is e =
          ap (λ (m : ℕ). (at n, m) ∷ map placed (map (λ (c : Site). (n, c.place)) (filter (is_in_row reach a) (sites_numbered (k + 1) xs)))) is
          ∙ ap (λ (l : List (ℕ × ℕ)). (at n, x.place) ∷ l) e
      one false is e = e

  rows_numbered : (all : List Site) → Stand 0 all → (k : ℕ) (own : List Site) → Stand k own
      → map placed (pairs_of_rows reach (sites_numbered k own) (sites_numbered 0 all)) ≡ pairs_of_rows reach own all
  rows_numbered all stand k [] there = refl
  rows_numbered all stand k (a ∷ more) there =
      let rest : List (ℕ × ℕ) = pairs_of_rows reach (sites_numbered (k + 1) more) (sites_numbered 0 all) in
      map-append placed (map (λ b. (k, b.place)) (filter (is_in_row reach a) (sites_numbered 0 all))) rest
      ∙ ap (λ (l : List (ℕ × ℕ)). l ++ map placed rest) (row_numbered a k 0 all stand)
      ∙ ap (λ (n : ℕ). map (λ b. (n, b.place)) (filter (is_in_row reach a) all) ++ map placed rest) (first k a more there)
      ∙ ap (λ (l : List (ℕ × ℕ)). map (λ b. (a.place, b.place)) (filter (is_in_row reach a) all) ++ l) (rows_numbered all stand (k + 1) more (others k a more there))

-- the pairs of a rank by the numbers of its sites are its pairs by the places of atoms
pub rank_numbered : (reach : ℕ) (own more : List Site)
    → map (atom_places (own ++ more)) (pairs_of_rows reach (sites_numbered 0 own) (sites_numbered 0 (own ++ more))) ≡ pairs_of_rows reach own (own ++ more)
rank_numbered reach own more =
    let places : List Site → List ℕ = map (λ (s : Site). s.place) in
    let at : ℕ → ℕ = λ (k : ℕ). slice_index (places (own ++ more)) k in
    let from_zero : (i : ℕ) → 0 + i ≡ i = λ i. omega arith in
    rows_numbered reach at (own ++ more) (λ i lt. ap at (from_zero i)) 0 own
    (λ i lt. ap at (from_zero i) ∙ ap (λ (l : List ℕ). slice_index l i) (map-append (λ (s : Site). s.place) own more)
    ∙ get_or_append_left (places own) (places more) 0 i (omega (arith, length-map own (λ (s : Site). s.place))))

pub each_numbered_once : (counts : List ℕ) (s : Sides) (atoms : List Atom) (reach : ℕ) (shells : ℕ → List Ghost) (lists : ℕ → List (ℕ × ℕ))
    → AreCounts counts → HasEdges s → HasRoom s reach → 0 < reach → All (λ a. IsInside s a.x) atoms → HaveRisingIds atoms
    → ((rank : ℕ) → rank < ranks counts → IsPermutation (ghosts counts s rank (pos reach) atoms) (shells rank))
    → ((rank : ℕ) → rank < ranks counts → IsPermutation (pairs_of_rows reach (sites_numbered 0 (own_sites counts s atoms rank)) (sites_numbered 0 (rank_sites counts s atoms rank (shells rank)))) (lists rank))
    → IsPermutation (near_places s reach atoms) (flat_map (λ rank. map (atom_places (rank_sites counts s atoms rank (shells rank))) (lists rank)) (range_with_len 0 (ranks counts)))
each_numbered_once counts s atoms reach shells lists some long room act inside rise found listed =
    let sites : ℕ → List Site = λ rank. rank_sites counts s atoms rank (shells rank) in
    each_pair_once counts s atoms reach some long room act inside shells (λ rank. map (atom_places (sites rank)) (lists rank)) rise found
    (λ rank lt.
    let own : List Site = own_sites counts s atoms rank in
    subst (λ (l : List (ℕ × ℕ)). IsPermutation l (map (atom_places (sites rank)) (lists rank))) (rank_numbered reach own (sites_of (shells rank)))
    (IsPermutation-map (atom_places (sites rank)) (pairs_of_rows reach (sites_numbered 0 own) (sites_numbered 0 (sites rank))) (lists rank) (listed rank lt)))
