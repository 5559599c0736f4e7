-- The lists of all bricks have each near pair once.
use Rattle.std.proofs.Common.{◌≡◌, ◌++◌, ◌<◌, ◌≤◌, ◌+◌, ◌==◌, ◌&&◌, Bool, true, false, ℕ, zero, suc, pos, nat_lt, List, [], ◌∷◌, get_or, map, filter, flat_map, IsPermutation, refl, sym, ap, subst, ◌∙◌, arith}
use Rattle.std.specs.List.{All, range_with_len}
use Rattle.std.specs.List.Sorted.{IsStrictlyIncreasing}
use Rattle.std.proofs.lemmas.Bool.Decides.{nat_tests}
use Rattle.std.proofs.lemmas.List.{map-append}
use Rattle.std.proofs.lemmas.List.Folds.{flat_map-map}
use Rattle.std.proofs.lemmas.List.Elements.{All-cons, All-filter, All-nil, All-weaker, filter-append, filter_passes}
use Rattle.std.proofs.lemmas.List.Sorted.{IsPermutation-trans}
use Rattle.box_geo.specs.declared.atoms.Atom.{Atom}
use Rattle.box_geo.specs.declared.atoms.Site.{Site}
use Rattle.box_geo.specs.declared.sim_box.Sides.{Sides}
use Rattle.box_geo.specs.Sides.{HasEdges, IsInside}
use Rattle.rank_grid.specs.Bricks.{AreCounts, owner, ranks}
use Rattle.rank_grid.specs.Owned.{atoms_of_rank, numbered}
use Rattle.rank_grid.proofs.OwnedLemmas.{All-numbered, atoms_parted}
use Rattle.sums.specs.Totals.{half}
use Rattle.ghost_shell.specs.declared.atom.Ghost.{Ghost}
use Rattle.ghost_shell.specs.Ghosts.{ghosts}
use Rattle.ghost_shell.specs.Lists.{HasRoom, HaveRisingIds, are_near, is_in_row, near_places, own_site, own_sites, pairs_of_rows, sites_of}
use Rattle.sums.proofs.Lists.{IsPermutation-flat_map, filter_same, filter-map, flat_map_each, flat_map_same, flat_map-flat_map, map-map, permutation_along}
use Rattle.ghost_shell.proofs.RowLemmas.{in_own, row_over_sites}

-- rising numbers, each below all that follow
module _ {X : Type 0} (id : X → ℕ) where
  abbrev pub Rises : List X → Type 0
  Rises [] = Unit {0}
  Rises (x ∷ xs) = All (λ y. id x < id y) xs × Rises xs

  module _ (near : X → X → Bool) where
    abbrev above : X → X → Bool
    above x y = nat_lt (id x) (id y) && near x y

    not_above : (x y : X) → id y ≤ id x → above x y ≡ false
    not_above x y le = let t : nat_lt (id x) (id y) ≡ false = grind (arith, nat_tests) in rw t refl

    is_above : (x y : X) → id x < id y → above x y ≡ near x y
    is_above x y lt = let t : nat_lt (id x) (id y) ≡ true = grind (arith, nat_tests) in rw t refl

    left_out : (x : X) (xs : List X) (y : X) → id y ≤ id x → filter (above x) (y ∷ xs) ≡ filter (above x) xs
    left_out x xs y le = let t = not_above x y le in rw t refl

    -- the rows of greater numbers, one after another, are the near pairs
    pub rows_are_half : {Y : Type 0} (f : X → X → Y) (xs : List X) → Rises xs
        → flat_map (λ x. map (f x) (filter (above x) xs)) xs ≡ map (λ (p : X × X). f p.0 p.1) (filter (λ (p : X × X). near p.0 p.1) (half xs))
    rows_are_half f [] h = refl
    rows_are_half f (x ∷ xs) h =
        let first : map (f x) (filter (above x) (x ∷ xs)) ≡ map (λ (p : X × X). f p.0 p.1) (filter (λ (p : X × X). near p.0 p.1) (map (λ y. (x, y)) xs)) =
        ap (map (f x)) (left_out x xs x (omega arith) ∙ filter_same (above x) (near x) xs (All-weaker (λ y. id x < id y) (λ y. above x y ≡ near x y) (λ y lt. is_above x y lt) xs h.0))
        ∙ sym (ap (map (λ (p : X × X). f p.0 p.1)) (filter-map (λ (p : X × X). near p.0 p.1) (λ y. (x, y)) xs) ∙ map-map (λ (p : X × X). f p.0 p.1) (λ y. (x, y)) (filter (near x) xs)) in
        let others : flat_map (λ y. map (f y) (filter (above y) (x ∷ xs))) xs ≡ flat_map (λ y. map (f y) (filter (above y) xs)) xs =
        flat_map_same (λ y. map (f y) (filter (above y) (x ∷ xs))) (λ y. map (f y) (filter (above y) xs)) xs
        (All-weaker (λ y. id x < id y) (λ y. map (f y) (filter (above y) (x ∷ xs)) ≡ map (f y) (filter (above y) xs)) (λ y lt. ap (map (f y)) (left_out y xs x (omega arith))) xs h.0) in
        ap (λ (l : List _). l ++ flat_map (λ y. map (f y) (filter (above y) (x ∷ xs))) xs) first
        ∙ ap (λ (l : List _). map (λ (p : X × X). f p.0 p.1) (filter (λ (p : X × X). near p.0 p.1) (map (λ y. (x, y)) xs)) ++ l) (others ∙ rows_are_half f xs h.1)
        ∙ sym (ap (map (λ (p : X × X). f p.0 p.1)) (filter-append (λ (p : X × X). near p.0 p.1) (map (λ y. (x, y)) xs) (half xs))
        ∙ map-append (λ (p : X × X). f p.0 p.1) (filter (λ (p : X × X). near p.0 p.1) (map (λ y. (x, y)) xs)) (filter (λ (p : X × X). near p.0 p.1) (half xs)))

-- atoms in rising order of id
tail_rises : (x : ℕ) (xs : List ℕ) → IsStrictlyIncreasing (x ∷ xs) → IsStrictlyIncreasing xs
tail_rises x xs h = λ k lt.
    let same : suc k + 1 ≡ suc (k + 1) = omega arith in
    subst (λ (n : ℕ). get_or xs k 0 < get_or (x ∷ xs) n 0) same (h (suc k) (omega arith))

all_above : (m v : ℕ) (atoms : List Atom) → IsStrictlyIncreasing (v ∷ map (λ a. a.id) atoms) → All (λ e. v < e.1.id) (numbered m atoms)
all_above m v [] h = All-nil (λ e. v < e.1.id)
all_above m v (a ∷ others) h =
    let here : v < a.id = h 0 (omega arith) in
    All-cons (λ e. v < e.1.id) (m, a) (numbered (m + 1) others) here
    (All-weaker (λ e. a.id < e.1.id) (λ e. v < e.1.id) (λ e lt. omega arith) (numbered (m + 1) others)
    (all_above (m + 1) a.id others (tail_rises v (a.id ∷ map (λ b. b.id) others) h)))

numbered_rises : (m : ℕ) (atoms : List Atom) → HaveRisingIds atoms → Rises (λ e. e.1.id) (numbered m atoms)
numbered_rises m [] h = tt
numbered_rises m (a ∷ others) h = (all_above (m + 1) a.id others h, numbered_rises (m + 1) others (tail_rises a.id (map (λ b. b.id) others) h))

below_all : (a n m : ℕ) → a + n ≤ m → All (λ r. r < m) (range_with_len a n)
below_all a zero m le = All-nil (λ r. r < m)
below_all a (suc n) m le = All-cons (λ r. r < m) a (range_with_len (a + 1) n) (omega arith) (below_all (a + 1) n m (omega arith))

module _ (counts : List ℕ) (s : Sides) (atoms : List Atom) (reach : ℕ) (some : AreCounts counts) (long : HasEdges s) (room : HasRoom s reach) (act : 0 < reach)
    (inside : All (λ a. IsInside s a.x) atoms) where
  abbrev row_of_atom : ℕ × Atom → List (ℕ × ℕ)
  row_of_atom a = map (λ b. (a.0, b.0)) (filter (λ b. nat_lt a.1.id b.1.id && are_near s reach (a, b)) (numbered 0 atoms))

  rows_of_rank : (rank : ℕ) (shell : List Ghost) → IsPermutation (ghosts counts s rank (pos reach) atoms) shell
      → IsPermutation (flat_map row_of_atom (atoms_of_rank counts s atoms rank)) (pairs_of_rows reach (own_sites counts s atoms rank) (own_sites counts s atoms rank ++ sites_of shell))
  rows_of_rank rank shell h =
      let own : List (ℕ × Atom) = atoms_of_rank counts s atoms rank in
      let sites : List Site = own_sites counts s atoms rank ++ sites_of shell in
      let row : Site → List (ℕ × ℕ) = λ a. map (λ b. (a.place, b.place)) (filter (is_in_row reach a) sites) in
      let held : All (λ a. (owner counts s a.1.x == rank) ≡ true) own = filter_passes (λ e. owner counts s e.1.x == rank) (numbered 0 atoms) in
      let within : All (λ a. IsInside s a.1.x) own = All-filter (λ e. owner counts s e.1.x == rank) (λ e. IsInside s e.1.x) (numbered 0 atoms) (All-numbered (λ a. IsInside s a.x) 0 atoms inside) in
      let P : List (ℕ × ℕ) → Type 0 = λ l. IsPermutation (flat_map row_of_atom own) l in
      subst P (sym (flat_map-map row own_site own))
      (flat_map_each row_of_atom (λ a. row (own_site a)) own
      (λ k d lt. row_over_sites counts s atoms rank reach (get_or own k d) some long room act inside (within k d lt) (in_own counts s rank (get_or own k d).1.x some (within k d lt) (held k d lt)) shell h))

  pub each_pair_once : (shells : ℕ → List Ghost) (lists : ℕ → List (ℕ × ℕ)) → HaveRisingIds atoms
      → ((rank : ℕ) → rank < ranks counts → IsPermutation (ghosts counts s rank (pos reach) atoms) (shells rank))
      → ((rank : ℕ) → rank < ranks counts → IsPermutation (pairs_of_rows reach (own_sites counts s atoms rank) (own_sites counts s atoms rank ++ sites_of (shells rank))) (lists rank))
      → IsPermutation (near_places s reach atoms) (flat_map lists (range_with_len 0 (ranks counts)))
  each_pair_once shells lists rise found listed =
      let es : List (ℕ × Atom) = numbered 0 atoms in
      let rs : List ℕ = range_with_len 0 (ranks counts) in
      let part : ℕ → List (ℕ × Atom) = atoms_of_rank counts s atoms in
      let rows : flat_map row_of_atom es ≡ near_places s reach atoms = rows_are_half (λ e. e.1.id) (λ a b. are_near s reach (a, b)) (λ a b. (a.0, b.0)) es (numbered_rises 0 atoms rise) in
      permutation_along (near_places s reach atoms) (flat_map row_of_atom es) _ _ (sym rows) refl
      (IsPermutation-trans _ (flat_map row_of_atom (flat_map part rs)) _
      (IsPermutation-flat_map row_of_atom es (flat_map part rs) (atoms_parted counts s atoms some inside))
      (permutation_along _ (flat_map (λ r. flat_map row_of_atom (part r)) rs) _ (flat_map lists rs) (flat_map-flat_map row_of_atom part rs) refl
      (flat_map_each (λ r. flat_map row_of_atom (part r)) lists rs
      (All-weaker (λ r. r < ranks counts) (λ r. IsPermutation (flat_map row_of_atom (part r)) (lists r))
      (λ r lt. IsPermutation-trans _ _ _ (rows_of_rank r (shells r) (found r lt)) (listed r lt)) rs (below_all 0 (ranks counts) (ranks counts) (omega arith))))))
