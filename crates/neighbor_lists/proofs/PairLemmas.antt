-- The pairs of a brick: by its rows, over its sites in any order; and those of all bricks.
use Rattle.std.proofs.Common.{◌≡◌, ◌+◌, ◌<◌, ℕ, suc, ℤ, pos, ◌<ℤ◌, unsigned_abs, List, [], ◌∷◌, ◌++◌, length, get_or, take, drop, map, flat_map, filter, IsPermutation, sym, ap, subst, ◌∙◌, append_assoc, arith}
use Rattle.std.specs.List.{All, range_with_len}
use Rattle.std.proofs.lemmas.List.{append-nil, get_or_default, map-append, take_more}
use Rattle.std.proofs.lemmas.Grind.{flat_map-append}
use Rattle.std.proofs.lemmas.List.Sorted.{IsPermutation-append, IsPermutation-append_right, IsPermutation-map, IsPermutation-refl, IsPermutation-trans}
use Rattle.std.proofs.lemmas.Int.{ints}
use Rattle.box_geo.specs.declared.atoms.Atom.{Atom}
use Rattle.box_geo.specs.declared.atoms.Site.{Site}
use Rattle.box_geo.specs.declared.sim_box.Sides.{Sides}
use Rattle.box_geo.specs.Sides.{HasEdges, IsInside}
use Rattle.ghost_shell.specs.declared.atom.Ghost.{Ghost}
use Rattle.ghost_shell.specs.Ghosts.{ghosts}
use Rattle.ghost_shell.specs.Lists.{HasRoom, HaveRisingIds, is_in_row, near_places, own_site, own_sites, pairs_of_rows, rank_sites, sites_of}
use Rattle.ghost_shell.specs.Walks.{atoms_at}
use Rattle.ghost_shell.proofs.ListsLemmas.{each_pair_once}
use Rattle.ghost_shell.proofs.PlaceLemmas.{one_at}
use Rattle.half_list.specs.Neighbours.{neighbours}
use Rattle.neighbor_lists.specs.Pairs.{brick_pairs, row_pairs}
use Rattle.rank_grid.specs.Bricks.{AreCounts, ranks}
use Rattle.rank_grid.specs.Owned.{numbered}
use Rattle.sums.proofs.Filters.{IsPermutation-flat_map_each}
use Rattle.sums.proofs.Lists.{IsPermutation-filter, map-map}

-- the sites of own atoms, one more
pub sites_more : (atoms : List Atom) (places : List ℕ) (i k : ℕ) (d : Atom) (x : Site) (old now new : List Site) → i < length places → k ≡ get_or places i 0 → k < length atoms → x ≡ own_site (k, get_or atoms k d)
    → now ≡ old ++ map own_site (atoms_at atoms (take i places)) → new ≡ now ++ x ∷ []
    → new ≡ old ++ map own_site (atoms_at atoms (take (i + 1) places))
sites_more atoms places i k d x old now new lt is within made so pushed =
    let a : Atom = get_or atoms k d in
    let stands : a ≡ get_or atoms k a = get_or_default atoms k d a within in
    let before : List ℕ = take i places in
    let one : atoms_at atoms (k ∷ []) ≡ (k, a) ∷ [] = ap (λ (l : List (ℕ × Atom)). l ++ []) (one_at atoms k a within stands) in
    pushed
    ∙ ap (λ (y : Site). now ++ y ∷ []) made
    ∙ ap (λ (l : List Site). l ++ own_site (k, a) ∷ []) so
    ∙ append_assoc old (map own_site (atoms_at atoms before)) (own_site (k, a) ∷ [])
    ∙ ap (λ (l : List Site). old ++ l)
    (sym (ap (λ (l : List ℕ). map own_site (atoms_at atoms l)) (take_more places i 0 lt ∙ ap (λ (n : ℕ). before ++ n ∷ []) (sym is))
    ∙ ap (map own_site) (flat_map-append (λ (n : ℕ). take 1 (drop n (numbered 0 atoms))) before (k ∷ []) ∙ ap (λ (l : List (ℕ × Atom)). atoms_at atoms before ++ l) one)
    ∙ map-append own_site (atoms_at atoms before) ((k, a) ∷ [])))

-- the pairs of all bricks
pub bricks_share : (counts : List ℕ) (s : Sides) (atoms : List Atom) (reach : ℕ)
    → AreCounts counts → HasEdges s → HasRoom s reach → 0 < reach
    → All (λ a. IsInside s a.x) atoms → HaveRisingIds atoms
    → IsPermutation (near_places s reach atoms) (flat_map (brick_pairs counts s reach atoms) (range_with_len 0 (ranks counts)))
unfolding brick_pairs
bricks_share counts s atoms reach some long room act inside rise =
    each_pair_once counts s atoms reach some long room act inside
    (λ rank. ghosts counts s rank (pos reach) atoms) _ rise
    (λ rank lt. IsPermutation-refl (ghosts counts s rank (pos reach) atoms))
    (λ rank lt. IsPermutation-refl (pairs_of_rows reach (own_sites counts s atoms rank) (rank_sites counts s atoms rank (ghosts counts s rank (pos reach) atoms))))

-- those of one brick
pub one_brick : (s : Sides) (atoms : List Atom) (reach : ℕ) → HasEdges s → HasRoom s reach → 0 < reach → All (λ a. IsInside s a.x) atoms → HaveRisingIds atoms
    → IsPermutation (near_places s reach atoms) (brick_pairs (1 ∷ 1 ∷ 1 ∷ []) s reach atoms 0)
one_brick s atoms reach long room act inside rise =
    let counts : List ℕ = 1 ∷ 1 ∷ 1 ∷ [] in
    let some : AreCounts counts = (omega arith, omega arith, omega arith, omega arith) in
    subst (λ l. IsPermutation (near_places s reach atoms) l) (append-nil (brick_pairs counts s reach atoms 0))
    (bricks_share counts s atoms reach some long room act inside rise)

-- rows that hold the neighbours of the own sites
pub pairs_by_rows : (reach : ℕ) (sites : List Site) (row : ℕ → List ℕ) (first : ℕ) (own : List Site)
    → ((k : ℕ) (d : Site) → k < length own → IsPermutation (neighbours reach (get_or own k d) sites) (row (first + k)))
    → IsPermutation (pairs_of_rows reach own sites) (flat_map (row_pairs row) (numbered first (map (λ s. s.place) own)))
pairs_by_rows reach sites row first [] rows = IsPermutation-refl []
pairs_by_rows reach sites row first (a ∷ own) rows =
    let near : List Site = filter (is_in_row reach a) sites in
    let same : first + 0 ≡ first = omega arith in
    let here : IsPermutation (neighbours reach a sites) (row first) = subst (λ n. IsPermutation (neighbours reach a sites) (row n)) same (rows 0 a (omega arith)) in
    IsPermutation-append (map (λ b. (a.place, b.place)) near) (row_pairs row (first, a.place)) _ _
    (subst (λ l. IsPermutation l (row_pairs row (first, a.place))) (map-map (λ (q : ℕ). (a.place, q)) (λ (b : Site). b.place) near)
    (IsPermutation-map (λ (q : ℕ). (a.place, q)) (neighbours reach a sites) (row first) here))
    (pairs_by_rows reach sites row (first + 1) own
    (λ k d lt. let next : first + suc k ≡ first + 1 + k = omega arith in
    subst (λ n. IsPermutation (neighbours reach (get_or own k d) sites) (row n)) next (rows (suc k) d (omega arith))))

-- the pairs of own sites with others, in any order
pub pairs_among : (reach : ℕ) (own sites others : List Site) → IsPermutation sites others → IsPermutation (pairs_of_rows reach own sites) (pairs_of_rows reach own others)
pairs_among reach own sites others h =
    IsPermutation-flat_map_each _ _ own
    (λ a. IsPermutation-map (λ (b : Site). (a.place, b.place)) _ _ (IsPermutation-filter (is_in_row reach a) sites others h))

-- the list of a brick
pub listed : (counts : List ℕ) (s : Sides) (atoms : List Atom) (rank : ℕ) (reach given : ℤ) (found : List Ghost) (own all : List Site) (places : List ℕ) (row : ℕ → List ℕ) → pos 0 <ℤ reach → given ≡ reach
    → own ≡ own_sites counts s atoms rank → all ≡ own_sites counts s atoms rank ++ sites_of found → places ≡ map (λ (b : Site). b.place) (own_sites counts s atoms rank)
    → IsPermutation (ghosts counts s rank reach atoms) found
    → ((k : ℕ) (d : Site) → k < length own → IsPermutation (neighbours (unsigned_abs given) (get_or own k d) all) (row k))
    → IsPermutation (brick_pairs counts s (unsigned_abs reach) atoms rank) (flat_map (row_pairs row) (numbered 0 places))
unfolding brick_pairs
listed counts s atoms rank reach given found own all places row act kept own_is all_is places_is h rows =
    let r : ℕ = unsigned_abs reach in
    let mine : List Site = own_sites counts s atoms rank in
    let away : List Ghost = ghosts counts s rank (pos r) atoms in
    let same : reach ≡ pos r = omega (arith, ints) in
    let shell : IsPermutation away found = subst (λ (z : ℤ). IsPermutation (ghosts counts s rank z atoms) found) same h in
    let sites : IsPermutation (mine ++ sites_of away) all =
    subst (λ (l : List Site). IsPermutation (mine ++ sites_of away) l) (sym all_is)
    (IsPermutation-append_right mine (sites_of away) (sites_of found) (IsPermutation-map (λ (g : Ghost). g.site) away found shell)) in
    let by_rows : IsPermutation (pairs_of_rows r mine all) (flat_map (row_pairs row) (numbered 0 (map (λ (b : Site). b.place) mine))) =
    pairs_by_rows r all row 0 mine
    (subst (λ (l : List Site). (k : ℕ) (d : Site) → k < length l → IsPermutation (neighbours r (get_or l k d) all) (row (0 + k))) own_is (λ k d lt.
    let e : k ≡ 0 + k = omega arith in
    subst (λ (n : ℕ). IsPermutation (neighbours r (get_or own k d) all) (row n)) e (subst (λ (z : ℤ). IsPermutation (neighbours (unsigned_abs z) (get_or own k d) all) (row k)) kept (rows k d lt)))) in
    IsPermutation-trans (pairs_of_rows r mine (mine ++ sites_of away)) (pairs_of_rows r mine all) _
    (pairs_among r mine (mine ++ sites_of away) all sites)
    (subst (λ (l : List ℕ). IsPermutation (pairs_of_rows r mine all) (flat_map (row_pairs row) (numbered 0 l))) (sym places_is) by_rows)
