-- The sites of a brick: how many there are, and how far out they stand.
use Rattle.std.proofs.Common.{◌≡◌, ◌+◌, ◌*◌, ◌^◌, ◌<◌, ◌≤◌, ◌==◌, Bool, true, false, ℕ, suc, ℤ, w64, to_z, of_z, FitsSigned, List, [], ◌∷◌, ◌++◌, length, map, flat_map, IsPermutation, refl, sym, ap, subst, ◌∙◌, arith}
use Rattle.std.specs.List.{All}
use Rattle.std.proofs.lemmas.List.{length-append, length-map}
use Rattle.std.proofs.lemmas.List.Elements.{All-append, All-filter, All-map, All-weaker}
use Rattle.std.proofs.lemmas.List.Sorted.{length_permutation}
use Rattle.std.proofs.lemmas.List.Sums.{count_by-le-length, length-filter}
use Rattle.std.proofs.lemmas.Int.{to_z-of_z}
use Rattle.box_geo.specs.declared.atoms.Atom.{Atom}
use Rattle.box_geo.specs.declared.atoms.Site.{Site}
use Rattle.box_geo.specs.declared.sim_box.Sides.{Sides}
use Rattle.box_geo.specs.Sides.{IsInside, IsSound, edge, z_wraps}
use Rattle.cell_bins.specs.Near.{IsSmall}
use Rattle.ghost_shell.specs.declared.atom.Ghost.{Ghost}
use Rattle.ghost_shell.specs.Ghosts.{IsNearBox, ghost_of, ghosts}
use Rattle.ghost_shell.specs.Images.{Image, ghost_images, images, is_ghost, moved, position, shifts, shifts_along}
use Rattle.ghost_shell.specs.Lists.{own_site, own_sites, sites_of}
use Rattle.ghost_shell.specs.Walks.{atoms_at}
use Rattle.ghost_shell.proofs.PlaceLemmas.{atoms_at_places, length-numbered}
use Rattle.ghost_shell.proofs.ShellLemmas.{All-ghosts}
use Rattle.ghost_shell.proofs.WalkLemmas.{IsShift, image_near, inside_near, shifts_short}
use Rattle.rank_grid.specs.Bricks.{owner}
use Rattle.rank_grid.specs.Owned.{atoms_of_rank, numbered, places_owned}
use Rattle.rank_grid.proofs.OwnedLemmas.{All-numbered}
use Rattle.sums.proofs.Lists.{All-flat_map, map-map}

small_near : (p : List ℤ) → IsNearBox p → IsSmall p
small_near p h = (omega (arith, h.0), omega (arith, h.1), omega (arith, h.2))

-- own sites
pub own_are : (counts : List ℕ) (s : Sides) (atoms : List Atom) (rank : ℕ) (places : List ℕ) → places ≡ places_owned counts s atoms rank → map own_site (atoms_at atoms places) ≡ own_sites counts s atoms rank
unfolding places_owned
own_are counts s atoms rank places is =
    ap (λ (l : List ℕ). map own_site (atoms_at atoms l)) is ∙ ap (map own_site) (atoms_at_places atoms (λ e. owner counts s e.1.x == rank))

pub places_are : (counts : List ℕ) (s : Sides) (atoms : List Atom) (rank : ℕ) (places : List ℕ) → places ≡ places_owned counts s atoms rank → places ≡ map (λ (b : Site). b.place) (own_sites counts s atoms rank)
unfolding places_owned
places_are counts s atoms rank places is = is ∙ sym (map-map (λ (b : Site). b.place) own_site (atoms_of_rank counts s atoms rank))

pub own_few : (counts : List ℕ) (s : Sides) (atoms : List Atom) (rank : ℕ) → length (own_sites counts s atoms rank) ≤ length atoms
own_few counts s atoms rank =
    let own : ℕ × Atom → Bool = λ e. owner counts s e.1.x == rank in
    omega (arith, length-map (atoms_of_rank counts s atoms rank) own_site, length-filter own (numbered 0 atoms), count_by-le-length own (numbered 0 atoms), length-numbered 0 atoms)

pub own_small : (counts : List ℕ) (s : Sides) (atoms : List Atom) (rank : ℕ) → IsSound s → All (λ a. IsInside s a.x) atoms → All (λ b. IsSmall b.x) (own_sites counts s atoms rank)
own_small counts s atoms rank sound inside =
    All-map (λ b. IsSmall b.x) own_site (atoms_of_rank counts s atoms rank)
    (All-filter (λ e. owner counts s e.1.x == rank) (λ e. IsSmall e.1.x) (numbered 0 atoms)
    (All-numbered (λ a. IsSmall a.x) 0 atoms
    (All-weaker (λ a. IsInside s a.x) (λ a. IsSmall a.x) (λ a h. small_near a.x (inside_near s a.x sound h)) atoms inside)))

-- ghosts
mul_le : (m n k : ℕ) → m ≤ n → m * k ≤ n * k
mul_le m n k le = grind arith

nine : (m n : ℕ) → m ≤ 3 → n ≤ 3 → m * n ≤ 9
nine m n a b = grind arith

rows_few : (row : ℤ → List (List ℤ)) (m : ℕ) → ((i : ℤ) → length (row i) ≡ m) → (xs : List ℤ) → length xs ≤ 3 → m ≤ 9 → length (flat_map row xs) ≤ 27
rows_few row m each xs three few =
    let all = rows_all xs in
    let most : length xs * m ≤ 3 * m = mul_le (length xs) 3 m three in
    omega (arith, all, most, few)
  where
    rows_all : (l : List ℤ) → length (flat_map row l) ≡ length l * m
    rows_all [] = omega arith
    rows_all (i ∷ l) =
        let more : suc (length l) * m ≡ m + length l * m = omega arith in
        length-append (row i) (flat_map row l) ∙ ap (λ (n : ℕ). n + length (flat_map row l)) (each i) ∙ ap (λ (n : ℕ). m + n) (rows_all l) ∙ sym more

three_along : (wraps : Bool) (l : ℤ) → length (shifts_along wraps l) ≤ 3
three_along true l = omega arith
three_along false l = omega arith

length-product : {X Y Z : Type 0} (f : X → Y → Z) (ys : List Y) (xs : List X) → length (flat_map (λ x. map (f x) ys) xs) ≡ length xs * length ys
length-product f ys [] = omega arith
length-product f ys (x ∷ xs) =
    let more : suc (length xs) * length ys ≡ length ys + length xs * length ys = omega arith in
    length-append (map (f x) ys) (flat_map (λ x. map (f x) ys) xs)
    ∙ ap (λ (n : ℕ). n + length (flat_map (λ x. map (f x) ys) xs)) (length-map ys (f x))
    ∙ ap (λ (n : ℕ). length ys + n) (length-product f ys xs)
    ∙ sym more

few_shifts : (s : Sides) → length (shifts s) ≤ 27
unfolding shifts
few_shifts s =
    let zs : List ℤ = shifts_along (z_wraps s) (edge s.z) in
    let ys : List ℤ = shifts_along s.y.periodic (edge s.y) in
    let xs : List ℤ = shifts_along s.x.periodic (edge s.x) in
    let row : ℤ → List (List ℤ) = λ i. flat_map (λ j. map (λ k. i ∷ j ∷ k ∷ []) zs) ys in
    rows_few row (length ys * length zs) (λ i. length-product (λ j k. i ∷ j ∷ k ∷ []) zs ys) xs
    (three_along s.x.periodic (edge s.x)) (nine (length ys) (length zs) (three_along s.y.periodic (edge s.y)) (three_along (z_wraps s) (edge s.z)))

few_images : (s : Sides) (atoms : List Atom) → length (images s atoms) ≤ 27 * length atoms
few_images s atoms =
    let all = length-product {Z = Image} (λ shift e. (e, shift)) (numbered 0 atoms) (shifts s) in
    let some : length (shifts s) * length atoms ≤ 27 * length atoms = mul_le (length (shifts s)) 27 (length atoms) (few_shifts s) in
    omega (arith, all, some, ap (λ (n : ℕ). length (shifts s) * n) (length-numbered 0 atoms))

pub ghosts_few : (counts : List ℕ) (s : Sides) (rank : ℕ) (reach : ℤ) (atoms : List Atom) (found : List Ghost) → IsPermutation (ghosts counts s rank reach atoms) found → length found ≤ 27 * length atoms
ghosts_few counts s rank reach atoms found h =
    let test : Image → Bool = is_ghost counts s rank reach in
    omega (arith, length_permutation (ghosts counts s rank reach atoms) found h, length-map (ghost_images counts s rank reach atoms) ghost_of, length-filter test (images s atoms), count_by-le-length test (images s atoms), few_images s atoms)

All-images : (P : Image → Type 0) (s : Sides) (atoms : List Atom) → All (λ shift. All (λ e. P (e, shift)) (numbered 0 atoms)) (shifts s) → All P (images s atoms)
All-images P s atoms all =
    All-flat_map P (λ shift. map (λ e. (e, shift)) (numbered 0 atoms)) (shifts s)
    (All-weaker (λ shift. All (λ e. P (e, shift)) (numbered 0 atoms)) (λ shift. All P (map (λ e. (e, shift)) (numbered 0 atoms)))
    (λ shift h. All-map P (λ e. (e, shift)) (numbered 0 atoms) h) (shifts s) all)

pub ghosts_small : (counts : List ℕ) (s : Sides) (rank : ℕ) (reach : ℤ) (atoms : List Atom) (found : List Ghost) → IsSound s → All (λ a. IsInside s a.x) atoms
    → IsPermutation (ghosts counts s rank reach atoms) found → All (λ b. IsSmall b.x) (sites_of found)
ghosts_small counts s rank reach atoms found sound inside h =
    All-map (λ b. IsSmall b.x) (λ (g : Ghost). g.site) found
    (All-ghosts (λ g. IsSmall g.site.x) counts s rank reach atoms found
    (All-images (λ p. IsSmall (position p)) s atoms
    (All-weaker IsShift (λ shift. All (λ e. IsSmall (position (e, shift))) (numbered 0 atoms))
    (λ shift short. All-weaker (λ e. IsInside s e.1.x) (λ e. IsSmall (position (e, shift))) (λ e held. small_near (moved e.1.x shift) (image_near s e.1.x shift sound held short))
    (numbered 0 atoms) (All-numbered (λ a. IsInside s a.x) 0 atoms inside))
    (shifts s) (shifts_short s sound))) h)

-- all sites
pub all_few : (counts : List ℕ) (s : Sides) (rank : ℕ) (reach : ℤ) (atoms : List Atom) (found : List Ghost) → length atoms ≤ 2 ^ 20 → IsPermutation (ghosts counts s rank reach atoms) found
    → length (own_sites counts s atoms rank ++ sites_of found) < 2 ^ 32
all_few counts s rank reach atoms found few h =
    omega (arith, length-append (own_sites counts s atoms rank) (sites_of found), own_few counts s atoms rank, length-map found (λ (g : Ghost). g.site), ghosts_few counts s rank reach atoms found h)

pub all_small : (counts : List ℕ) (s : Sides) (rank : ℕ) (reach : ℤ) (atoms : List Atom) (found : List Ghost) → IsSound s → All (λ a. IsInside s a.x) atoms
    → IsPermutation (ghosts counts s rank reach atoms) found → All (λ b. IsSmall b.x) (own_sites counts s atoms rank ++ sites_of found)
all_small counts s rank reach atoms found sound inside h =
    All-append (λ b. IsSmall b.x) (own_sites counts s atoms rank) (sites_of found) (own_small counts s atoms rank sound inside) (ghosts_small counts s rank reach atoms found sound inside h)

-- what was made of atoms and ghosts that were handed on
pub made_own : (counts : List ℕ) (s : Sides) (atoms given : List Atom) (rank : ℕ) (places : List ℕ) (own : List Site) → given ≡ atoms → places ≡ places_owned counts s atoms rank
    → own ≡ map own_site (atoms_at given places) → own ≡ own_sites counts s atoms rank
made_own counts s atoms given rank places own same is made = made ∙ ap (λ (l : List Atom). map own_site (atoms_at l places)) same ∙ own_are counts s atoms rank places is

pub made_all : (counts : List ℕ) (s : Sides) (atoms given : List Atom) (rank : ℕ) (places : List ℕ) (all : List Site) (lent found : List Ghost) → given ≡ atoms → places ≡ places_owned counts s atoms rank → lent ≡ found
    → all ≡ map own_site (atoms_at given places) ++ sites_of lent → all ≡ own_sites counts s atoms rank ++ sites_of found
made_all counts s atoms given rank places all lent found same is kept made =
    made ∙ ap (λ (l : List Site). l ++ sites_of lent) (made_own counts s atoms given rank places _ same is refl) ∙ ap (λ (l : List Ghost). own_sites counts s atoms rank ++ sites_of l) kept

pub places_few : (counts : List ℕ) (s : Sides) (atoms : List Atom) (rank : ℕ) (places : List ℕ) → length atoms ≤ 2 ^ 20 → places ≡ places_owned counts s atoms rank → (length places < 2 ^ 32) × (length (own_sites counts s atoms rank) ≡ length places)
places_few counts s atoms rank places few is =
    let long : length places ≡ length (own_sites counts s atoms rank) = ap length (places_are counts s atoms rank places is) ∙ length-map (own_sites counts s atoms rank) (λ (b : Site). b.place) in
    (omega (arith, long, own_few counts s atoms rank), sym long)

-- a reach that is passed by value
pub read_reach : (counts : List ℕ) (s : Sides) (rank : ℕ) (reach : ℤ) (atoms : List Atom) (found : List Ghost) → FitsSigned w64 reach
    → IsPermutation (ghosts counts s rank (to_z w64 (of_z w64 reach)) atoms) found → IsPermutation (ghosts counts s rank reach atoms) found
read_reach counts s rank reach atoms found fits h = subst (λ (z : ℤ). IsPermutation (ghosts counts s rank z atoms) found) (to_z-of_z w64 reach fits) h
