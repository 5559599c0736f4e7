-- The row of an atom over the sites of its brick is the row over all atoms.
use Rattle.std.proofs.Common.{◌≡◌, ◌++◌, ◌<◌, ◌==◌, ◌&&◌, ◌||◌, Bool, true, false, not, cond, ℕ, ℤ, pos, ◌+ℤ◌, ◌-ℤ◌, nat_lt, unsigned_abs, List, [], ◌∷◌, map, filter, flat_map, IsPermutation, refl, sym, ap, subst, ◌∙◌, arith}
use Rattle.std.specs.List.{All}
use Rattle.std.proofs.lemmas.Int.{ints}
use Rattle.std.proofs.lemmas.Bool.Decides.{nat_tests}
use Rattle.std.proofs.lemmas.List.{append-nil, map-append}
use Rattle.std.proofs.lemmas.List.Concat.{flat_map_single}
use Rattle.std.proofs.lemmas.List.Elements.{All-weaker, All-map, filter-append}
use Rattle.std.proofs.lemmas.List.Sorted.{IsPermutation-sym, IsPermutation-trans, IsPermutation-map, IsPermutation-append_right, IsPermutation-filter_both}
use Rattle.box_geo.specs.declared.atoms.Atom.{Atom}
use Rattle.box_geo.specs.declared.atoms.Site.{Site}
use Rattle.box_geo.specs.declared.sim_box.Sides.{Sides}
use Rattle.box_geo.specs.Sides.{HasEdges, IsInside, x_of, y_of, z_of}
use Rattle.rank_grid.specs.Bricks.{AreCounts, IsBetween, IsInBrick, owner}
use Rattle.rank_grid.specs.Owned.{atoms_of_rank, numbered}
use Rattle.rank_grid.proofs.RankLemmas.{owner-holds}
use Rattle.rank_grid.proofs.OwnedLemmas.{All-numbered}
use Rattle.ghost_shell.specs.declared.atom.Ghost.{Ghost}
use Rattle.ghost_shell.specs.Images.{Image, ghost_images, images, is_beside, is_in_halo, is_own, moved, position, shifts, stays}
use Rattle.ghost_shell.specs.Ghosts.{ghost_of, ghosts}
use Rattle.ghost_shell.specs.Lists.{HasRoom, are_near, difference, is_in_row, is_short, nearest_shift, own_site, own_sites, sites_of}
use Rattle.sums.proofs.Lists.{All-each, All-flat_map, IsPermutation-filter, exchange, filter_none, filter_same, filter-filter, filter-flat_map, filter-map, flat_map_same, flat_map-filter, map-flat_map, map-map, permutation_along}
use Rattle.ghost_shell.proofs.ImageLemmas.{one_image, one_stays, short_parts, three_true}

-- tests of two parts
both_true : (a b : Bool) → (a && b) ≡ true → (a ≡ true) × (b ≡ true)
both_true true true t = (refl, refl)
both_true true false t = cc
both_true false b t = cc

and_yes : (a b : Bool) → b ≡ true → (a && b) ≡ a
and_yes true b t = t
and_yes false b t = refl

and_no : (a b : Bool) → b ≡ false → (a && b) ≡ false
and_no true b t = t
and_no false b t = refl

yes_and : (a b : Bool) → a ≡ true → (a && b) ≡ b
yes_and true b t = refl
yes_and false b t = cc

no_and : (a b : Bool) → a ≡ false → (a && b) ≡ false
no_and true b t = cc
no_and false b t = refl

-- a position that is moved by nothing
three : (x y z u v w : ℤ) → x ≡ u → y ≡ v → z ≡ w → x ∷ y ∷ z ∷ [] ≡ u ∷ v ∷ w ∷ []
three x y z u v w f g h = cc

plus_zero : (x y : ℤ) → x -ℤ y ≡ x -ℤ (y +ℤ pos 0)
plus_zero x y = omega (arith, ints)

unmoved : (p q : List ℤ) → difference p q ≡ difference p (moved q (pos 0 ∷ pos 0 ∷ pos 0 ∷ []))
unmoved p q = three _ _ _ _ _ _ (plus_zero (x_of p) (x_of q)) (plus_zero (y_of p) (y_of q)) (plus_zero (z_of p) (z_of q))

-- where a rank's own atoms stand they are in its halo
pub in_own : (counts : List ℕ) (s : Sides) (rank : ℕ) (p : List ℤ) → AreCounts counts → IsInside s p → (owner counts s p == rank) ≡ true → IsInBrick counts s rank p
in_own counts s rank p h inside own =
    let is : owner counts s p ≡ rank = grind (arith, nat_tests) in
    subst (λ (r : ℕ). IsInBrick counts s r p) is (owner-holds counts s p h inside)

beside_own : (low high x d : ℤ) (reach : ℕ) → IsBetween low high x → 0 < reach → unsigned_abs d ≡ 0 → is_beside low high (pos reach) (x +ℤ d) ≡ true
beside_own low high x d reach h some z = grind (arith, ints)

halo_by : (a b c space : Bool) → a ≡ true → b ≡ true → c ≡ true → (a && (b && (not space || c))) ≡ true
halo_by a b c true f g h = rw (f, g, h) refl
halo_by a b c false f g h = rw (f, g) refl

zero_from : (n : ℕ) → (n == 0) ≡ true → n ≡ 0
zero_from n t = grind (arith, nat_tests)

pub own_in_halo : (counts : List ℕ) (s : Sides) (rank reach : ℕ) (p : Image) → AreCounts counts → 0 < reach → IsInside s p.0.1.x → is_own counts s rank p ≡ true → is_in_halo counts s rank (pos reach) (position p) ≡ true
own_in_halo counts s rank reach p h some inside own =
    let parts = both_true (owner counts s p.0.1.x == rank) (stays p.1) own in
    let zeros = three_true (unsigned_abs (x_of p.1) == 0) (unsigned_abs (y_of p.1) == 0) (unsigned_abs (z_of p.1) == 0) parts.1 in
    let held : IsInBrick counts s rank p.0.1.x = in_own counts s rank p.0.1.x h inside parts.0 in
    halo_by _ _ _ (s.dim == 3)
    (beside_own _ _ (x_of p.0.1.x) (x_of p.1) reach held.x some (zero_from _ zeros.0))
    (beside_own _ _ (y_of p.0.1.x) (y_of p.1) reach held.y some (zero_from _ zeros.1))
    (beside_own _ _ (z_of p.0.1.x) (z_of p.1) reach held.z some (zero_from _ zeros.2))

-- what is in the row of an own atom is in the halo
beside_near : (low high x y : ℤ) (reach : ℕ) → IsBetween low high x → unsigned_abs (x -ℤ y) < reach → is_beside low high (pos reach) y ≡ true
beside_near low high x y reach h near = grind (arith, ints)

listed_in_halo : (counts : List ℕ) (s : Sides) (rank reach : ℕ) (a : ℕ × Atom) (p : Image) → IsInBrick counts s rank a.1.x → is_in_row reach (own_site a) (ghost_of p).site ≡ true → is_in_halo counts s rank (pos reach) (position p) ≡ true
listed_in_halo counts s rank reach a p held listed =
    let parts = both_true (nat_lt a.1.id p.0.1.id) (is_short reach (difference a.1.x (position p))) listed in
    let near = short_parts reach (difference a.1.x (position p)) parts.1 in
    halo_by _ _ _ (s.dim == 3)
    (beside_near _ _ (x_of a.1.x) (x_of (position p)) reach held.x near.0)
    (beside_near _ _ (y_of a.1.x) (y_of (position p)) reach held.y near.1)
    (beside_near _ _ (z_of a.1.x) (z_of (position p)) reach held.z near.2)

-- images of all atoms, by what holds of each
All-images : (P : Image → Type 0) (s : Sides) (atoms : List Atom) → ((e : ℕ × Atom) (shift : List ℤ) → IsInside s e.1.x → P (e, shift)) → All (λ a. IsInside s a.x) atoms → All P (images s atoms)
All-images P s atoms each inside =
    All-flat_map P (λ shift. map (λ e. (e, shift)) (numbered 0 atoms)) (shifts s)
    (All-each (λ shift. All P (map (λ e. (e, shift)) (numbered 0 atoms)))
    (λ shift. All-map P (λ e. (e, shift)) (numbered 0 atoms)
    (All-weaker (λ e. IsInside s e.1.x) (λ e. P (e, shift)) (λ e h. each e shift h) (numbered 0 atoms) (All-numbered (λ a. IsInside s a.x) 0 atoms inside))) (shifts s))

same_and : (h own : Bool) → (own ≡ true → h ≡ true) → (h && own) ≡ own
same_and true own f = refl
same_and false true f = f refl
same_and false false f = refl

-- own atoms and ghosts together are the images in the halo
abbrev at_rest : ℕ × Atom → Image
at_rest e = (e, pos 0 ∷ pos 0 ∷ pos 0 ∷ [])

own_by_shift : (counts : List ℕ) (s : Sides) (rank : ℕ) (shift : List ℤ) (es : List (ℕ × Atom)) (b : Bool) → stays shift ≡ b
    → filter (is_own counts s rank) (map (λ e. (e, shift)) es) ≡ cond b (map (λ e. (e, shift)) (filter (λ e. owner counts s e.1.x == rank) es)) []
own_by_shift counts s rank shift es true t =
    filter-map (is_own counts s rank) (λ e. (e, shift)) es
    ∙ ap (map (λ e. (e, shift)))
    (filter_same (λ e. (owner counts s e.1.x == rank) && stays shift) (λ e. owner counts s e.1.x == rank) es
    (All-each (λ e. ((owner counts s e.1.x == rank) && stays shift) ≡ (owner counts s e.1.x == rank)) (λ e. and_yes (owner counts s e.1.x == rank) (stays shift) t) es))
own_by_shift counts s rank shift es false t =
    filter-map (is_own counts s rank) (λ e. (e, shift)) es
    ∙ ap (map (λ e. (e, shift)))
    (filter_none (λ e. (owner counts s e.1.x == rank) && stays shift) es
    (All-each (λ e. ((owner counts s e.1.x == rank) && stays shift) ≡ false) (λ e. and_no (owner counts s e.1.x == rank) (stays shift) t) es))

own_images : (counts : List ℕ) (s : Sides) (atoms : List Atom) (rank : ℕ) → HasEdges s → filter (is_own counts s rank) (images s atoms) ≡ map at_rest (atoms_of_rank counts s atoms rank)
own_images counts s atoms rank long =
    let es : List (ℕ × Atom) = numbered 0 atoms in
    let mine : List (ℕ × Atom) = atoms_of_rank counts s atoms rank in
    let by : List ℤ → List Image = λ shift. map (λ e. (e, shift)) es in
    let own_by : List ℤ → List Image = λ shift. map (λ e. (e, shift)) mine in
    filter-flat_map (is_own counts s rank) by (shifts s)
    ∙ flat_map_same (λ shift. filter (is_own counts s rank) (by shift)) (λ shift. cond (stays shift) (own_by shift) []) (shifts s)
    (All-each (λ shift. filter (is_own counts s rank) (by shift) ≡ cond (stays shift) (own_by shift) []) (λ shift. own_by_shift counts s rank shift es (stays shift) refl) (shifts s))
    ∙ flat_map-filter stays own_by (shifts s)
    ∙ ap (flat_map own_by) (one_stays s long)
    ∙ append-nil (map at_rest mine)

pub own_and_ghosts : (counts : List ℕ) (s : Sides) (atoms : List Atom) (rank reach : ℕ) → AreCounts counts → HasEdges s → 0 < reach → All (λ a. IsInside s a.x) atoms
    → IsPermutation (filter (λ p. is_in_halo counts s rank (pos reach) (position p)) (images s atoms)) (map at_rest (atoms_of_rank counts s atoms rank) ++ ghost_images counts s rank (pos reach) atoms)
own_and_ghosts counts s atoms rank reach some long act inside =
    let halo : Image → Bool = λ p. is_in_halo counts s rank (pos reach) (position p) in
    let own : Image → Bool = is_own counts s rank in
    let all : List Image = images s atoms in
    let P : List Image → Type 0 = λ l. IsPermutation (filter halo all) l in
    let first : filter own (filter halo all) ≡ map at_rest (atoms_of_rank counts s atoms rank) =
    filter-filter own halo all
    ∙ filter_same (λ p. halo p && own p) own all
    (All-images (λ p. (halo p && own p) ≡ own p) s atoms (λ e shift h. same_and (halo (e, shift)) (own (e, shift)) (own_in_halo counts s rank reach (e, shift) some act h)) inside)
    ∙ own_images counts s atoms rank long in
    let second : filter (λ p. not (own p)) (filter halo all) ≡ ghost_images counts s rank (pos reach) atoms = filter-filter (λ p. not (own p)) halo all in
    subst P (ap (λ (l : List Image). l ++ filter (λ p. not (own p)) (filter halo all)) first ∙ ap (λ (l : List Image). map at_rest (atoms_of_rank counts s atoms rank) ++ l) second)
    (IsPermutation-filter_both own (λ p. not (own p)) (λ p. refl) (filter halo all))

-- the row of an own atom
module _ (counts : List ℕ) (s : Sides) (atoms : List Atom) (rank reach : ℕ) (a : ℕ × Atom) (some : AreCounts counts) (long : HasEdges s) (room : HasRoom s reach) (act : 0 < reach)
    (inside : All (λ b. IsInside s b.x) atoms) (own_inside : IsInside s a.1.x) (held : IsInBrick counts s rank a.1.x) where
  abbrev es : List (ℕ × Atom)
  es = numbered 0 atoms

  abbrev listed : Image → Bool
  listed p = is_in_row reach (own_site a) (ghost_of p).site

  abbrev label : Image → ℕ × ℕ
  label p = (a.0, p.0.0)

  abbrev row : List Image → List (ℕ × ℕ)
  row ps = map label (filter listed ps)

  abbrev site_row : List Site → List (ℕ × ℕ)
  site_row sites = map (λ b. (a.0, b.place)) (filter (is_in_row reach (own_site a)) sites)

  abbrev rises_near : ℕ × Atom → Bool
  rises_near b = nat_lt a.1.id b.1.id && are_near s reach (a, b)

  -- by one atom
  by_one : (e : ℕ × Atom) (b : Bool) → nat_lt a.1.id e.1.id ≡ b → IsInside s e.1.x
      → row (map (λ shift. (e, shift)) (shifts s)) ≡ cond (b && are_near s reach (a, e)) ((a.0, e.0) ∷ []) []
  by_one e true t h =
      ap (map label)
      (filter-map listed (λ shift. (e, shift)) (shifts s)
      ∙ ap (map (λ shift. (e, shift)))
      (filter_same (λ shift. listed (e, shift)) (λ shift. is_short reach (difference a.1.x (moved e.1.x shift))) (shifts s)
      (All-each (λ shift. listed (e, shift) ≡ is_short reach (difference a.1.x (moved e.1.x shift))) (λ shift. yes_and (nat_lt a.1.id e.1.id) (is_short reach (difference a.1.x (moved e.1.x shift))) t) (shifts s))
      ∙ one_image s reach a.1.x e.1.x long room own_inside h))
      ∙ mapped (are_near s reach (a, e))
    where
      mapped : (n : Bool) → map label (map (λ shift. (e, shift)) (cond n (nearest_shift s a.1.x e.1.x ∷ []) [])) ≡ cond n ((a.0, e.0) ∷ []) []
      mapped true = refl
      mapped false = refl
  by_one e false t h =
      ap (map label)
      (filter-map listed (λ shift. (e, shift)) (shifts s)
      ∙ ap (map (λ shift. (e, shift)))
      (filter_none (λ shift. listed (e, shift)) (shifts s)
      (All-each (λ shift. listed (e, shift) ≡ false) (λ shift. no_and (nat_lt a.1.id e.1.id) (is_short reach (difference a.1.x (moved e.1.x shift))) t) (shifts s))))

  -- over all images
  over_images : IsPermutation (row (images s atoms)) (map (λ b. (a.0, b.0)) (filter rises_near es))
  over_images =
      let turned : List Image = flat_map (λ e. map (λ shift. (e, shift)) (shifts s)) es in
      let P : List (ℕ × ℕ) → Type 0 = λ l. IsPermutation (row (images s atoms)) l in
      subst P
      (ap (map label) (filter-flat_map listed (λ e. map (λ shift. (e, shift)) (shifts s)) es)
      ∙ map-flat_map label (λ e. filter listed (map (λ shift. (e, shift)) (shifts s))) es
      ∙ flat_map_same (λ e. row (map (λ shift. (e, shift)) (shifts s))) (λ e. cond (rises_near e) ((a.0, e.0) ∷ []) []) es
      (All-weaker (λ e. IsInside s e.1.x) (λ e. row (map (λ shift. (e, shift)) (shifts s)) ≡ cond (rises_near e) ((a.0, e.0) ∷ []) [])
      (λ e h. by_one e (nat_lt a.1.id e.1.id) refl h) es (All-numbered (λ b. IsInside s b.x) 0 atoms inside))
      ∙ flat_map-filter rises_near (λ e. (a.0, e.0) ∷ []) es
      ∙ flat_map_single (λ e. (a.0, e.0)) (filter rises_near es))
      (IsPermutation-map label _ _ (IsPermutation-filter listed _ _ (exchange (λ shift e. (e, shift)) (shifts s) es)))

  -- over the images in the halo
  over_halo : row (filter (λ p. is_in_halo counts s rank (pos reach) (position p)) (images s atoms)) ≡ row (images s atoms)
  over_halo =
      ap (map label)
      (filter-filter listed (λ p. is_in_halo counts s rank (pos reach) (position p)) (images s atoms)
      ∙ filter_same (λ p. is_in_halo counts s rank (pos reach) (position p) && listed p) listed (images s atoms)
      (All-each (λ p. (is_in_halo counts s rank (pos reach) (position p) && listed p) ≡ listed p)
      (λ p. same_and (is_in_halo counts s rank (pos reach) (position p)) (listed p) (listed_in_halo counts s rank reach a p held)) (images s atoms)))

  row-append : (ps qs : List Image) → row (ps ++ qs) ≡ row ps ++ row qs
  row-append ps qs = ap (map label) (filter-append listed ps qs) ∙ map-append label (filter listed ps) (filter listed qs)

  site_row-append : (ps qs : List Site) → site_row (ps ++ qs) ≡ site_row ps ++ site_row qs
  site_row-append ps qs = ap (map (λ b. (a.0, b.place))) (filter-append (is_in_row reach (own_site a)) ps qs) ∙ map-append (λ b. (a.0, b.place)) (filter (is_in_row reach (own_site a)) ps) (filter (is_in_row reach (own_site a)) qs)

  -- sites of images and of own atoms
  site_row-images : (ps : List Image) → site_row (sites_of (map ghost_of ps)) ≡ row ps
  site_row-images ps =
      ap site_row (map-map (λ g. g.site) ghost_of ps)
      ∙ ap (map (λ b. (a.0, b.place))) (filter-map (is_in_row reach (own_site a)) (λ p. (ghost_of p).site) ps)
      ∙ map-map (λ b. (a.0, b.place)) (λ p. (ghost_of p).site) (filter listed ps)

  site_row-own : (own : List (ℕ × Atom)) → site_row (map own_site own) ≡ row (map at_rest own)
  site_row-own own =
      ap (map (λ b. (a.0, b.place))) (filter-map (is_in_row reach (own_site a)) own_site own)
      ∙ map-map (λ b. (a.0, b.place)) own_site (filter (λ e. is_in_row reach (own_site a) (own_site e)) own)
      ∙ ap (map (λ e. (a.0, e.0))) (filter_same (λ e. is_in_row reach (own_site a) (own_site e)) (λ e. listed (at_rest e)) own
      (All-each (λ e. is_in_row reach (own_site a) (own_site e) ≡ listed (at_rest e)) (λ e. ap (λ (d : List ℤ). nat_lt a.1.id e.1.id && is_short reach d) (unmoved a.1.x e.1.x)) own))
      ∙ sym (map-map label at_rest (filter (λ e. listed (at_rest e)) own))
      ∙ ap (map label) (sym (filter-map listed at_rest own))

  pub row_over_sites : (shell : List Ghost) → IsPermutation (ghosts counts s rank (pos reach) atoms) shell
      → IsPermutation (map (λ b. (a.0, b.0)) (filter rises_near es)) (site_row (own_sites counts s atoms rank ++ sites_of shell))
  row_over_sites shell h =
      let own : List (ℕ × Atom) = atoms_of_rank counts s atoms rank in
      let gs : List Image = ghost_images counts s rank (pos reach) atoms in
      let halo : Image → Bool = λ p. is_in_halo counts s rank (pos reach) (position p) in
      let sites : List Site = map own_site own ++ sites_of (map ghost_of gs) in
      let moved_sites : IsPermutation sites (own_sites counts s atoms rank ++ sites_of shell) =
      IsPermutation-append_right (map own_site own) _ _ (IsPermutation-map (λ g. g.site) (map ghost_of gs) shell h) in
      let is : site_row sites ≡ row (map at_rest own ++ gs) =
      site_row-append (map own_site own) (sites_of (map ghost_of gs))
      ∙ ap (λ (l : List (ℕ × ℕ)). l ++ site_row (sites_of (map ghost_of gs))) (site_row-own own)
      ∙ ap (λ (l : List (ℕ × ℕ)). row (map at_rest own) ++ l) (site_row-images gs)
      ∙ sym (row-append (map at_rest own) gs) in
      let in_halo : IsPermutation (row (filter halo (images s atoms))) (row (map at_rest own ++ gs)) =
      IsPermutation-map label _ _ (IsPermutation-filter listed _ _ (own_and_ghosts counts s atoms rank reach some long act inside)) in
      IsPermutation-trans _ (row (images s atoms)) _
      (IsPermutation-sym _ _ over_images)
      (IsPermutation-trans _ (site_row sites) _
      (permutation_along _ (row (filter halo (images s atoms))) _ (row (map at_rest own ++ gs)) (sym over_halo) is in_halo)
      (IsPermutation-map (λ b. (a.0, b.place)) _ _ (IsPermutation-filter (is_in_row reach (own_site a)) _ _ moved_sites)))
