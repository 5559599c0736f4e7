-- Rows of the near atoms of greater id, and the near pairs.
use Rattle.std.proofs.Common.{◌≡◌, ◌+◌, ◌<◌, ◌≤◌, ◌&&◌, Bool, true, false, cond, ℕ, suc, List, [], ◌∷◌, ◌++◌, get_or, drop, map, flat_map, filter, IsPermutation, refl, sym, ap, subst, ◌∙◌, arith}
use Rattle.std.specs.Prelude.{nat_lt}
use Rattle.std.specs.List.{All}
use Rattle.std.proofs.lemmas.Bool.Decides.{nat_tests}
use Rattle.std.proofs.lemmas.List.{drop-drop, get_or-drop}
use Rattle.std.proofs.lemmas.List.Elements.{All-head, All-tail, filter-append}
use Rattle.std.proofs.lemmas.List.Sorted.{IsPermutation-append, IsPermutation-map, IsPermutation-refl, IsPermutation-trans}
use Rattle.box_geo.specs.declared.atoms.Atom.{Atom}
use Rattle.box_geo.specs.declared.atoms.Site.{Site}
use Rattle.half_list.specs.Neighbours.{is_listed, is_near, neighbours}
use Rattle.sums.proofs.Lists.{IsPermutation-flat_map, map-map}
use Rattle.list_laws.specs.Pairs.{AreRows, IdsRise, ShowNear, greater_near, pairs_of, site_of, sites_from}
use Rattle.sums.specs.Totals.{half}

-- the row of a site is that of its atom
pub row_of_atoms : (near : Atom × Atom → Bool) (reach : ℕ) (atoms : List Atom) (sites : List Site) (atom_at : ℕ → Atom) (own_site : Site) (own : Atom) (row : List ℕ)
    → ShowNear near reach atoms sites atom_at own_site own → IsPermutation (neighbours reach own_site sites) row
    → IsPermutation (greater_near near atoms own) (map atom_at row)
row_of_atoms near reach atoms sites atom_at own_site own row shown listed =
    let there : List Site = filter (is_listed reach own_site) sites in
    IsPermutation-trans (greater_near near atoms own) (map (λ (s : Site). atom_at s.place) there) (map atom_at row) shown
    (subst (λ l. IsPermutation l (map atom_at row)) (map-map atom_at (λ (s : Site). s.place) there)
    (IsPermutation-map atom_at (neighbours reach own_site sites) row listed))

-- sites without images show each atom at its place
one_shown : (at : ℕ → Atom) (b : Bool) (place : ℕ) (a : Atom) (sites : List Site) (atoms : List Atom) → at place ≡ a → map (λ (s : Site). at s.place) sites ≡ atoms
    → map (λ (s : Site). at s.place) (cond b (site_of place a ∷ sites) sites) ≡ cond b (a ∷ atoms) atoms
one_shown at true place a sites atoms is e = ap (λ (x : Atom). x ∷ map (λ (s : Site). at s.place) sites) is ∙ ap (λ l. a ∷ l) e
one_shown at false place a sites atoms is e = e

shown_from : (reach place : ℕ) (own d : Atom) (atoms : List Atom) (k : ℕ) (xs : List Atom) → drop k atoms ≡ xs
    → map (λ (s : Site). get_or atoms s.place d) (filter (is_listed reach (site_of place own)) (sites_from k xs)) ≡ greater_near (λ p. is_near reach p.0.x p.1.x) xs own
shown_from reach place own d atoms k [] is = refl
shown_from reach place own d atoms k (x ∷ xs) is =
    one_shown (λ n. get_or atoms n d) (nat_lt own.id x.id && is_near reach own.x x.x) k x
    (filter (is_listed reach (site_of place own)) (sites_from (k + 1) xs)) (greater_near (λ p. is_near reach p.0.x p.1.x) xs own)
    (ap (λ (n : ℕ). get_or atoms n d) (let e : k ≡ k + 0 = omega arith in e) ∙ sym (get_or-drop k atoms 0 d) ∙ ap (λ l. get_or l 0 d) is)
    (shown_from reach place own d atoms (k + 1) xs (sym (drop-drop 1 k atoms) ∙ ap (drop 1) is))

pub sites_show : (reach : ℕ) (atoms : List Atom) (place : ℕ) (own d : Atom)
    → ShowNear (λ p. is_near reach p.0.x p.1.x) reach atoms (sites_from 0 atoms) (λ k. get_or atoms k d) (site_of place own) own
sites_show reach atoms place own d =
    subst (λ l. IsPermutation (greater_near (λ p. is_near reach p.0.x p.1.x) atoms own) l) (sym (shown_from reach place own d atoms 0 atoms refl))
    (IsPermutation-refl (greater_near (λ p. is_near reach p.0.x p.1.x) atoms own))

module _ (near : Atom × Atom → Bool) where
  -- the pairs of an atom with all of its row
  abbrev pairs_with : List Atom → Atom → List (Atom × Atom)
  pairs_with atoms own = map (λ other. (own, other)) (greater_near near atoms own)

  head_row : (own : Atom) (others : List Atom) (row : List Atom) (rows : List (List Atom)) (atoms : List Atom) → AreRows near atoms (own ∷ others) (row ∷ rows) → IsPermutation (greater_near near atoms own) row
  head_row own others row rows atoms h = h.each 0 own (omega arith)

  tail_rows : (own : Atom) (others : List Atom) (row : List Atom) (rows : List (List Atom)) (atoms : List Atom) → AreRows near atoms (own ∷ others) (row ∷ rows) → AreRows near atoms others rows
  tail_rows own others row rows atoms h = record {
    count = omega (arith, h.count);
    each = λ k d lt. h.each (suc k) d (omega arith);
  }

  pub pairs_by_rows : (atoms own : List Atom) (rows : List (List Atom)) → AreRows near atoms own rows → IsPermutation (flat_map (pairs_with atoms) own) (pairs_of own rows)
  pairs_by_rows atoms [] rows h = IsPermutation-refl []
  pairs_by_rows atoms (own ∷ others) [] h = absurd (omega (arith, h.count))
  pairs_by_rows atoms (own ∷ others) (row ∷ rows) h =
      IsPermutation-append (pairs_with atoms own) (map (λ other. (own, other)) row) (flat_map (pairs_with atoms) others) (pairs_of others rows)
      (IsPermutation-map (λ other. (own, other)) (greater_near near atoms own) row (head_row own others row rows atoms h))
      (pairs_by_rows atoms others rows (tail_rows own others row rows atoms h))

  -- where ids rise, the atoms of greater id are those that follow
  keep : (b : Bool) (x : Atom) (rest : List Atom) → b ≡ false → cond b (x ∷ rest) rest ≡ rest
  keep true x rest h = cc
  keep false x rest h = refl

  and_first : (b c : Bool) → b ≡ true → (b && c) ≡ c
  and_first true c h = refl
  and_first false c h = cc

  and_none : (b c : Bool) → b ≡ false → (b && c) ≡ false
  and_none true c h = cc
  and_none false c h = refl

  above : ℕ → Atom → Type 0
  above n a = n < a.id

  -- atoms of greater ids, all of them kept by the first test
  kept_pairs : (own : Atom) (b c : Bool) (x : Atom) (rest : List Atom) (pairs : List (Atom × Atom)) → b ≡ c → map (λ other. (own, other)) rest ≡ pairs
      → map (λ other. (own, other)) (cond b (x ∷ rest) rest) ≡ cond c ((own, x) ∷ pairs) pairs
  kept_pairs own true true x rest pairs same e = ap (λ l. (own, x) ∷ l) e
  kept_pairs own false false x rest pairs same e = e
  kept_pairs own true false x rest pairs same e = cc
  kept_pairs own false true x rest pairs same e = cc

  after : (own : Atom) (xs : List Atom) → All (λ (a : Atom). own.id < a.id) xs → pairs_with xs own ≡ filter near (map (λ other. (own, other)) xs)
  after own [] rise = refl
  after own (x ∷ xs) rise =
      let lt = All-head (λ (a : Atom). own.id < a.id) x xs rise in
      kept_pairs own (nat_lt own.id x.id && near (own, x)) (near (own, x)) x (greater_near near xs own) (filter near (map (λ other. (own, other)) xs))
      (and_first (nat_lt own.id x.id) (near (own, x)) (grind (arith, nat_tests)))
      (after own xs (All-tail (λ (a : Atom). own.id < a.id) x xs rise))

  -- an atom of a lesser id is in no row
  skip : (own x : Atom) (xs : List Atom) → x.id ≤ own.id → pairs_with (x ∷ xs) own ≡ pairs_with xs own
  skip own x xs le =
      ap (map (λ other. (own, other)))
      (keep (nat_lt own.id x.id && near (own, x)) x (greater_near near xs own) (and_none (nat_lt own.id x.id) (near (own, x)) (grind (arith, nat_tests))))

  skip_all : (x : Atom) (xs own : List Atom) → All (λ (a : Atom). x.id < a.id) own → flat_map (pairs_with (x ∷ xs)) own ≡ flat_map (pairs_with xs) own
  skip_all x xs [] rise = refl
  skip_all x xs (a ∷ others) rise =
      let lt = All-head (λ (b : Atom). x.id < b.id) a others rise in
      ap (λ l. l ++ flat_map (pairs_with (x ∷ xs)) others) (skip a x xs (omega arith))
      ∙ ap (λ l. pairs_with xs a ++ l) (skip_all x xs others (All-tail (λ (b : Atom). x.id < b.id) a others rise))

  rise_head : (x : Atom) (xs : List Atom) → IdsRise (x ∷ xs) → All (λ (a : Atom). x.id < a.id) xs
  rise_head x xs rise = λ k d lt. rise 0 (suc k) d (omega arith) (omega arith)

  rise_tail : (x : Atom) (xs : List Atom) → IdsRise (x ∷ xs) → IdsRise xs
  rise_tail x xs rise = λ i j d lt hi. rise (suc i) (suc j) d (omega arith) (omega arith)

  pub rows_are_half : (xs : List Atom) → IdsRise xs → flat_map (pairs_with xs) xs ≡ filter near (half xs)
  rows_are_half [] rise = refl
  rows_are_half (x ∷ xs) rise =
      ap (λ l. l ++ flat_map (pairs_with (x ∷ xs)) xs) (skip x x xs (omega arith) ∙ after x xs (rise_head x xs rise))
      ∙ ap (λ l. filter near (map (λ other. (x, other)) xs) ++ l) (skip_all x xs xs (rise_head x xs rise) ∙ rows_are_half xs (rise_tail x xs rise))
      ∙ sym (filter-append near (map (λ other. (x, other)) xs) (half xs))

  pub near_pairs_by_rows : (atoms own : List Atom) (rows : List (List Atom)) → IdsRise atoms → IsPermutation atoms own → AreRows near atoms own rows → IsPermutation (filter near (half atoms)) (pairs_of own rows)
  near_pairs_by_rows atoms own rows rise all h =
      subst (λ l. IsPermutation l (pairs_of own rows)) (rows_are_half atoms rise)
      (IsPermutation-trans (flat_map (pairs_with atoms) atoms) (flat_map (pairs_with atoms) own) (pairs_of own rows)
      (IsPermutation-flat_map (pairs_with atoms) atoms own all)
      (pairs_by_rows atoms own rows h))
