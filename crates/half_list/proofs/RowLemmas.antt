-- Rows of neighbours: one site more, one row more, and rows found through what bins meet.
use Rattle.std.proofs.Common.{◌≡◌, ◌+◌, ◌-◌, ◌*◌, ◌<◌, ◌≤◌, ◌==◌, ◌&&◌, Bool, true, false, cond, ℕ, ◌-ℤ◌, unsigned_abs, List, [], ◌∷◌, ◌++◌, length, get_or, map, filter, take, drop, leb, IsPermutation, refl, sym, ap, subst, ◌∙◌, arith}
use Rattle.std.specs.Prelude.{nat_lt, slice_index, slice_index_or}
use Rattle.std.proofs.lemmas.Bool.Decides.{nat_tests}
use Rattle.std.proofs.lemmas.List.{append-nil, drop-append-le, drop_at, get_or_append_left, get_or_at, get_or_default, length-append, length-drop, map-append, take-append-le, take_all}
use Rattle.std.proofs.lemmas.List.Elements.{filter-append, filter_more}
use Rattle.std.proofs.lemmas.List.Sorted.{IsPermutation-map, IsPermutation-trans}
use Rattle.box_geo.specs.Sides.{x_of, y_of, z_of}
use Rattle.box_geo.specs.declared.atoms.Site.{Site}
use Rattle.cell_bins.specs.Around.{joined}
use Rattle.cell_bins.specs.Near.{IsNear, Meets}
use Rattle.half_list.specs.Neighbours.{is_listed, is_near, neighbours}
use Rattle.half_list.specs.Rows.{AppendsRow, HasRows, row_at}
use Rattle.sums.proofs.Lists.{IsPermutation-filter}

-- neighbours among joined lists
pub neighbours-append : (reach : ℕ) (own : Site) (xs ys : List Site) → neighbours reach own (xs ++ ys) ≡ neighbours reach own xs ++ neighbours reach own ys
neighbours-append reach own xs ys =
    ap (map (λ (s : Site). s.place)) (filter-append (is_listed reach own) xs ys)
    ∙ map-append (λ (s : Site). s.place) (filter (is_listed reach own) xs) (filter (is_listed reach own) ys)

one_place : (b : Bool) (s : Site) → map (λ (t : Site). t.place) (cond b (s ∷ []) []) ≡ cond b (s.place ∷ []) []
one_place true s = refl
one_place false s = refl

pub neighbours_more : (reach : ℕ) (own : Site) (xs : List Site) (i : ℕ) (d : Site) → i < length xs
    → neighbours reach own (take (i + 1) xs) ≡ neighbours reach own (take i xs) ++ cond (is_listed reach own (get_or xs i d)) ((get_or xs i d).place ∷ []) []
neighbours_more reach own xs i d lt =
    ap (map (λ (s : Site). s.place)) (filter_more (is_listed reach own) xs i d lt)
    ∙ map-append (λ (s : Site). s.place) (filter (is_listed reach own) (take i xs)) (cond (is_listed reach own (get_or xs i d)) (get_or xs i d ∷ []) [])
    ∙ ap (λ l. neighbours reach own (take i xs) ++ l) (one_place (is_listed reach own (get_or xs i d)) (get_or xs i d))

-- a site that is listed is near along each axis, so that bins meet it
short_part : (a b c r : ℕ) → a * a + b * b + c * c < r * r → a < r
short_part a b c r h = grind arith

both_true : (p q : Bool) → (p && q) ≡ true → q ≡ true
both_true true q h = h
both_true false q h = cc

below_from : (m n : ℕ) → nat_lt m n ≡ true → m < n
below_from m n h = grind (arith, nat_tests)

pub listed_near : (reach : ℕ) (own s : Site) → is_listed reach own s ≡ true → IsNear reach own.x s.x
listed_near reach own s h =
    let a : ℕ = unsigned_abs (x_of own.x -ℤ x_of s.x) in
    let b : ℕ = unsigned_abs (y_of own.x -ℤ y_of s.x) in
    let c : ℕ = unsigned_abs (z_of own.x -ℤ z_of s.x) in
    let short : a * a + b * b + c * c < reach * reach = below_from (a * a + b * b + c * c) (reach * reach) (both_true (nat_lt own.id s.id) (is_near reach own.x s.x) h) in
    (short_part a b c reach short, short_part b a c reach (omega (arith, short)), short_part c a b reach (omega (arith, short)))

-- of what passes a test, what is listed, where all that is listed passes it
kept_twice : (p t : Bool) (q : Site → Bool) (s : Site) (rest kept : List Site) → q s ≡ p → (p ≡ true → t ≡ true) → filter q rest ≡ kept → filter q (cond t (s ∷ rest) rest) ≡ cond p (s ∷ kept) kept
kept_twice true true q s rest kept is all e = rw is (ap (λ l. s ∷ l) e)
kept_twice true false q s rest kept is all e = let no = all refl in cc
kept_twice false true q s rest kept is all e = rw is e
kept_twice false false q s rest kept is all e = e

filter_through : (q test : Site → Bool) (sites : List Site) → ((s : Site) → q s ≡ true → test s ≡ true) → filter q (filter test sites) ≡ filter q sites
filter_through q test [] all = refl
filter_through q test (s ∷ sites) all = kept_twice (q s) (test s) q s (filter test sites) (filter q sites) refl (all s) (filter_through q test sites all)

pub neighbours_met : (reach : ℕ) (own : Site) (sites met : List Site) → Meets reach own.x sites met → IsPermutation (neighbours reach own sites) (neighbours reach own met)
neighbours_met reach own sites met h =
    IsPermutation-map (λ (s : Site). s.place) (filter (is_listed reach own) sites) (filter (is_listed reach own) met)
    (subst (λ l. IsPermutation l (filter (is_listed reach own) met))
    (filter_through (is_listed reach own) h.test sites (λ s listed. h.near s (listed_near reach own s listed)))
    (IsPermutation-filter (is_listed reach own) (filter h.test sites) met h.once))

-- rows
pub rows_none : (reach : ℕ) (own all : List Site) → HasRows reach own all 0 (0 ∷ []) []
rows_none reach own all = record {
  long = refl;
  last = refl;
  order = λ k lt. absurd (omega arith);
  within = λ k le. let is : k ≡ 0 = omega arith in subst (λ (n : ℕ). slice_index (0 ∷ []) n ≤ 0) (sym is) (omega arith);
  rows = λ k d lt. absurd (omega arith);
}

module _ (reach : ℕ) (own all : List Site) (n : ℕ) (starts places row : List ℕ) where
  longer : List ℕ
  longer = starts ++ length (places ++ row) ∷ []

  kept_start : HasRows reach own all n starts places → (k : ℕ) → k ≤ n → slice_index longer k ≡ slice_index starts k
  unfolding longer
  kept_start h k le = get_or_append_left starts (length (places ++ row) ∷ []) 0 k (omega (arith, h.long))

  new_start : HasRows reach own all n starts places → slice_index longer (n + 1) ≡ length (places ++ row)
  unfolding longer
  new_start h = get_or_at starts (length (places ++ row)) [] 0 (n + 1) h.long

  kept_row : HasRows reach own all n starts places → (k : ℕ) → k < n → row_at longer (places ++ row) k ≡ row_at starts places k
  kept_row h k lt =
      let s : ℕ = slice_index starts k in
      let c : ℕ = slice_index starts (k + 1) - s in
      ap (λ (m : ℕ). take (slice_index longer (k + 1) - m) (drop m (places ++ row))) (kept_start h k (omega arith))
      ∙ ap (λ (m : ℕ). take (m - s) (drop s (places ++ row))) (kept_start h (k + 1) (omega arith))
      ∙ ap (take c) (drop-append-le s places row (h.within k (omega arith)))
      ∙ take-append-le c (drop s places) row (omega (arith, length-drop s places, h.within (k + 1) (omega arith)))

  new_row : HasRows reach own all n starts places → row_at longer (places ++ row) n ≡ row
  new_row h =
      ap (λ (m : ℕ). take (slice_index longer (n + 1) - m) (drop m (places ++ row))) (kept_start h n (omega arith) ∙ h.last)
      ∙ ap (take (slice_index longer (n + 1) - length places)) (drop_at places row (length places) refl)
      ∙ take_all (slice_index longer (n + 1) - length places) row (omega (arith, new_start h, length-append places row))

  one_more : HasRows reach own all n starts places → (d : Site) → IsPermutation (neighbours reach (get_or own n d) all) row
      → (k : ℕ) (e : Site) → k < n + 1 → n < length own → IsPermutation (neighbours reach (slice_index_or own k e) all) (row_at longer (places ++ row) k)
  one_more h d new k e lt some =
      elim (k == n) as (λ t. (k == n) ≡ t → IsPermutation (neighbours reach (slice_index_or own k e) all) (row_at longer (places ++ row) k)) [
        | true ↦ λ t.
            let is : k ≡ n = grind (arith, nat_tests) in
            subst (λ (m : ℕ). IsPermutation (neighbours reach (slice_index_or own m e) all) (row_at longer (places ++ row) m)) (sym is)
            (subst (λ l. IsPermutation (neighbours reach (get_or own n e) all) l) (sym (new_row h))
            (subst (λ (s : Site). IsPermutation (neighbours reach s all) row) (get_or_default own n d e some) new))
        | false ↦ λ t.
            let below : k < n = grind (arith, nat_tests) in
            subst (λ l. IsPermutation (neighbours reach (slice_index_or own k e) all) l) (sym (kept_row h k below)) (h.rows k e below)
      ]
      refl

  pub rows_more : HasRows reach own all n starts places → (d : Site) → n < length own → IsPermutation (neighbours reach (get_or own n d) all) row
      → HasRows reach own all (n + 1) (starts ++ length (places ++ row) ∷ []) (places ++ row)
  unfolding longer
  rows_more h d some new = record {
    long = omega (arith, length-append starts (length (places ++ row) ∷ []), h.long);
    last = new_start h;
    order = λ k lt.
        elim (k == n) as (λ t. (k == n) ≡ t → slice_index longer k ≤ slice_index longer (k + 1)) [
          | true ↦ λ t.
              let is : k ≡ n = grind (arith, nat_tests) in
              subst (λ (m : ℕ). slice_index longer m ≤ slice_index longer (m + 1)) (sym is) (omega (arith, kept_start h n (omega arith), h.last, new_start h, length-append places row))
          | false ↦ λ t.
              let below : k < n = grind (arith, nat_tests) in
              omega (arith, kept_start h k (omega arith), kept_start h (k + 1) (omega arith), h.order k below)
        ]
        refl;
    within = λ k le.
        elim (leb k n) as (λ t. leb k n ≡ t → slice_index longer k ≤ length (places ++ row)) [
          | true ↦ λ t.
              let low : k ≤ n = grind (arith, nat_tests) in
              omega (arith, kept_start h k low, h.within k low, length-append places row)
          | false ↦ λ t.
              let is : k ≡ n + 1 = grind (arith, nat_tests) in
              subst (λ (m : ℕ). slice_index longer m ≤ length (places ++ row)) (sym is) (omega (arith, new_start h))
        ]
        refl;
    rows = λ k e lt. one_more h d new k e lt some;
  }

-- nothing is left to meet: what was appended is the row
pub row_appended : (reach : ℕ) (own : Site) (sites : List Site) (old new : List ℕ) (start left : List (List Site))
    → new ++ neighbours reach own (joined left) ≡ old ++ neighbours reach own (joined start) → left ≡ [] → Meets reach own.x sites (joined start)
    → AppendsRow reach own sites old new
row_appended reach own sites old new start left all none meets = record {
  row = neighbours reach own (joined start);
  is = sym (append-nil new) ∙ ap (λ l. new ++ neighbours reach own (joined l)) (sym none) ∙ all;
  neighbours = neighbours_met reach own sites (joined start) meets;
}

-- the same rows, as code makes them
pub rows_step : (reach : ℕ) (own all : List Site) (n : ℕ) (starts places new : List ℕ) (d : Site) → HasRows reach own all n starts places → n < length own
    → AppendsRow reach (get_or own n d) all places new → HasRows reach own all (n + 1) (starts ++ length new ∷ []) new
rows_step reach own all n starts places new d h some more =
    subst (λ l. HasRows reach own all (n + 1) (starts ++ length l ∷ []) l) (sym more.is) (rows_more reach own all n starts places more.row h d some more.neighbours)

pub rows_end : (reach : ℕ) (own all : List Site) (n : ℕ) (starts places : List ℕ) → HasRows reach own all n starts places → n ≡ length own → HasRows reach own all (length own) starts places
rows_end reach own all n starts places h is = subst (λ (m : ℕ). HasRows reach own all m starts places) is h

pub rows_among : (reach : ℕ) (own all sites : List Site) (starts places : List ℕ) → IsPermutation all sites → HasRows reach own sites (length own) starts places
    → (k : ℕ) (d : Site) → k < length own → IsPermutation (neighbours reach (slice_index_or own k d) all) (row_at starts places k)
rows_among reach own all sites starts places same h k d lt =
    let s : Site = slice_index_or own k d in
    IsPermutation-trans (neighbours reach s all) (neighbours reach s sites) (row_at starts places k)
    (IsPermutation-map (λ (t : Site). t.place) (filter (is_listed reach s) all) (filter (is_listed reach s) sites) (IsPermutation-filter (is_listed reach s) all sites same))
    (h.rows k d lt)

pub list_rows : (r reach : ℕ) (listed own all sites : List Site) (starts places : List ℕ) → HasRows r listed sites (length listed) starts places → listed ≡ own → r ≡ reach → IsPermutation all sites
    → (k : ℕ) (d : Site) → k < length own → IsPermutation (neighbours reach (slice_index_or own k d) all) (row_at starts places k)
list_rows r reach listed own all sites starts places h same is among =
    rows_among reach own all sites starts places among
    (subst (λ (l : List Site). HasRows reach l sites (length l) starts places) same
    (subst (λ (n : ℕ). HasRows n listed sites (length listed) starts places) is h))
