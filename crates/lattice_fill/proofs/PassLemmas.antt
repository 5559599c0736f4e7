-- Loops that go through cells one by one and append what each gives.
use Rattle.std.proofs.Common.{◌≡◌, ◌∙◌, ◌+◌, ◌-◌, ◌^◌, ◌<◌, unsigned_abs, w64, to_z, of_z, ◌≤◌, ℕ, suc, ℤ, pos, ◌+ℤ◌, Bool, List, [], ◌∷◌, ◌++◌, length, get_or, map, drop, filter, flat_map, arith, ap, sym, subst, refl, append_assoc, length-append}
use Rattle.std.proofs.lemmas.List.{append-nil, drop_more, drop_all}
use Rattle.std.proofs.lemmas.List.Elements.{filter-append}
use Rattle.std.proofs.lemmas.Int.{ints, to_z-of_z, fits_signed_from_abs}
use Rattle.box_geo.specs.declared.sim_box.Extent.{Extent}
use Rattle.lattice_fill.specs.declared.basis.Quarters.{Quarters}
use Rattle.lattice_fill.specs.declared.spacing.Spacing.{Spacing}
use Rattle.lattice_fill.specs.Points.{cells_along, cells_count, first_cell, from, point_of}

-- what the first n cells gave, with what the others give, is what all give; and a limit is kept
pub record Passed {X : Type 0} (f : ℤ → List X) (first : ℤ) (count n limit : ℕ) (old now : List X) : Type 0 where
  pub all : now ++ flat_map f (from (first +ℤ pos n) (count - n)) ≡ old ++ flat_map f (from first count)
  pub few : length old ≤ limit → length now ≤ limit

-- the number of a cell, as it is handed on
pub same_number : (k i : ℤ) → unsigned_abs k ≤ 2 ^ 17 → k ≡ i → to_z w64 (of_z w64 k) ≡ i
same_number k i small is = to_z-of_z w64 k (fits_signed_from_abs w64 k (omega (arith, small))) ∙ is

from_step : (first : ℤ) (count n : ℕ) → n < count → from (first +ℤ pos n) (count - n) ≡ (first +ℤ pos n) ∷ from (first +ℤ pos (n + 1)) (count - (n + 1))
from_step first count n below =
    let more : count - n ≡ suc (count - (n + 1)) = omega arith in
    let next : first +ℤ pos n +ℤ pos 1 ≡ first +ℤ pos (n + 1) = omega (arith, ints) in
    ap (from (first +ℤ pos n)) more ∙ ap (λ (i : ℤ). (first +ℤ pos n) ∷ from i (count - (n + 1))) next

from_end : (first : ℤ) (count : ℕ) → from (first +ℤ pos count) (count - count) ≡ []
from_end first count = let e : count - count ≡ 0 = omega arith in ap (from (first +ℤ pos count)) e

pub passed_none : {X : Type 0} (f : ℤ → List X) (first : ℤ) (count limit : ℕ) (old : List X) → Passed f first count 0 limit old old
passed_none f first count limit old =
    let same : first +ℤ pos 0 ≡ first = omega (arith, ints) in
    let none : count - 0 ≡ count = omega arith in
    record { all = ap (λ (n : ℕ). old ++ flat_map f (from (first +ℤ pos 0) n)) none ∙ ap (λ (i : ℤ). old ++ flat_map f (from i count)) same; few = λ h. h }

pub passed_more : {X : Type 0} (f : ℤ → List X) (first : ℤ) (count n limit : ℕ) (old now new : List X) → n < count
    → Passed f first count n limit old now → new ≡ now ++ f (first +ℤ pos n) → (length now ≤ limit → length new ≤ limit) → Passed f first count (n + 1) limit old new
passed_more f first count n limit old now new below passed is few =
    let rest = flat_map f (from (first +ℤ pos (n + 1)) (count - (n + 1))) in
    record {
      all = ap (λ l. l ++ rest) is ∙ append_assoc now (f (first +ℤ pos n)) rest ∙ sym (ap (λ l. now ++ flat_map f l) (from_step first count n below)) ∙ passed.all;
      few = λ h. few (passed.few h);
    }

pub passed_all : {X : Type 0} (f : ℤ → List X) (first : ℤ) (count limit : ℕ) (old now : List X) → Passed f first count count limit old now → now ≡ old ++ flat_map f (from first count)
passed_all f first count limit old now passed =
    sym (append-nil now) ∙ sym (ap (λ l. now ++ flat_map f l) (from_end first count)) ∙ passed.all

pub passed_end : {X : Type 0} (f : ℤ → List X) (first : ℤ) (count n limit : ℕ) (now : List X) → count ≤ n → n ≤ count → Passed f first count n limit [] now → now ≡ flat_map f (from first count)
passed_end f first count n limit now high low passed =
    let is : n ≡ count = omega arith in
    passed_all f first count limit [] now (subst (λ (k : ℕ). Passed f first count k limit [] now) is passed)

pub passed_over : {X : Type 0} (f : ℤ → List X) (first : ℤ) (count n limit : ℕ) (old now : List X) → n < count
    → Passed f first count n limit old now → limit < length now + length (f (first +ℤ pos n)) → limit < length old + length (flat_map f (from first count))
passed_over f first count n limit old now below passed over =
    let rest = flat_map f (from (first +ℤ pos (n + 1)) (count - (n + 1))) in
    let whole : length (now ++ flat_map f (from (first +ℤ pos n) (count - n))) ≡ length (old ++ flat_map f (from first count)) = ap length passed.all in
    let split : length (now ++ flat_map f (from (first +ℤ pos n) (count - n))) ≡ length (now ++ (f (first +ℤ pos n) ++ rest)) = ap (λ l. length (now ++ flat_map f l)) (from_step first count n below) in
    omega (arith, whole, split, length-append now (f (first +ℤ pos n) ++ rest), length-append (f (first +ℤ pos n)) rest, length-append old (flat_map f (from first count)))

-- the same over the places of a cell, of whose points those inside are appended
pub record Kept {X Y : Type 0} (test : Y → Bool) (f : X → Y) (xs : List X) (i limit : ℕ) (old now : List Y) : Type 0 where
  pub all : now ++ filter test (map f (drop i xs)) ≡ old ++ filter test (map f xs)
  pub few : length old ≤ limit → length now ≤ limit

kept_front : {X Y : Type 0} (test : Y → Bool) (f : X → Y) (xs : List X) (i : ℕ) (d : X) → i < length xs
    → filter test (map f (drop i xs)) ≡ filter test (f (get_or xs i d) ∷ []) ++ filter test (map f (drop (i + 1) xs))
kept_front test f xs i d below =
    ap (λ l. filter test (map f l)) (drop_more xs i d below) ∙ filter-append test (f (get_or xs i d) ∷ []) (map f (drop (i + 1) xs))

pub kept_more : {X Y : Type 0} (test : Y → Bool) (f : X → Y) (xs : List X) (i limit : ℕ) (d : X) (old now new : List Y) → i < length xs
    → Kept test f xs i limit old now → new ≡ now ++ filter test (f (get_or xs i d) ∷ []) → (length now ≤ limit → length new ≤ limit) → Kept test f xs (i + 1) limit old new
kept_more test f xs i limit d old now new below kept is few =
    let rest = filter test (map f (drop (i + 1) xs)) in
    record {
      all = ap (λ l. l ++ rest) is ∙ append_assoc now (filter test (f (get_or xs i d) ∷ [])) rest ∙ sym (ap (λ l. now ++ l) (kept_front test f xs i d below)) ∙ kept.all;
      few = λ h. few (kept.few h);
    }

pub kept_all : {X Y : Type 0} (test : Y → Bool) (f : X → Y) (xs : List X) (i limit : ℕ) (old now : List Y) → length xs ≤ i → Kept test f xs i limit old now → now ≡ old ++ filter test (map f xs)
kept_all test f xs i limit old now high kept =
    sym (append-nil now) ∙ sym (ap (λ l. now ++ filter test (map f l)) (drop_all i xs high)) ∙ kept.all

pub kept_over : {X Y : Type 0} (test : Y → Bool) (f : X → Y) (xs : List X) (i limit : ℕ) (d : X) (old now : List Y) → i < length xs
    → Kept test f xs i limit old now → limit < length now + length (filter test (f (get_or xs i d) ∷ [])) → limit < length old + length (filter test (map f xs))
kept_over test f xs i limit d old now below kept over =
    let rest = filter test (map f (drop (i + 1) xs)) in
    let whole : length (now ++ filter test (map f (drop i xs))) ≡ length (old ++ filter test (map f xs)) = ap length kept.all in
    let split : length (now ++ filter test (map f (drop i xs))) ≡ length (now ++ (filter test (f (get_or xs i d) ∷ []) ++ rest)) = ap (λ l. length (now ++ l)) (kept_front test f xs i d below) in
    omega (arith, whole, split, length-append now (filter test (f (get_or xs i d) ∷ []) ++ rest), length-append (filter test (f (get_or xs i d) ∷ [])) rest, length-append old (filter test (map f xs)))

-- a point of a cell whose numbers are handed on
pub same_point : (s : Spacing) (q : Quarters) (p : List ℤ) (x y z : ℤ) → unsigned_abs x ≤ 2 ^ 17 → unsigned_abs y ≤ 2 ^ 17 → unsigned_abs z ≤ 2 ^ 17
    → p ≡ point_of s record { x = to_z w64 (of_z w64 x); y = to_z w64 (of_z w64 y); z = to_z w64 (of_z w64 z) } q → p ≡ point_of s record { x = x; y = y; z = z } q
same_point s q p x y z few_x few_y few_z is =
    is
    ∙ ap (λ (i : ℤ). point_of s record { x = i; y = to_z w64 (of_z w64 y); z = to_z w64 (of_z w64 z) } q) (same_number x x few_x refl)
    ∙ ap (λ (j : ℤ). point_of s record { x = x; y = j; z = to_z w64 (of_z w64 z) } q) (same_number y y few_y refl)
    ∙ ap (λ (k : ℤ). point_of s record { x = x; y = y; z = k } q) (same_number z z few_z refl)

-- the cells that are gone through
pub over_cells : {X : Type 0} (f : ℤ → List X) (e : Extent) (first : ℤ) (spacing count limit : ℕ) (old : List X) → first ≡ first_cell e spacing → count ≡ cells_count e spacing
    → limit < length old + length (flat_map f (from first count)) → limit < length old + length (flat_map f (cells_along e spacing))
over_cells f e first spacing count limit old is many over =
    subst (λ (n : ℕ). limit < length old + length (flat_map f (from (first_cell e spacing) n))) many (subst (λ (i : ℤ). limit < length old + length (flat_map f (from i count))) is over)
