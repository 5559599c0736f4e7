-- The 27 cells round a position: they have 27 numbers, and every site that is near is in one of them.
use Rattle.std.proofs.Common.{◌≡◌, ◌+◌, ◌-◌, ◌*◌, ◌/◌, ◌%◌, ◌<◌, ◌≤◌, ◌==◌, true, false, ltb, ℕ, zero, suc, ℤ, ◌+ℤ◌, ◌-ℤ◌, unsigned_abs, List, map, filter, IsPermutation, refl, sym, ap, subst, ◌∙◌, arith}
use Rattle.std.specs.List.{range_with_len}
use Rattle.std.proofs.lemmas.Bool.Decides.{nat_tests}
use Rattle.std.proofs.lemmas.Int.{ints}
use Rattle.std.proofs.lemmas.Nat.{same_from_place, mod_below, mul-add-lt, mul-le, div-add-mod'}
use Rattle.box_geo.specs.Sides.{x_of, y_of, z_of}
use Rattle.box_geo.specs.declared.atoms.Site.{Site}
use Rattle.cell_bins.specs.declared.cells.Cells.{Cells}
use Rattle.cell_bins.specs.Around.{joined}
use Rattle.cell_bins.specs.Cells.{cell_before, count_of, is_in, number_at, number_of, number_round}
use Rattle.cell_bins.specs.declared.limits.TheConstants.{MAX_COORDINATE}
use Rattle.cell_bins.specs.Near.{IsNear, Meets}
use Rattle.sums.proofs.Filters.{among, flat_map-map, has_one_of, some_from}

-- the number of a cell is below their count
pub number_below : (c : Cells) (x y z : ℕ) → number_of c x y z < count_of c
unfolding number_of
number_below c x y z =
    let row = mul-add-lt (z % c.z) c.y (y % c.y) c.z (mod_below z c.z (omega (arith, c.least.2))) (mod_below y c.y (omega (arith, c.least.1))) in
    let all = mul-add-lt (z % c.z * c.y + y % c.y) c.x (x % c.x) (c.y * c.z) (omega (arith, row)) (mod_below x c.x (omega (arith, c.least.0))) in
    omega (arith, all)

-- numbers that begin anew after w: three in a row differ
within_turn : (a b w q : ℕ) → a < b → b < a + w → q * w + a ≡ b → q ≡ 0
within_turn a b w zero lt hi is = refl
within_turn a b w (suc q) lt hi is = absurd (omega (arith, mul-le 1 w (suc q) w (omega arith) (omega arith)))

no_turn : (m n w : ℕ) → 0 < w → m < n → n < m + w → m % w ≡ n % w → m ≡ n
no_turn m n w some lt hi is =
    let a : ℕ = m / w in
    let b : ℕ = n / w in
    let em = div-add-mod' m w in
    let en = div-add-mod' n w in
    let less : a * w < b * w = omega (arith, em, en) in
    let up : a < b = grind arith in
    absurd (omega (arith, em, en, mul-le (a + 1) w b w (omega arith) (omega arith)))

differs_up : (n w i j : ℕ) → 3 ≤ w → i < j → j < 3 → (n + i) % w ≡ (n + j) % w → i ≡ j
differs_up n w i j least lt hi is = absurd (omega (arith, no_turn (n + i) (n + j) w (omega arith) (omega arith) (omega arith) is))

differs : (n w i j : ℕ) → 3 ≤ w → i < 3 → j < 3 → (n + i) % w ≡ (n + j) % w → i ≡ j
differs n w i j least lo hi is =
    elim (ltb i j) as (λ t. ltb i j ≡ t → i ≡ j) [
      | true ↦ λ t. differs_up n w i j least (grind (arith, nat_tests)) hi is
      | false ↦ λ t.
          elim (ltb j i) as (λ u. ltb j i ≡ u → i ≡ j) [
            | true ↦ λ u. sym (differs_up n w j i least (grind (arith, nat_tests)) lo (sym is))
            | false ↦ λ u. grind (arith, nat_tests)
          ]
          refl
    ]
    refl

-- the numbers of two cells are equal only where their places along each axis begin anew alike
alike : (c : Cells) (x y z u v w : ℕ) → number_of c x y z ≡ number_of c u v w → (x % c.x ≡ u % c.x) × (y % c.y ≡ v % c.y) × (z % c.z ≡ w % c.z)
unfolding number_of
alike c x y z u v w is =
    let row = same_from_place (z % c.z * c.y + y % c.y) (x % c.x) (w % c.z * c.y + v % c.y) (u % c.x) c.x (mod_below x c.x (omega (arith, c.least.0))) (mod_below u c.x (omega (arith, c.least.0))) is in
    let column = same_from_place (z % c.z) (y % c.y) (w % c.z) (v % c.y) c.y (mod_below y c.y (omega (arith, c.least.1))) (mod_below v c.y (omega (arith, c.least.1))) row.0 in
    (row.1, column.1, column.0)

place_is : (i j : ℕ) → i < 27 → j < 27 → i % 3 ≡ j % 3 → i / 3 % 3 ≡ j / 3 % 3 → i / 9 ≡ j / 9 → i ≡ j
place_is i j lo hi a b c = omega arith

ninth : (i : ℕ) → i < 27 → i / 9 < 3
ninth i lt = omega arith

third : (i : ℕ) → i % 3 < 3
third i = omega arith

pub round_apart : (c : Cells) (x y z i j : ℕ) → i < 27 → j < 27 → number_round c x y z i ≡ number_round c x y z j → i ≡ j
round_apart c x y z i j lo hi is =
    let same = alike c (x + i % 3) (y + i / 3 % 3) (z + i / 9) (x + j % 3) (y + j / 3 % 3) (z + j / 9) is in
    place_is i j lo hi
    (differs x c.x (i % 3) (j % 3) c.least.0 (third i) (third j) same.0)
    (differs y c.y (i / 3 % 3) (j / 3 % 3) c.least.1 (third (i / 3)) (third (j / 3)) same.1)
    (differs z c.z (i / 9) (j / 9) c.least.2 (ninth i lo) (ninth j hi) same.2)

eqb_is : (m n : ℕ) → m ≡ n → (m == n) ≡ true
eqb_is m n is = grind (arith, nat_tests)

-- along one axis a coordinate that is near is in one of three cells
near_cell : (m n r : ℕ) → 0 < r → m < n + r → m / r ≤ n / r + 1
near_cell m n r some lt = grind arith

abbrev shift : ℕ → ℤ → ℤ → ℕ
shift r a b = cell_before r b + 1 - cell_before r a

pub shifted : (r : ℕ) (a b : ℤ) → 0 < r → unsigned_abs (a -ℤ b) < r → (shift r a b < 3) × (cell_before r a + shift r a b ≡ cell_before r b + 1)
shifted r a b some near =
    let u : ℕ = unsigned_abs (a +ℤ MAX_COORDINATE) in
    let v : ℕ = unsigned_abs (b +ℤ MAX_COORDINATE) in
    let up : u < v + r = omega (arith, ints) in
    let down : v < u + r = omega (arith, ints) in
    let one = near_cell u v r some up in
    let two = near_cell v u r some down in
    (omega (arith, one, two), omega (arith, one, two))

place_of : ℕ → ℕ → ℕ → ℕ
place_of i j k = 9 * k + 3 * j + i

place_parts : (i j k : ℕ) → i < 3 → j < 3 → k < 3 → (place_of i j k < 27) × (place_of i j k % 3 ≡ i) × (place_of i j k / 3 % 3 ≡ j) × (place_of i j k / 9 ≡ k)
unfolding place_of
place_parts i j k a b c = (omega arith, omega arith, omega arith, omega arith)

-- a site that is near is in one of the 27 cells
pub round_has : (c : Cells) (x : List ℤ) (s : Site) → IsNear c.reach x s.x
    → has_one_of (λ (t : Site). number_at c t.x) (number_round c (cell_before c.reach (x_of x)) (cell_before c.reach (y_of x)) (cell_before c.reach (z_of x))) 0 27 s ≡ true
round_has c x s near =
    let r : ℕ = c.reach in
    let sx = shifted r (x_of x) (x_of s.x) c.some near.0 in
    let sy = shifted r (y_of x) (y_of s.x) c.some near.1 in
    let sz = shifted r (z_of x) (z_of s.x) c.some near.2 in
    let i : ℕ = shift r (x_of x) (x_of s.x) in
    let j : ℕ = shift r (y_of x) (y_of s.x) in
    let k : ℕ = shift r (z_of x) (z_of s.x) in
    let n : ℕ = place_of i j k in
    let parts = place_parts i j k sx.0 sy.0 sz.0 in
    let there : number_at c s.x ≡ number_round c (cell_before r (x_of x)) (cell_before r (y_of x)) (cell_before r (z_of x)) n =
    ap (λ (a : ℕ). number_of c a (cell_before r (y_of s.x) + 1) (cell_before r (z_of s.x) + 1)) (sym sx.1)
    ∙ ap (λ (a : ℕ). number_of c (cell_before r (x_of x) + i) a (cell_before r (z_of s.x) + 1)) (sym sy.1)
    ∙ ap (λ (a : ℕ). number_of c (cell_before r (x_of x) + i) (cell_before r (y_of x) + j) a) (sym sz.1)
    ∙ ap (λ (a : ℕ). number_of c (cell_before r (x_of x) + a) (cell_before r (y_of x) + j) (cell_before r (z_of x) + k)) (sym parts.1)
    ∙ ap (λ (a : ℕ). number_of c (cell_before r (x_of x) + n % 3) (cell_before r (y_of x) + a) (cell_before r (z_of x) + k)) (sym parts.2)
    ∙ ap (λ (a : ℕ). number_of c (cell_before r (x_of x) + n % 3) (cell_before r (y_of x) + n / 3 % 3) (cell_before r (z_of x) + a)) (sym parts.3) in
    some_from (λ m. number_at c s.x == number_round c (cell_before r (x_of x)) (cell_before r (y_of x)) (cell_before r (z_of x)) m) 0 27 n (omega arith) (omega (arith, parts.0)) (eqb_is (number_at c s.x) _ there)

pub round_meets : (c : Cells) (x : List ℤ) (sites : List Site)
    → Meets c.reach x sites
    (joined (map (λ k. filter (is_in c (number_round c (cell_before c.reach (x_of x)) (cell_before c.reach (y_of x)) (cell_before c.reach (z_of x)) k)) sites) (range_with_len 0 27)))
round_meets c x sites =
    let g : ℕ → ℕ = number_round c (cell_before c.reach (x_of x)) (cell_before c.reach (y_of x)) (cell_before c.reach (z_of x)) in
    record {
      test = has_one_of (λ (t : Site). number_at c t.x) g 0 27;
      near = round_has c x;
      once =
          subst (λ l. IsPermutation (filter (has_one_of (λ (t : Site). number_at c t.x) g 0 27) sites) l)
          (sym (flat_map-map (λ l. l) (λ k. filter (is_in c (g k)) sites) (range_with_len 0 27)))
          (among (λ (t : Site). number_at c t.x) g sites 0 27
          (λ i j lo lt hi is. absurd (omega (arith, lt, round_apart c (cell_before c.reach (x_of x)) (cell_before c.reach (y_of x)) (cell_before c.reach (z_of x)) i j (omega arith) (omega arith) is))));
    }

-- the same where the three cells before have names
pub meets_from : (c : Cells) (x : List ℤ) (sites : List Site) (i j k : ℕ) → i ≡ cell_before c.reach (x_of x) → j ≡ cell_before c.reach (y_of x) → k ≡ cell_before c.reach (z_of x)
    → Meets c.reach x sites (joined (map (λ n. filter (is_in c (number_round c i j k n)) sites) (range_with_len 0 27)))
meets_from c x sites i j k ex ey ez =
    let cells : ℕ → ℕ → ℕ → List Site = λ a b d. joined (map (λ n. filter (is_in c (number_round c a b d n)) sites) (range_with_len 0 27)) in
    subst (λ (a : ℕ). Meets c.reach x sites (cells a j k)) (sym ex)
    (subst (λ (a : ℕ). Meets c.reach x sites (cells (cell_before c.reach (x_of x)) a k)) (sym ey)
    (subst (λ (a : ℕ). Meets c.reach x sites (cells (cell_before c.reach (x_of x)) (cell_before c.reach (y_of x)) a)) (sym ez)
    (round_meets c x sites)))
