-- Ranks and places along the axes: the one by the others.
use Rattle.std.proofs.Common.{◌≡◌, ◌+◌, ◌*◌, ◌/◌, ◌%◌, ◌<◌, ◌≤◌, ℕ, ℤ, ◌≤ℤ◌, List, arith, sym, ap, ◌∙◌, subst}
use Rattle.std.proofs.lemmas.Int.{ints}
use Rattle.std.proofs.lemmas.Nat.{mul-le, mul-add-lt, div-mul-add, mod-mul-add, mod_below, div_below, div-add-mod'}
use Rattle.box_geo.specs.declared.sim_box.Extent.{Extent}
use Rattle.box_geo.specs.declared.sim_box.Sides.{Sides}
use Rattle.box_geo.specs.Sides.{HasEdges, Holds, IsInside, x_of, y_of, z_of}
use Rattle.rank_grid.specs.Bricks.{AreCounts, IsBetween, IsInBrick, x_count, y_count, z_count, ranks, rank_of, x_place, y_place, z_place, place_along, side_along, owner, low_side, high_side}
use Rattle.rank_grid.proofs.SideLemmas.{place_along-below, place_along-between, place_along-only, side_along-within}

-- each number of bricks along an axis is at most that of all
three_factors : (p q r m : ℕ) → 1 ≤ p → 1 ≤ q → 1 ≤ r → p * q * r ≤ m → (p ≤ m) × (q ≤ m) × (r ≤ m)
three_factors p q r m a b c most =
    let pq : 1 * 1 ≤ p * q = mul-le 1 1 p q a b in
    let f : p * 1 * 1 ≤ p * q * r = mul-le (p * 1) 1 (p * q) r (mul-le p 1 p q (omega arith) b) c in
    let g : 1 * q * 1 ≤ p * q * r = mul-le (1 * q) 1 (p * q) r (mul-le 1 q p q a (omega arith)) c in
    let h : 1 * r ≤ p * q * r = mul-le 1 r (p * q) r (omega arith) (omega arith) in
    (omega arith, omega arith, omega arith)

pub few_counts : (counts : List ℕ) → AreCounts counts → (x_count counts ≤ 512) × (y_count counts ≤ 512) × (z_count counts ≤ 512)
few_counts counts h = three_factors (x_count counts) (y_count counts) (z_count counts) 512 h.0 h.1 h.2 h.3

-- a rank, worked out step by step, is never above the number of bricks
pub rank_fits : (p q r i j k m : ℕ) → i < p → j < q → k < r → p * q * r ≤ m → (k * q + j < m) × ((k * q + j) * p + i < m)
rank_fits p q r i j k m f g h most =
    let row : k * q + j < q * r = mul-add-lt k q j r h g in
    let all : (k * q + j) * p + i < p * (q * r) = mul-add-lt (k * q + j) p i (q * r) row f in
    let one : 1 * (q * r) ≤ p * (q * r) = mul-le 1 (q * r) p (q * r) (omega arith) (omega arith) in
    (omega arith, omega arith)

row_below : (p q r i j k : ℕ) → i < p → j < q → k < r → (k * q + j) * p + i < p * q * r
row_below p q r i j k f g h =
    let row : k * q + j < q * r = mul-add-lt k q j r h g in
    let all : (k * q + j) * p + i < p * (q * r) = mul-add-lt (k * q + j) p i (q * r) row f in
    omega arith

pub rank_of-below : (counts : List ℕ) (i j k : ℕ) → i < x_count counts → j < y_count counts → k < z_count counts → rank_of counts i j k < ranks counts
rank_of-below counts i j k f g h = row_below (x_count counts) (y_count counts) (z_count counts) i j k f g h

-- the places of a rank that is made of places
pub x_place-rank_of : (counts : List ℕ) (i j k : ℕ) → i < x_count counts → x_place counts (rank_of counts i j k) ≡ i
x_place-rank_of counts i j k f = mod-mul-add (k * y_count counts + j) (x_count counts) i f

over_x : (counts : List ℕ) (i j k : ℕ) → i < x_count counts → rank_of counts i j k / x_count counts ≡ k * y_count counts + j
over_x counts i j k f = div-mul-add (k * y_count counts + j) (x_count counts) i f

pub y_place-rank_of : (counts : List ℕ) (i j k : ℕ) → i < x_count counts → j < y_count counts → y_place counts (rank_of counts i j k) ≡ j
y_place-rank_of counts i j k f g = ap (λ (n : ℕ). n % y_count counts) (over_x counts i j k f) ∙ mod-mul-add k (y_count counts) j g

pub z_place-rank_of : (counts : List ℕ) (i j k : ℕ) → i < x_count counts → j < y_count counts → z_place counts (rank_of counts i j k) ≡ k
z_place-rank_of counts i j k f g = ap (λ (n : ℕ). n / y_count counts) (over_x counts i j k f) ∙ div-mul-add k (y_count counts) j g

-- and the rank that is made of its places
pub rank_of-places : (counts : List ℕ) (rank : ℕ) → rank_of counts (x_place counts rank) (y_place counts rank) (z_place counts rank) ≡ rank
rank_of-places counts rank =
    let p : ℕ = x_count counts in
    let q : ℕ = y_count counts in
    ap (λ (n : ℕ). n * p + rank % p) (div-add-mod' (rank / p) q) ∙ div-add-mod' rank p

pub x_place-below : (counts : List ℕ) (rank : ℕ) → AreCounts counts → x_place counts rank < x_count counts
x_place-below counts rank h = mod_below rank (x_count counts) h.0

pub y_place-below : (counts : List ℕ) (rank : ℕ) → AreCounts counts → y_place counts rank < y_count counts
y_place-below counts rank h = mod_below (rank / x_count counts) (y_count counts) h.1

pub z_place-below : (counts : List ℕ) (rank : ℕ) → AreCounts counts → rank < ranks counts → z_place counts rank < z_count counts
z_place-below counts rank h lt =
    let p : ℕ = x_count counts in
    let q : ℕ = y_count counts in
    let r : ℕ = z_count counts in
    let plane : rank / p < r * q = div_below rank p (r * q) h.0 (omega arith) in
    div_below (rank / p) q r h.1 plane

-- the laws of bricks
pub owner-below : (counts : List ℕ) (s : Sides) (p : List ℤ) → AreCounts counts → IsInside s p → owner counts s p < ranks counts
unfolding owner
owner-below counts s p h inside =
    rank_of-below counts _ _ _
    (place_along-below (x_count counts) s.x (x_of p) h.0 inside.0)
    (place_along-below (y_count counts) s.y (y_of p) h.1 inside.1)
    (place_along-below (z_count counts) s.z (z_of p) h.2 inside.2)

at_place : (p : ℕ) (e : Extent) (x : ℤ) (k l : ℕ) → k ≡ l → IsBetween (side_along p e k) (side_along p e (k + 1)) x → IsBetween (side_along p e l) (side_along p e (l + 1)) x
at_place p e x k l same h = subst (λ (m : ℕ). IsBetween (side_along p e m) (side_along p e (m + 1)) x) same h

pub owner-holds : (counts : List ℕ) (s : Sides) (p : List ℤ) → AreCounts counts → IsInside s p → IsInBrick counts s (owner counts s p) p
unfolding owner low_side high_side
owner-holds counts s p h inside =
    let i : ℕ = place_along (x_count counts) s.x (x_of p) in
    let j : ℕ = place_along (y_count counts) s.y (y_of p) in
    let k : ℕ = place_along (z_count counts) s.z (z_of p) in
    let fx : i < x_count counts = place_along-below (x_count counts) s.x (x_of p) h.0 inside.0 in
    let fy : j < y_count counts = place_along-below (y_count counts) s.y (y_of p) h.1 inside.1 in
    record {
      x = at_place (x_count counts) s.x (x_of p) i _ (sym (x_place-rank_of counts i j k fx)) (place_along-between (x_count counts) s.x (x_of p) h.0 inside.0);
      y = at_place (y_count counts) s.y (y_of p) j _ (sym (y_place-rank_of counts i j k fx fy)) (place_along-between (y_count counts) s.y (y_of p) h.1 inside.1);
      z = at_place (z_count counts) s.z (z_of p) k _ (sym (z_place-rank_of counts i j k fx fy)) (place_along-between (z_count counts) s.z (z_of p) h.2 inside.2);
    }

same_rank : (counts : List ℕ) (i j k l m n : ℕ) → i ≡ l → j ≡ m → k ≡ n → rank_of counts i j k ≡ rank_of counts l m n
same_rank counts i j k l m n f g h = cc

pub owner-only : (counts : List ℕ) (s : Sides) (rank : ℕ) (p : List ℤ) → AreCounts counts → IsInBrick counts s rank p → owner counts s p ≡ rank
unfolding owner low_side high_side
owner-only counts s rank p h inside =
    same_rank counts _ _ _ (x_place counts rank) (y_place counts rank) (z_place counts rank)
    (place_along-only (x_count counts) s.x (x_of p) (x_place counts rank) h.0 inside.x)
    (place_along-only (y_count counts) s.y (y_of p) (y_place counts rank) h.1 inside.y)
    (place_along-only (z_count counts) s.z (z_of p) (z_place counts rank) h.2 inside.z)
    ∙ rank_of-places counts rank

held : (e : Extent) (low high x : ℤ) → e.lo ≤ℤ low → IsBetween low high x → high ≤ℤ e.hi → Holds e x
held e low high x f g h = (omega (arith, ints), omega (arith, ints))

pub owner_from : (counts : List ℕ) (s : Sides) (p : List ℤ) (i j k : ℕ)
    → i ≡ place_along (x_count counts) s.x (x_of p) → j ≡ place_along (y_count counts) s.y (y_of p) → k ≡ place_along (z_count counts) s.z (z_of p)
    → rank_of counts i j k ≡ owner counts s p
unfolding owner
owner_from counts s p i j k f g h = same_rank counts i j k _ _ _ f g h

pub brick-inside : (counts : List ℕ) (s : Sides) (rank : ℕ) (p : List ℤ) → AreCounts counts → HasEdges s → rank < ranks counts → IsInBrick counts s rank p → IsInside s p
unfolding low_side high_side
brick-inside counts s rank p h long lt inside =
    let ax = side_along-within (x_count counts) s.x (x_place counts rank) h.0 (omega (arith, x_place-below counts rank h)) long.0 in
    let bx = side_along-within (x_count counts) s.x (x_place counts rank + 1) h.0 (omega (arith, x_place-below counts rank h)) long.0 in
    let ay = side_along-within (y_count counts) s.y (y_place counts rank) h.1 (omega (arith, y_place-below counts rank h)) long.1 in
    let by = side_along-within (y_count counts) s.y (y_place counts rank + 1) h.1 (omega (arith, y_place-below counts rank h)) long.1 in
    let az = side_along-within (z_count counts) s.z (z_place counts rank) h.2 (omega (arith, z_place-below counts rank h lt)) long.2 in
    let bz = side_along-within (z_count counts) s.z (z_place counts rank + 1) h.2 (omega (arith, z_place-below counts rank h lt)) long.2 in
    (held s.x _ _ (x_of p) ax.0 inside.x bx.1, held s.y _ _ (y_of p) ay.0 inside.y by.1, held s.z _ _ (z_of p) az.0 inside.z bz.1)
