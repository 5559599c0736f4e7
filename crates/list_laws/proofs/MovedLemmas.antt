-- Sites that moved with their atoms since a build: a pair that acts stands at its nearest image, and others at least the cutoff apart.
use Rattle.std.proofs.Common.{◌≡◌, ◌+◌, ◌*◌, ◌<◌, ◌≤◌, Bool, true, false, ℕ, zero, suc, ℤ, pos, negsuc, ◌+ℤ◌, ◌-ℤ◌, ◌<ℤ◌, unsigned_abs, List, [], ◌∷◌, ap, arith}
use Rattle.std.specs.Prelude.{nat_lt}
use Rattle.std.proofs.lemmas.Bool.Decides.{nat_tests}
use Rattle.std.proofs.lemmas.Int.{ints}
use Rattle.std.proofs.lemmas.Nat.{mul-le}
use Rattle.box_geo.specs.Sides.{IsInside, edge, length2, near_along, near_image, x_of, y_of, z_of, z_wraps}
use Rattle.box_geo.specs.declared.sim_box.Sides.{Sides}
use Rattle.box_geo.proofs.NearLemmas.{apart, has_edge}
use Rattle.ghost_shell.specs.Images.{moved}
use Rattle.ghost_shell.specs.Lists.{HasRoom, HasRoomAlong, difference, is_short, nearest_shift}
use Rattle.ghost_shell.proofs.ImageLemmas.{nearest_displacement, short_parts}
use Rattle.list_laws.specs.Moved.{sites_apart}
use Rattle.list_laws.proofs.LengthLemmas.{within_skin}
use Rattle.list_laws.proofs.SkinLemmas.{AreApart-around, near_apart, near_half, none_missed, not_below, shortest_by}
use Rattle.serial_step.specs.Rebuild.{is_far}

-- of numbers whole edges apart two of less than half an edge are one
same_by : (e i j : ℕ) (s t : ℤ) → s +ℤ pos (i * e) ≡ t +ℤ pos (j * e) → 2 * unsigned_abs s < e → 2 * unsigned_abs t < e → s ≡ t
same_by e zero zero s t is h g = omega (arith, ints)
same_by e zero (suc j) s t is h g = absurd (omega (arith, ints))
same_by e (suc i) zero s t is h g = absurd (omega (arith, ints))
same_by e (suc i) (suc j) s t is h g = same_by e i j s t (omega (arith, ints)) h g

stands : (u v i l n k m : ℤ) → u -ℤ (v +ℤ i) ≡ k → k ≡ m -ℤ l +ℤ n → (u +ℤ l) -ℤ ((v +ℤ i) +ℤ n) ≡ m
stands u v i l n k m at is = omega (arith, ints)

differs_by : (u v i l n k : ℤ) → u -ℤ (v +ℤ i) ≡ k → (u +ℤ l) -ℤ ((v +ℤ i) +ℤ n) ≡ k -ℤ n +ℤ l
differs_by u v i l n k at = omega (arith, ints)

-- along an axis: a and b are where two atoms are, u and v where they were, i the length to the nearest image then
abbrev Along : Bool → ℤ → ℤ → ℤ → ℤ
Along wraps length p q = near_along wraps length (p -ℤ q)

abbrev Apart : Bool → ℤ → ℤ → ℤ → ℤ → ℤ → ℤ → ℤ
Apart wraps length a b u v i = (u +ℤ Along wraps length a u) -ℤ ((v +ℤ i) +ℤ Along wraps length b v)

acts_along : (wraps : Bool) (length a b u v i : ℤ) (reach : ℕ) → pos 0 <ℤ length → HasRoomAlong wraps length reach → u -ℤ (v +ℤ i) ≡ Along wraps length u v
    → unsigned_abs (Along wraps length u v) < reach → unsigned_abs (Along wraps length a b -ℤ Along wraps length a u +ℤ Along wraps length b v) < reach
    → Apart wraps length a b u v i ≡ Along wraps length a b
acts_along false length a b u v i reach some room at one two = omega (arith, ints)
acts_along true (negsuc e) a b u v i reach some room at one two = absurd (omega (arith, ints))
acts_along true (pos e) a b u v i reach some room at one two =
    let m : ℤ = Along true (pos e) a b in
    let l : ℤ = Along true (pos e) a u in
    let n : ℤ = Along true (pos e) b v in
    let k : ℤ = Along true (pos e) u v in
    let w = AreApart-around e m l n k (a -ℤ b) (a -ℤ u) (b -ℤ v) (u -ℤ v) (near_apart e (a -ℤ b)) (near_apart e (a -ℤ u)) (near_apart e (b -ℤ v)) (near_apart e (u -ℤ v)) (omega (arith, ints)) in
    stands u v i l n k m at (same_by e w.i w.j k (m -ℤ l +ℤ n) w.is (omega (arith, ints, room, one)) (omega (arith, ints, room, two)))

far_along : (wraps : Bool) (length a b u v i : ℤ) → pos 0 <ℤ length → unsigned_abs (a -ℤ b) < unsigned_abs length → u -ℤ (v +ℤ i) ≡ Along wraps length u v
    → unsigned_abs (Along wraps length a b) ≤ unsigned_abs (Apart wraps length a b u v i)
far_along false length a b u v i some within at = omega (arith, ints)
far_along true (negsuc e) a b u v i some within at = absurd (omega (arith, ints))
far_along true (pos e) a b u v i some within at =
    let m : ℤ = Along true (pos e) a b in
    let l : ℤ = Along true (pos e) a u in
    let n : ℤ = Along true (pos e) b v in
    let k : ℤ = Along true (pos e) u v in
    let w = AreApart-around e k n l m (u -ℤ v) (b -ℤ v) (a -ℤ u) (a -ℤ b) (near_apart e (u -ℤ v)) (near_apart e (b -ℤ v)) (near_apart e (a -ℤ u)) (near_apart e (a -ℤ b)) (omega (arith, ints)) in
    let short = shortest_by e w.i w.j m (k -ℤ n +ℤ l) w.is (near_half e (a -ℤ b) (omega (arith, ints, within))) in
    omega (arith, short, ap unsigned_abs (differs_by u v i l n k at))

triangle : (m l n : ℤ) → unsigned_abs (m -ℤ l +ℤ n) ≤ unsigned_abs m + unsigned_abs l + unsigned_abs n
triangle m l n = omega (arith, ints)

test_from : (m n : ℕ) → m < n → nat_lt m n ≡ true
test_from m n lt = grind (arith, nat_tests)

below_from : (m n : ℕ) → nat_lt m n ≡ true → m < n
below_from m n t = grind (arith, nat_tests)

not_short : (m n r : ℕ) → nat_lt m r ≡ false → m ≤ n → nat_lt n r ≡ false
not_short m n r t le = grind (arith, nat_tests)

three : (x y z u v w : ℤ) → x ≡ u → y ≡ v → z ≡ w → x ∷ y ∷ z ∷ [] ≡ u ∷ v ∷ w ∷ []
three x y z u v w f g h = cc

module _ (s : Sides) (cutoff skin : ℕ) (a b u v : List ℤ) where
  abbrev shift : List ℤ
  shift = nearest_shift s u v

  at_build : difference u (moved v shift) ≡ near_image s u v
  at_build = nearest_displacement s u v

  pub acts_apart : HasRoom s (cutoff + skin) → IsInside s u → IsInside s v → is_far s skin (a, u) ≡ false → is_far s skin (b, v) ≡ false
      → is_short cutoff (near_image s a b) ≡ true → sites_apart s a b u v ≡ near_image s a b
  unfolding near_image
  acts_apart room hu hv one two near =
      let reach : ℕ = cutoff + skin in
      let act = below_from (length2 (near_image s a b)) (cutoff * cutoff) near in
      let built = short_parts reach (near_image s u v) (test_from (length2 (near_image s u v)) (reach * reach) (none_missed s cutoff skin a b u v hu hv one two act)) in
      let mx : ℤ = Along s.x.periodic (edge s.x) (x_of a) (x_of b) in
      let my : ℤ = Along s.y.periodic (edge s.y) (y_of a) (y_of b) in
      let mz : ℤ = Along (z_wraps s) (edge s.z) (z_of a) (z_of b) in
      let lx : ℤ = Along s.x.periodic (edge s.x) (x_of a) (x_of u) in
      let ly : ℤ = Along s.y.periodic (edge s.y) (y_of a) (y_of u) in
      let lz : ℤ = Along (z_wraps s) (edge s.z) (z_of a) (z_of u) in
      let nx : ℤ = Along s.x.periodic (edge s.x) (x_of b) (x_of v) in
      let ny : ℤ = Along s.y.periodic (edge s.y) (y_of b) (y_of v) in
      let nz : ℤ = Along (z_wraps s) (edge s.z) (z_of b) (z_of v) in
      let ring : List ℤ = (mx -ℤ lx +ℤ nx) ∷ (my -ℤ ly +ℤ ny) ∷ (mz -ℤ lz +ℤ nz) ∷ [] in
      let within : length2 ring < reach * reach =
      within_skin cutoff skin (unsigned_abs mx) (unsigned_abs my) (unsigned_abs mz) (unsigned_abs lx) (unsigned_abs ly) (unsigned_abs lz) (unsigned_abs nx) (unsigned_abs ny) (unsigned_abs nz)
      (unsigned_abs (mx -ℤ lx +ℤ nx)) (unsigned_abs (my -ℤ ly +ℤ ny)) (unsigned_abs (mz -ℤ lz +ℤ nz))
      (triangle mx lx nx) (triangle my ly ny) (triangle mz lz nz) act
      (not_below (skin * skin) (4 * length2 (near_image s a u)) one)
      (not_below (skin * skin) (4 * length2 (near_image s b v)) two) in
      let round = short_parts reach ring (test_from (length2 ring) (reach * reach) within) in
      three _ _ _ _ _ _
      (acts_along s.x.periodic (edge s.x) (x_of a) (x_of b) (x_of u) (x_of v) (x_of shift) reach (has_edge s.x (x_of u) hu.0) room.0 (ap x_of at_build) built.0 round.0)
      (acts_along s.y.periodic (edge s.y) (y_of a) (y_of b) (y_of u) (y_of v) (y_of shift) reach (has_edge s.y (y_of u) hu.1) room.1 (ap y_of at_build) built.1 round.1)
      (acts_along (z_wraps s) (edge s.z) (z_of a) (z_of b) (z_of u) (z_of v) (z_of shift) reach (has_edge s.z (z_of u) hu.2) room.2 (ap z_of at_build) built.2 round.2)

  pub far_apart : IsInside s a → IsInside s b → is_short cutoff (near_image s a b) ≡ false → is_short cutoff (sites_apart s a b u v) ≡ false
  unfolding near_image
  far_apart ha hb far =
      let x = far_along s.x.periodic (edge s.x) (x_of a) (x_of b) (x_of u) (x_of v) (x_of shift) (has_edge s.x (x_of a) ha.0) (apart s.x (x_of a) (x_of b) ha.0 hb.0) (ap x_of at_build) in
      let y = far_along s.y.periodic (edge s.y) (y_of a) (y_of b) (y_of u) (y_of v) (y_of shift) (has_edge s.y (y_of a) ha.1) (apart s.y (y_of a) (y_of b) ha.1 hb.1) (ap y_of at_build) in
      let z = far_along (z_wraps s) (edge s.z) (z_of a) (z_of b) (z_of u) (z_of v) (z_of shift) (has_edge s.z (z_of a) ha.2) (apart s.z (z_of a) (z_of b) ha.2 hb.2) (ap z_of at_build) in
      let d : List ℤ = sites_apart s a b u v in
      let n : List ℤ = near_image s a b in
      not_short (length2 n) (length2 d) (cutoff * cutoff) far
      (omega (
        arith,
        mul-le (unsigned_abs (x_of n)) (unsigned_abs (x_of n)) (unsigned_abs (x_of d)) (unsigned_abs (x_of d)) x x,
        mul-le (unsigned_abs (y_of n)) (unsigned_abs (y_of n)) (unsigned_abs (y_of d)) (unsigned_abs (y_of d)) y y,
        mul-le (unsigned_abs (z_of n)) (unsigned_abs (z_of n)) (unsigned_abs (z_of d)) (unsigned_abs (z_of d)) z z,
      ))
