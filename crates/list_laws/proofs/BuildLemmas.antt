-- A list that was built at the references has each near pair of the present atoms.
use Rattle.std.proofs.Common.{◌≡◌, ◌+◌, ◌<◌, ◌&&◌, Bool, true, false, ℕ, suc, List, [], ◌∷◌, length, get_or, map, filter, IsPermutation, refl, sym, ap, subst, ◌∙◌, arith}
use Rattle.std.specs.Prelude.{nat_lt}
use Rattle.std.specs.List.{All, range_with_len}
use Rattle.std.proofs.Math.ListN.{get_or-map}
use Rattle.std.proofs.lemmas.Bool.Decides.{nat_tests}
use Rattle.std.proofs.lemmas.List.{length-map}
use Rattle.std.proofs.lemmas.List.Elements.{All-map, All-weaker}
use Rattle.std.proofs.lemmas.List.FromFn.{get_or-range_with_len, length-range_with_len}
use Rattle.std.proofs.lemmas.List.Sorted.{IsPermutation-map}
use Rattle.box_geo.specs.Sides.{IsInside, near_image}
use Rattle.box_geo.specs.declared.atoms.Atom.{Atom}
use Rattle.box_geo.specs.declared.sim_box.Sides.{Sides}
use Rattle.ghost_shell.specs.Lists.{are_near, is_short, near_places}
use Rattle.list_laws.proofs.SkinLemmas.{none_missed_in}
use Rattle.rank_grid.specs.Owned.{numbered}
use Rattle.serial_step.specs.Pairs.{AreNearPairs, is_within, pair_at}
use Rattle.serial_step.specs.Rebuild.{positions, renews}
use Rattle.sums.proofs.Lists.{All-half, IsPermutation-filter, both, filter-filter, filter-map, filter_same, half-map, map-map}
use Rattle.sums.specs.Totals.{half}

-- a list by its places
module _ {X : Type 0} (f : ℕ → X) where
  abbrev StandFrom : ℕ → List X → X → Type 0
  StandFrom k xs d = (i : ℕ) → i < length xs → f (k + i) ≡ get_or xs i d

  first : (k : ℕ) (x : X) (xs : List X) (d : X) → StandFrom k (x ∷ xs) d → f k ≡ x
  first k x xs d stand = ap f (let e : k ≡ k + 0 = omega arith in e) ∙ stand 0 (omega arith)

  others : (k : ℕ) (x : X) (xs : List X) (d : X) → StandFrom k (x ∷ xs) d → StandFrom (k + 1) xs d
  others k x xs d stand = λ i lt. ap f (let e : (k + 1) + i ≡ k + suc i = omega arith in e) ∙ stand (suc i) (omega arith)

  elements_from : (k : ℕ) (xs : List X) (d : X) → StandFrom k xs d → map f (range_with_len k (length xs)) ≡ xs
  elements_from k [] d stand = refl
  elements_from k (x ∷ xs) d stand =
      ap (λ (y : X). y ∷ map f (range_with_len (k + 1) (length xs))) (first k x xs d stand)
      ∙ ap (λ (l : List X). x ∷ l) (elements_from (k + 1) xs d (others k x xs d stand))

  numbered_from : (k : ℕ) (xs : List X) (d : X) → StandFrom k xs d → numbered k xs ≡ map (λ i. (i, f i)) (range_with_len k (length xs))
  numbered_from k [] d stand = refl
  numbered_from k (x ∷ xs) d stand =
      ap (λ (y : X). (k, y) ∷ numbered (k + 1) xs) (sym (first k x xs d stand))
      ∙ ap (λ (l : List (ℕ × X)). (k, f k) ∷ l) (numbered_from (k + 1) xs d (others k x xs d stand))

from_zero : {X : Type 0} (xs : List X) (d : X) (i : ℕ) → i < length xs → get_or xs (0 + i) d ≡ get_or xs i d
from_zero xs d i lt = ap (λ (k : ℕ). get_or xs k d) (let e : 0 + i ≡ i = omega arith in e)

pairs_again : (xs : List (ℕ × ℕ)) → map (λ (p : ℕ × ℕ). (p.0, p.1)) xs ≡ xs
pairs_again [] = refl
pairs_again (x ∷ xs) = ap (λ (l : List (ℕ × ℕ)). x ∷ l) (pairs_again xs)

range_below : (n : ℕ) → All (λ i. i < n) (range_with_len 0 n)
range_below n = λ k d lt. omega (arith, get_or-range_with_len 0 n k d (omega (arith, length-range_with_len 0 n)), length-range_with_len 0 n)

below_from : (m n : ℕ) → nat_lt m n ≡ true → m < n
below_from m n t = grind (arith, nat_tests)

test_from : (m n : ℕ) → m < n → nat_lt m n ≡ true
test_from m n lt = grind (arith, nat_tests)

second_alone : (a b : Bool) → (b ≡ true → a ≡ true) → (a && b) ≡ b
second_alone true b f = refl
second_alone false true f = let e = f refl in cc
second_alone false false f = refl

module _ (s : Sides) (cutoff skin : ℕ) (built present : List Atom) (d : Atom) (inside : All (λ a. IsInside s a.x) built) (same : length built ≡ length present)
    (none : renews s skin (positions present) (positions built) ≡ false) where
  abbrev rs : List ℕ
  rs = range_with_len 0 (length present)

  abbrev within : Atom × Atom → Bool
  within p = is_within s cutoff p

  abbrev within_at : ℕ × ℕ → Bool
  within_at p = within (pair_at present d p)

  abbrev near_at : ℕ × ℕ → Bool
  near_at p = is_short (cutoff + skin) (near_image s (get_or built p.0 d).x (get_or built p.1 d).x)

  places_are : near_places s (cutoff + skin) built ≡ filter near_at (half rs)
  places_are =
      let at : ℕ → ℕ × Atom = λ i. (i, get_or built i d) in
      let places : (ℕ × Atom) × (ℕ × Atom) → ℕ × ℕ = λ p. (p.0.0, p.1.0) in
      let near : (ℕ × Atom) × (ℕ × Atom) → Bool = are_near s (cutoff + skin) in
      ap (λ (l : List (ℕ × Atom)). map places (filter near (half l))) (numbered_from (λ i. get_or built i d) 0 built d (from_zero built d) ∙ ap (λ (n : ℕ). map at (range_with_len 0 n)) same)
      ∙ ap (λ (l : List ((ℕ × Atom) × (ℕ × Atom))). map places (filter near l)) (half-map at rs)
      ∙ ap (map places) (filter-map near (both at) (half rs))
      ∙ map-map places (both at) (filter near_at (half rs))
      ∙ pairs_again (filter near_at (half rs))

  present_are : filter within (half present) ≡ map (pair_at present d) (filter within_at (half rs))
  present_are =
      let at : ℕ → Atom = λ i. get_or present i d in
      ap (λ (l : List Atom). filter within (half l)) (sym (elements_from at 0 present d (from_zero present d)))
      ∙ ap (filter within) (half-map at rs)
      ∙ filter-map within (both at) (half rs)

  position_at : (atoms : List Atom) (i : ℕ) → get_or (positions atoms) i d.x ≡ (get_or atoms i d).x
  position_at atoms i = get_or-map (λ (a : Atom). a.x) atoms i d

  kept_at : (p : ℕ × ℕ) → p.0 < length present → p.1 < length present → within_at p ≡ true → near_at p ≡ true
  kept_at p lo hi t =
      let all : All (IsInside s) (positions built) = All-map (IsInside s) (λ (a : Atom). a.x) built inside in
      let long : length (positions built) ≡ length (positions present) = length-map built (λ (a : Atom). a.x) ∙ same ∙ sym (length-map present (λ (a : Atom). a.x)) in
      let room : length (positions present) ≡ length present = length-map present (λ (a : Atom). a.x) in
      let near = below_from _ _ t in
      let far = none_missed_in s cutoff skin (positions present) (positions built) p.0 p.1 d.x all long none (omega (arith, room)) (omega (arith, room))
      (rw (position_at present p.0, position_at present p.1) near) in
      test_from _ _ (rw (position_at built p.0, position_at built p.1) at far)

  kept : filter within_at (filter near_at (half rs)) ≡ filter within_at (half rs)
  kept =
      filter-filter within_at near_at (half rs)
      ∙ filter_same (λ p. near_at p && within_at p) within_at (half rs)
      (All-weaker (λ p. (p.0 < length present) × (p.1 < length present)) (λ p. (near_at p && within_at p) ≡ within_at p)
      (λ p h. second_alone (near_at p) (within_at p) (kept_at p h.0 h.1)) (half rs) (All-half (λ i. i < length present) rs (range_below (length present))))

  pub near_until : (places : List (ℕ × ℕ)) → IsPermutation (near_places s (cutoff + skin) built) places
      → AreNearPairs (is_within s cutoff) present (filter (is_within s cutoff) (map (pair_at present d) places))
  near_until places h =
      let listed : IsPermutation (filter near_at (half rs)) places = subst (λ (l : List (ℕ × ℕ)). IsPermutation l places) places_are h in
      let is : filter within (map (pair_at present d) (filter near_at (half rs))) ≡ filter within (half present) =
      filter-map within (pair_at present d) (filter near_at (half rs)) ∙ ap (map (pair_at present d)) kept ∙ sym present_are in
      subst (λ (l : List (Atom × Atom)). IsPermutation l (filter within (map (pair_at present d) places))) is
      (IsPermutation-filter within _ _ (IsPermutation-map (pair_at present d) _ _ listed))

pub near_until_build : (s : Sides) (cutoff skin : ℕ) (built present : List Atom) (d : Atom) (places : List (ℕ × ℕ))
    → All (λ a. IsInside s a.x) built → length built ≡ length present → renews s skin (positions present) (positions built) ≡ false
    → IsPermutation (near_places s (cutoff + skin) built) places
    → AreNearPairs (is_within s cutoff) present (filter (is_within s cutoff) (map (pair_at present d) places))
near_until_build s cutoff skin built present d places inside same none h = near_until s cutoff skin built present d inside same none places h
