-- What listed pairs bring is what the near pairs of the atoms bring.
use Rattle.std.proofs.Common.{◌≡◌, ◌<◌, ◌==◌, Bool, true, false, ℕ, suc, ℤ, pos, ◌+ℤ◌, neg_ℤ, cond, List, [], ◌∷◌, All, length, map, filter, get_or, w64, refl, sym, ap, ◌∙◌, arith}
use Rattle.std.specs.Prelude.{nat_lt}
use Rattle.std.proofs.lemmas.Bool.Decides.{nat_tests}
use Rattle.std.proofs.lemmas.Int.{int_wrap_fits, ints}
use Rattle.std.proofs.lemmas.List.Sorted.{IsPermutation-refl}
use Rattle.std.proofs.lemmas.Map.Keys.{apart_from_distinct}
use Rattle.box_geo.specs.Sides.{HasEdges, x_of, y_of, z_of}
use Rattle.box_geo.specs.declared.atoms.Atom.{Atom}
use Rattle.box_geo.specs.declared.sim_box.Sides.{Sides}
use Rattle.pair_forces.specs.Adds.{AreAdded, ArePlaces, FitWords, FitsWord, HasMore, IsNone, brought_at, in_word, term_at}
use Rattle.pair_forces.specs.Sums.{AreSums}
use Rattle.serial_step.specs.Forces.{Field, close_word, energy_of, force_of, force_on, pair_energy, pair_virial, term_of, terms_fault, virial_of}
use Rattle.serial_step.specs.Pairs.{AreApart, AreNearPairs, IsFair, LeavesNoTerm, brought, energy_between, pair_at, virial_between, word_between}
use Rattle.serial_step.proofs.ForceLemmas.{pair_energy_from_pairs, pair_virial_from_pairs, terms_fault_from_pairs, total-chosen, x_from_pairs, y_from_pairs, z_from_pairs}
use Rattle.serial_step.proofs.LeastLemmas.{least-chosen}
use Rattle.sums.specs.Totals.{into, opposite_adds, total}
use Rattle.sums.proofs.Totals.{total-flat_map}

-- places and ids tell the same atoms apart
module _ (atoms : List Atom) (d : Atom) (apart : AreApart (λ a. a.id) atoms) where
  abbrev id_at : ℕ → ℕ
  id_at k = (get_or atoms k d).id

  test_not : (m n : ℕ) → (n == m) ≡ false → (m == n) ≡ false
  test_not m n e = grind (arith, nat_tests)

  less_not : (p k : ℕ) → nat_lt p k ≡ true → (p == k) ≡ false
  less_not p k t = grind (arith, nat_tests)

  less_is : (p k : ℕ) → nat_lt p k ≡ true → p < k
  less_is p k t = grind (arith, nat_tests)

  neither : (p k : ℕ) → nat_lt p k ≡ false → nat_lt k p ≡ false → p ≡ k
  neither p k t u = grind (arith, nat_tests)

  self_test : (n : ℕ) → (n == n) ≡ true
  self_test n = grind (arith, nat_tests)

  same_test : (p k : ℕ) → p < length atoms → k < length atoms → (p == k) ≡ (id_at p == id_at k)
  same_test p k hp hk = by_order (nat_lt p k) refl (nat_lt k p) refl
    where
      by_order : (t : Bool) → nat_lt p k ≡ t → (u : Bool) → nat_lt k p ≡ u → (p == k) ≡ (id_at p == id_at k)
      by_order true t u e = less_not p k t ∙ sym (apart_from_distinct (λ a b. a.id == b.id) atoms p k d apart (less_is p k t) hk)
      by_order false t true e =
          test_not p k (less_not k p e) ∙ sym (test_not (id_at p) (id_at k) (apart_from_distinct (λ a b. a.id == b.id) atoms k p d apart (less_is k p e) hp))
      by_order false t false e =
          let same : p ≡ k = neither p k t e in
          ap (λ (n : ℕ). n == k) same ∙ self_test k ∙ sym (ap (λ (n : ℕ). id_at n == id_at k) same ∙ self_test (id_at k))

  brought_by_id : (field : Field) (s : Sides) (c : List ℤ → ℤ) (k : ℕ) → k < length atoms → (places : List (ℕ × ℕ)) → ArePlaces atoms places
      → brought_at field s atoms d c places k ≡ brought field s c (λ a. a.id) (map (pair_at atoms d) places) (id_at k)
  unfolding brought_at
  brought_by_id field s c k lt [] all = refl
  brought_by_id field s c k lt (p ∷ places) all =
      let f : ℤ = c (force_of (term_at field s atoms d p.0 p.1)) in
      let here = all 0 p (omega arith) in
      let rest = brought_by_id field s c k lt places (λ n e inside. all (suc n) e (omega arith)) in
      three_sums _ _ _ _ _ _
      (ap (λ (b : Bool). cond b f (pos 0)) (same_test p.0 k here.0 lt))
      (ap (λ (b : Bool). cond b (neg_ℤ f) (pos 0)) (same_test p.1 k here.1 lt))
      rest
    where
      three_sums : (a b x y m n : ℤ) → a ≡ b → x ≡ y → m ≡ n → a +ℤ (x +ℤ m) ≡ b +ℤ (y +ℤ n)
      three_sums a b x y m n e g h = ap (λ (z : ℤ). z +ℤ (x +ℤ m)) e ∙ ap (λ (z : ℤ). b +ℤ (z +ℤ m)) g ∙ ap (λ (z : ℤ). b +ℤ (y +ℤ z)) h

-- pairs without a term bring nothing
two_none : (b e : Bool) (z : ℤ) → z ≡ pos 0 → cond b z (pos 0) +ℤ (cond e (neg_ℤ z) (pos 0) +ℤ pos 0) ≡ pos 0
two_none true true z is = omega (arith, ints)
two_none true false z is = omega (arith, ints)
two_none false true z is = omega (arith, ints)
two_none false false z is = omega (arith, ints)

brought_near : (field : Field) (s : Sides) (c : List ℤ → ℤ) → c (pos 0 ∷ pos 0 ∷ pos 0 ∷ []) ≡ pos 0 → (word : Atom → ℕ) (near : Atom × Atom → Bool) (pairs : List (Atom × Atom)) (k : ℕ) → LeavesNoTerm field s near
    → brought field s c word pairs k ≡ brought field s c word (filter near pairs) k
brought_near field s c zero_is word near pairs k far =
    let adds : Atom × Atom → List (ℕ × ℤ) = opposite_adds word (λ a b. c (force_of (term_of field s a b))) in
    let bring : Atom × Atom → ℤ = λ p. total (into k) (adds p) in
    total-flat_map (into k) adds pairs
    ∙ total-chosen bring near
    (λ p off. two_none (word p.0 == k) (word p.1 == k) (c (force_of (term_of field s p.0 p.1))) (ap (λ r. c (force_of r)) (far p off) ∙ zero_is))
    pairs (filter near pairs) (IsPermutation-refl (filter near pairs))
    ∙ sym (total-flat_map (into k) adds (filter near pairs))

-- one component of a force
component_is : (field : Field) (s : Sides) (c : List ℤ → ℤ) → c (pos 0 ∷ pos 0 ∷ pos 0 ∷ []) ≡ pos 0 → (atoms : List Atom) (near : Atom × Atom → Bool) (places : List (ℕ × ℕ)) (old new : List (List ℤ)) (i : ℕ) (d : Atom) (v : List ℤ) (force : ℤ)
    → AreApart (λ a. a.id) atoms → LeavesNoTerm field s near → ArePlaces atoms places → length old ≡ length atoms → c (get_or old i v) ≡ pos 0
    → HasMore c old new (brought_at field s atoms d c places) → i < length atoms → FitsWord (c (get_or new i v)) → FitsWord force
    → brought field s c (λ a. a.id) (filter near (map (pair_at atoms d) places)) (get_or atoms i d).id ≡ force
    → c (get_or new i v) ≡ force
component_is field s c zero_is atoms near places old new i d v force apart far within each none h lt fits fits_too is =
    sym (int_wrap_fits w64 (c (get_or new i v)) fits)
    ∙ h i v (omega (arith, each))
    ∙ ap in_word (ap (λ (z : ℤ). z +ℤ brought_at field s atoms d c places i) none ∙ (let e : pos 0 +ℤ brought_at field s atoms d c places i ≡ brought_at field s atoms d c places i = omega (arith, ints) in e)
    ∙ brought_by_id atoms d apart field s c i lt places within
    ∙ brought_near field s c zero_is (λ a. a.id) near (map (pair_at atoms d) places) (get_or atoms i d).id far
    ∙ is)
    ∙ int_wrap_fits w64 force fits_too

pub forces_brought : (field : Field) (s : Sides) (atoms : List Atom) (near : Atom × Atom → Bool) (places : List (ℕ × ℕ)) (old new : List (List ℤ)) (i : ℕ) (d : Atom) (v : List ℤ)
    → IsFair field → HasEdges s → AreApart (λ a. a.id) atoms → LeavesNoTerm field s near
    → ArePlaces atoms places → AreNearPairs near atoms (filter near (map (pair_at atoms d) places))
    → length old ≡ length atoms → All IsNone old → AreAdded field s atoms places old new → All FitWords new
    → i < length atoms → FitWords (force_on field s atoms (get_or atoms i d))
    → (x_of (get_or new i v) ≡ x_of (force_on field s atoms (get_or atoms i d)))
    × (y_of (get_or new i v) ≡ y_of (force_on field s atoms (get_or atoms i d)))
    × (z_of (get_or new i v) ≡ z_of (force_on field s atoms (get_or atoms i d)))
forces_brought field s atoms near places old new i d v fair edges apart far within same each none added words lt fits =
    let some = none i v (omega (arith, each)) in
    let word = words i v (omega (arith, each, added.long)) in (
      component_is field s x_of refl atoms near places old new i d v _ apart far within each some.0 (added.x d) lt word.0 fits.0
          (x_from_pairs field s (λ a. a.id) atoms near _ i d fair edges apart far same lt),
      component_is field s y_of refl atoms near places old new i d v _ apart far within each some.1 (added.y d) lt word.1 fits.1
          (y_from_pairs field s (λ a. a.id) atoms near _ i d fair edges apart far same lt),
      component_is field s z_of refl atoms near places old new i d v _ apart far within each some.2 (added.z d) lt word.2 fits.2
          (z_from_pairs field s (λ a. a.id) atoms near _ i d fair edges apart far same lt),
    )

-- the sums
pub energy_is : (field : Field) (s : Sides) (atoms : List Atom) (near : Atom × Atom → Bool) (pairs : List (Atom × Atom)) (e v : ℤ) (w : ℕ)
    → LeavesNoTerm field s near → AreNearPairs near atoms (filter near pairs) → AreSums field s pairs e v w → e ≡ pair_energy field s atoms
energy_is field s atoms near pairs e v w far same h =
    h.energy ∙ total-chosen (energy_between field s) near (λ p off. ap energy_of (far p off)) pairs (filter near pairs) (IsPermutation-refl (filter near pairs))
    ∙ sym (pair_energy_from_pairs field s atoms near (filter near pairs) far same)

pub virial_is : (field : Field) (s : Sides) (atoms : List Atom) (near : Atom × Atom → Bool) (pairs : List (Atom × Atom)) (e v : ℤ) (w : ℕ)
    → LeavesNoTerm field s near → AreNearPairs near atoms (filter near pairs) → AreSums field s pairs e v w → v ≡ pair_virial field s atoms
virial_is field s atoms near pairs e v w far same h =
    h.virial ∙ total-chosen (virial_between field s) near (λ p off. ap virial_of (far p off)) pairs (filter near pairs) (IsPermutation-refl (filter near pairs))
    ∙ sym (pair_virial_from_pairs field s atoms near (filter near pairs) far same)

pub fault_is : (field : Field) (s : Sides) (atoms : List Atom) (near : Atom × Atom → Bool) (pairs : List (Atom × Atom)) (e v : ℤ) (w : ℕ)
    → LeavesNoTerm field s near → AreNearPairs near atoms (filter near pairs) → AreSums field s pairs e v w → w ≡ terms_fault field s atoms
fault_is field s atoms near pairs e v w far same h =
    h.fault ∙ least-chosen (word_between field s) near (λ p off. ap (close_word p.0.id p.1.id) (far p off)) pairs (filter near pairs) (IsPermutation-refl (filter near pairs))
    ∙ sym (terms_fault_from_pairs field s atoms near (filter near pairs) far same)
