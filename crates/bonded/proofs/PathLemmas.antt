-- Paths of bonds and the test of whether there is one of so many bonds; the special weight by shortest paths.
use Rattle.std.proofs.Common.{◌≡◌, ◌^◌, ◌<◌, ◌≤◌, ◌⊎◌, ◌==◌, ◌&&◌, ◌||◌, Bool, true, false, cond, ℕ, zero, suc, List, [], ◌∷◌, ◌++◌, length, length-append, inl, inr, ⊎_elim, refl, sym, ap, subst, ◌∙◌, arith}
use Rattle.std.specs.Prelude.{slice_index}
use Rattle.std.specs.List.{Contains}
use Rattle.std.proofs.lemmas.Bool.{and_from, and_parts}
use Rattle.std.proofs.lemmas.Bool.Decides.{nat_tests}
use Rattle.std.proofs.lemmas.List.Folds.{Any-from_list_any, list_any-from_Any}
use Rattle.box_geo.specs.declared.atoms.Bond.{Bond}
use Rattle.bonded.specs.Paths.{has_path, special_weight, weight_of_length, AreUnits, IsPath, IsShortest, Joins}

or_cases : (a b : Bool) → (a || b) ≡ true → (a ≡ true) ⊎ (b ≡ true)
or_cases true b h = inl refl
or_cases false b h = inr h

or_left : (a b : Bool) → a ≡ true → (a || b) ≡ true
or_left true b h = refl
or_left false b h = absurd cc

or_right : (a b : Bool) → b ≡ true → (a || b) ≡ true
or_right true b h = refl
or_right false b h = h

equal : (a b : ℕ) → (a == b) ≡ true → a ≡ b
equal a b h = grind (arith, nat_tests)

equal_test : (a b : ℕ) → a ≡ b → (a == b) ≡ true
equal_test a b h = grind (arith, nat_tests)

-- two tests that pass alike
same_test : (p q : Bool) → (p ≡ true → q ≡ true) → (q ≡ true → p ≡ true) → p ≡ q
same_test true q f g = sym (f refl)
same_test false true f g = g refl
same_test false false f g = refl

false_from : (p : Bool) → (p ≡ true → ⊥) → p ≡ false
false_from true f = absurd (f refl)
false_from false f = refl

turned_over : (bond : Bond) (a b : ℕ) → Joins bond a b → Joins bond b a
turned_over bond a b (inl j) = inr (j.1, j.0)
turned_over bond a b (inr j) = inl (j.1, j.0)

module _ (bonds : List Bond) where
  -- a bond at a from where a path of n bonds leads to b
  abbrev goes_on : ℕ → ℕ → ℕ → Bond → Bool
  goes_on n a b bond = ((bond.a == a) && has_path bonds n bond.b b) || ((bond.b == a) && has_path bonds n bond.a b)

  step_from : (n a b : ℕ) (bond : Bond) → goes_on n a b bond ≡ true → (c : ℕ) × Joins bond a c × (has_path bonds n c b ≡ true)
  step_from n a b bond h =
      ⊎_elim
      (λ first. let p = and_parts (bond.a == a) (has_path bonds n bond.b b) first in (bond.b, inl (equal bond.a a p.0, refl), p.1))
      (λ second. let p = and_parts (bond.b == a) (has_path bonds n bond.a b) second in (bond.a, inr (equal bond.b a p.0, refl), p.1))
      (or_cases ((bond.a == a) && has_path bonds n bond.b b) ((bond.b == a) && has_path bonds n bond.a b) h)

  step_to : (n a b c : ℕ) (bond : Bond) → Joins bond a c → has_path bonds n c b ≡ true → goes_on n a b bond ≡ true
  step_to n a b c bond (inl j) h =
      or_left ((bond.a == a) && has_path bonds n bond.b b) ((bond.b == a) && has_path bonds n bond.a b)
      (and_from (bond.a == a) (has_path bonds n bond.b b) (equal_test bond.a a j.0) (ap (λ (x : ℕ). has_path bonds n x b) j.1 ∙ h))
  step_to n a b c bond (inr j) h =
      or_right ((bond.a == a) && has_path bonds n bond.b b) ((bond.b == a) && has_path bonds n bond.a b)
      (and_from (bond.b == a) (has_path bonds n bond.a b) (equal_test bond.b a j.0) (ap (λ (x : ℕ). has_path bonds n x b) j.1 ∙ h))

  -- the test passes exactly where there is such a path
  pub to_path : (n a b : ℕ) → has_path bonds n a b ≡ true → (path : List Bond) × IsPath bonds path a b × (length path ≡ n)
  to_path zero a b h = ([], equal a b h, refl)
  to_path (suc n) a b h =
      let some = Any-from_list_any (goes_on n a b) bonds h in
      let s = step_from n a b some.1 some.4 in
      let rest = to_path n s.0 b s.2 in
      (some.1 ∷ rest.0, (s.0, (some.0, some.2, some.3), s.1, rest.1), omega (arith, rest.2))

  pub from_path : (path : List Bond) (a b : ℕ) → IsPath bonds path a b → has_path bonds (length path) a b ≡ true
  from_path [] a b h = equal_test a b h
  from_path (bond ∷ path) a b h =
      list_any-from_Any (goes_on (length path) a b) bonds
      (h.1.0, bond, h.1.1, h.1.2, step_to (length path) a b h.0 bond h.2 (from_path path h.0 b h.3))

  at_length : (path : List Bond) (n a b : ℕ) → IsPath bonds path a b → length path ≡ n → has_path bonds n a b ≡ true
  at_length path n a b h e = subst (λ (m : ℕ). has_path bonds m a b ≡ true) e (from_path path a b h)

  -- a path may be gone the other way
  longer : (path : List Bond) (a b c : ℕ) (bond : Bond) → IsPath bonds path a b → Contains bonds bond → Joins bond b c → IsPath bonds (path ++ bond ∷ []) a c
  longer [] a b c bond h among j = (c, among, subst (λ (x : ℕ). Joins bond x c) (sym h) j, refl)
  longer (first ∷ path) a b c bond h among j = (h.0, h.1, h.2, longer path h.0 b c bond h.3 among j)

  other_way : (path : List Bond) (a b : ℕ) → IsPath bonds path a b → (back : List Bond) × IsPath bonds back b a × (length back ≡ length path)
  other_way [] a b h = ([], sym h, refl)
  other_way (bond ∷ path) a b h =
      let rest = other_way path h.0 b h.3 in
      (rest.0 ++ bond ∷ [], longer rest.0 b h.0 a bond rest.1 h.1 (turned_over bond a h.0 h.2), omega (arith, rest.2, length-append rest.0 (bond ∷ [])))

  way_back : (n a b : ℕ) → has_path bonds n a b ≡ true → has_path bonds n b a ≡ true
  way_back n a b h =
      let p = to_path n a b h in
      let q = other_way p.0 a b p.1 in
      at_length q.0 n b a q.1 (q.2 ∙ p.2)

  pub either_way : (n a b : ℕ) → has_path bonds n a b ≡ has_path bonds n b a
  either_way n a b = same_test (has_path bonds n a b) (has_path bonds n b a) (way_back n a b) (way_back n b a)

-- the weight by four tests
abbrev pub chosen : ℕ → ℕ → ℕ → ℕ → Bool → Bool → Bool → Bool → ℕ
chosen x y z w p q r s = cond p w (cond q x (cond r y (cond s z w)))

pick_none : (x y z w : ℕ) (p q r s : Bool) → p ≡ true → chosen x y z w p q r s ≡ w
pick_none x y z w p q r s e = rw e refl

pick_first : (x y z w : ℕ) (p q r s : Bool) → p ≡ false → q ≡ true → chosen x y z w p q r s ≡ x
pick_first x y z w p q r s e f = rw (e, f) refl

pick_second : (x y z w : ℕ) (p q r s : Bool) → p ≡ false → q ≡ false → r ≡ true → chosen x y z w p q r s ≡ y
pick_second x y z w p q r s e f g = rw (e, f, g) refl

pick_third : (x y z w : ℕ) (p q r s : Bool) → p ≡ false → q ≡ false → r ≡ false → s ≡ true → chosen x y z w p q r s ≡ z
pick_third x y z w p q r s e f g h = rw (e, f, g, h) refl

pub pick_far : (x y z w : ℕ) (p q r s : Bool) → p ≡ false → q ≡ false → r ≡ false → s ≡ false → chosen x y z w p q r s ≡ w
pick_far x y z w p q r s e f g h = rw (e, f, g, h) refl

chosen_small : (x y z w : ℕ) (p q r s : Bool) → x ≤ w → y ≤ w → z ≤ w → chosen x y z w p q r s ≤ w
chosen_small x y z w true q r s lx ly lz = omega arith
chosen_small x y z w false true r s lx ly lz = lx
chosen_small x y z w false false true s lx ly lz = ly
chosen_small x y z w false false false true lx ly lz = lz
chosen_small x y z w false false false false lx ly lz = omega arith

module _ (bonds : List Bond) (weights : List ℕ) where
  abbrev weight_tests : Bool → Bool → Bool → Bool → ℕ
  weight_tests = chosen (slice_index weights 0) (slice_index weights 1) (slice_index weights 2) (2 ^ 24)

  abbrev tested : ℕ → ℕ → ℕ
  tested a b = weight_tests (has_path bonds 0 a b) (has_path bonds 1 a b) (has_path bonds 2 a b) (has_path bonds 3 a b)

  pub weight_is : (a b : ℕ) → special_weight bonds weights a b ≡ tested a b
  unfolding special_weight
  weight_is a b = refl

  far_weight : (n : ℕ) → 3 < n → 2 ^ 24 ≡ weight_of_length weights n
  far_weight n far =
      let one : (n == 1) ≡ false = grind (arith, nat_tests) in
      let two : (n == 2) ≡ false = grind (arith, nat_tests) in
      let three : (n == 3) ≡ false = grind (arith, nat_tests) in
      rw (one, two, three) refl

  by_length : (n a b : ℕ) → has_path bonds n a b ≡ true → ((m : ℕ) → m < n → has_path bonds m a b ≡ false) → tested a b ≡ weight_of_length weights n
  by_length zero a b here below = pick_none (slice_index weights 0) (slice_index weights 1) (slice_index weights 2) (2 ^ 24) (has_path bonds 0 a b) (has_path bonds 1 a b) (has_path bonds 2 a b) (has_path bonds 3 a b) here
  by_length (suc zero) a b here below =
      pick_first (slice_index weights 0) (slice_index weights 1) (slice_index weights 2) (2 ^ 24) (has_path bonds 0 a b) (has_path bonds 1 a b) (has_path bonds 2 a b) (has_path bonds 3 a b) (below 0 (omega arith)) here
  by_length (suc (suc zero)) a b here below =
      pick_second (slice_index weights 0) (slice_index weights 1) (slice_index weights 2) (2 ^ 24) (has_path bonds 0 a b) (has_path bonds 1 a b) (has_path bonds 2 a b) (has_path bonds 3 a b) (below 0 (omega arith)) (below 1 (omega arith)) here
  by_length (suc (suc (suc zero))) a b here below =
      pick_third (slice_index weights 0) (slice_index weights 1) (slice_index weights 2) (2 ^ 24) (has_path bonds 0 a b) (has_path bonds 1 a b) (has_path bonds 2 a b) (has_path bonds 3 a b)
      (below 0 (omega arith)) (below 1 (omega arith)) (below 2 (omega arith)) here
  by_length (suc (suc (suc (suc n)))) a b here below =
      pick_far (slice_index weights 0) (slice_index weights 1) (slice_index weights 2) (2 ^ 24) (has_path bonds 0 a b) (has_path bonds 1 a b) (has_path bonds 2 a b) (has_path bonds 3 a b)
      (below 0 (omega arith)) (below 1 (omega arith)) (below 2 (omega arith)) (below 3 (omega arith))
      ∙ far_weight (suc (suc (suc (suc n)))) (omega arith)

  -- no path has fewer bonds than a shortest
  none_shorter : (path : List Bond) (a b : ℕ) → IsShortest bonds path a b → (m : ℕ) → m < length path → has_path bonds m a b ≡ false
  none_shorter path a b h m lt =
      false_from (has_path bonds m a b)
      (λ passes. let p = to_path bonds m a b passes in absurd (omega (arith, h.shortest p.0 p.1, p.2)))

  pub shortest_weight : (path : List Bond) (a b : ℕ) → IsShortest bonds path a b → special_weight bonds weights a b ≡ weight_of_length weights (length path)
  shortest_weight path a b h = weight_is a b ∙ by_length (length path) a b (from_path bonds path a b h.is_path) (none_shorter path a b h)

  pub apart_weight : (a b : ℕ) → ((path : List Bond) → IsPath bonds path a b → ⊥) → special_weight bonds weights a b ≡ 2 ^ 24
  apart_weight a b none =
      let absent : (m : ℕ) → has_path bonds m a b ≡ false = λ m. false_from (has_path bonds m a b) (λ passes. let p = to_path bonds m a b passes in none p.0 p.1) in
      weight_is a b
      ∙ pick_far (slice_index weights 0) (slice_index weights 1) (slice_index weights 2) (2 ^ 24) (has_path bonds 0 a b) (has_path bonds 1 a b) (has_path bonds 2 a b) (has_path bonds 3 a b) (absent 0) (absent 1) (absent 2) (absent 3)

  pub tests_alike : (p q r s p' q' r' s' : Bool) → p ≡ p' → q ≡ q' → r ≡ r' → s ≡ s' → weight_tests p q r s ≡ weight_tests p' q' r' s'
  tests_alike p q r s p' q' r' s' ep eq er es =
      ap (λ (t : Bool). weight_tests t q r s) ep ∙ ap (λ (t : Bool). weight_tests p' t r s) eq ∙ ap (λ (t : Bool). weight_tests p' q' t s) er ∙ ap (weight_tests p' q' r') es

  pub either_weight : (a b : ℕ) → special_weight bonds weights a b ≡ special_weight bonds weights b a
  either_weight a b =
      weight_is a b
      ∙ tests_alike (has_path bonds 0 a b) (has_path bonds 1 a b) (has_path bonds 2 a b) (has_path bonds 3 a b) (has_path bonds 0 b a) (has_path bonds 1 b a) (has_path bonds 2 b a) (has_path bonds 3 b a)
      (either_way bonds 0 a b) (either_way bonds 1 a b) (either_way bonds 2 a b) (either_way bonds 3 a b)
      ∙ sym (weight_is b a)

  pub bounded_weight : (a b : ℕ) → AreUnits weights → special_weight bonds weights a b ≤ 2 ^ 24
  bounded_weight a b h =
      rw (weight_is a b)
      (chosen_small (slice_index weights 0) (slice_index weights 1) (slice_index weights 2) (2 ^ 24) (has_path bonds 0 a b) (has_path bonds 1 a b) (has_path bonds 2 a b) (has_path bonds 3 a b) h.0 h.1 h.2)
