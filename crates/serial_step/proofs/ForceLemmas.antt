-- Laws of the forces and of the sums over pairs: a term is odd, an atom has none with itself, and no sum depends on the order of a list of pairs.
use Rattle.std.proofs.Common.{◌≡◌, ◌⊎◌, inl, inr, ◌*◌, ◌<◌, ◌≤◌, ◌==◌, Bool, true, false, ⊎_elim, cond, nat_lt, nat_le, ℕ, zero, suc, ℤ, pos, ◌+ℤ◌, neg_ℤ, Option, Some, None, Result, Ok, Err, IfSome, List, [], ◌∷◌, length, get_or, map, flat_map, filter, IsPermutation, refl, sym, ap, subst, ◌∙◌, arith, eq-eqb}
use Rattle.std.proofs.lemmas.Int.{ints}
use Rattle.std.proofs.lemmas.Nat.{mul-le}
use Rattle.std.proofs.lemmas.List.Sorted.{IsPermutation-refl}
use Rattle.std.proofs.lemmas.Bool.Decides.{nat_tests}
use Rattle.box_geo.specs.declared.atoms.Atom.{Atom}
use Rattle.box_geo.specs.declared.sim_box.Sides.{Sides}
use Rattle.box_geo.specs.declared.term.Term.{Term}
use Rattle.box_geo.specs.Sides.{x_of, y_of, z_of, near_image, length2, HasEdges, IsOpposite}
use Rattle.box_geo.proofs.NearLemmas.{near_image-opposite}
use Rattle.pair_lj.specs.declared.close.Close.{Close}
use Rattle.pair_lj.specs.declared.pair_settings.PairCoefficients.{PairCoefficients}
use Rattle.pair_lj.specs.PairTerm.{pair_term, AreOpposite}
use Rattle.pair_lj.specs.Pairs.{PairNumbers, numbers_at}
use Rattle.pair_lj.proofs.PairLemmas.{pair_term-opposite}
use Rattle.pair_lj.proofs.SetLemmas.{numbers_at-comm}
use Rattle.sums.specs.Totals.{total, half, into, opposite_adds}
use Rattle.sums.proofs.Totals.{total-same, total-filter, total-flat_map, total-map, total-IsPermutation}
use Rattle.sums.proofs.Pairs.{words_from_list, total-at_key}
use Rattle.serial_step.specs.Forces.{Field, field_of, term_with, term_apart, term_of, force_of, energy_of, virial_of, force_on, pair_energy, pair_virial, terms_fault, close_word, least}
use Rattle.serial_step.specs.Pairs.{IsFair, AreApart, LeavesNoTerm, AreNearPairs, brought, OnlyTurns, lesser_id_first, energy_between, virial_between, word_between, IsReach, is_within}
use Rattle.serial_step.proofs.LeastLemmas.{least-chosen, least-flat_map}

-- a term is odd
equal-comm : (m n : ℕ) → (m == n) ≡ (n == m)
equal-comm m n = grind (arith, nat_tests)

term_with-opposite : (w : ℕ) (k : Option PairNumbers) (d e : List ℤ) → IsOpposite d e → AreOpposite (term_with w k d) (term_with w k e)
term_with-opposite zero k d e h = tt
term_with-opposite (suc w) None d e h = tt
term_with-opposite (suc w) (Some k) d e h = pair_term-opposite k.epsilon k.sigma k.cutoff (suc w) (pos 0) d e h

term_apart-opposite : (same : Bool) (w : ℕ) (k : Option PairNumbers) (d e : List ℤ) → IsOpposite d e → AreOpposite (term_apart same w k d) (term_apart same w k e)
term_apart-opposite true w k d e h = tt
term_apart-opposite false w k d e h = term_with-opposite w k d e h

term_apart-same : (b c : Bool) (v w : ℕ) (k l : Option PairNumbers) (d : List ℤ) → b ≡ c → v ≡ w → k ≡ l → term_apart b v k d ≡ term_apart c w l d
term_apart-same b c v w k l d e f g = cc

pub term_of-opposite : (field : Field) (s : Sides) (i j : Atom) → IsFair field → HasEdges s → AreOpposite (term_of field s i j) (term_of field s j i)
unfolding term_of
term_of-opposite field s i j fair edges =
    let exchanged : term_of field s j i ≡ term_apart (i.id == j.id) (field.weight i.id j.id) (numbers_at field.pairs i.kind j.kind) (near_image s j.x i.x) =
    term_apart-same (j.id == i.id) (i.id == j.id) (field.weight j.id i.id) (field.weight i.id j.id) (numbers_at field.pairs j.kind i.kind) (numbers_at field.pairs i.kind j.kind) (near_image s j.x i.x)
    (equal-comm j.id i.id) (fair.weight j.id i.id) (numbers_at-comm field.pairs j.kind i.kind) in
    let on : Result (Option Term) Close → Type 0 = λ r. AreOpposite (term_of field s i j) r in
    subst on (sym exchanged)
    (term_apart-opposite (i.id == j.id) (field.weight i.id j.id) (numbers_at field.pairs i.kind j.kind) (near_image s i.x j.x) (near_image s j.x i.x) (near_image-opposite s i.x j.x edges))

pub force_of-opposite : (r q : Result (Option Term) Close) → AreOpposite r q → IsOpposite (force_of r) (force_of q)
force_of-opposite (Ok None) (Ok None) h = (refl, refl, refl)
force_of-opposite (Ok (Some t)) (Ok (Some u)) h = h.0
force_of-opposite (Err c) (Err e) h = (refl, refl, refl)
force_of-opposite (Ok None) (Ok (Some u)) h = absurd h
force_of-opposite (Ok (Some t)) (Ok None) h = absurd h
force_of-opposite (Ok None) (Err e) h = absurd h
force_of-opposite (Ok (Some t)) (Err e) h = absurd h
force_of-opposite (Err c) (Ok None) h = absurd h
force_of-opposite (Err c) (Ok (Some u)) h = absurd h

pub energy_of-opposite : (r q : Result (Option Term) Close) → AreOpposite r q → energy_of q ≡ energy_of r
energy_of-opposite (Ok None) (Ok None) h = refl
energy_of-opposite (Ok (Some t)) (Ok (Some u)) h = h.1
energy_of-opposite (Err c) (Err e) h = refl
energy_of-opposite (Ok None) (Ok (Some u)) h = absurd h
energy_of-opposite (Ok (Some t)) (Ok None) h = absurd h
energy_of-opposite (Ok None) (Err e) h = absurd h
energy_of-opposite (Ok (Some t)) (Err e) h = absurd h
energy_of-opposite (Err c) (Ok None) h = absurd h
energy_of-opposite (Err c) (Ok (Some u)) h = absurd h

pub virial_of-opposite : (r q : Result (Option Term) Close) → AreOpposite r q → virial_of q ≡ virial_of r
virial_of-opposite (Ok None) (Ok None) h = refl
virial_of-opposite (Ok (Some t)) (Ok (Some u)) h = h.2
virial_of-opposite (Err c) (Err e) h = refl
virial_of-opposite (Ok None) (Ok (Some u)) h = absurd h
virial_of-opposite (Ok (Some t)) (Ok None) h = absurd h
virial_of-opposite (Ok None) (Err e) h = absurd h
virial_of-opposite (Ok (Some t)) (Err e) h = absurd h
virial_of-opposite (Err c) (Ok None) h = absurd h
virial_of-opposite (Err c) (Ok (Some u)) h = absurd h

-- a field without bonds is fair
pub field_of-fair : (pairs : List PairCoefficients) → IsFair (field_of pairs)
field_of-fair pairs = record { weight = λ a b. refl }

-- an atom has no term with itself
pub term_of-alone : (field : Field) (s : Sides) (i j : Atom) → i.id ≡ j.id → term_of field s i j ≡ Ok None
unfolding term_of
term_of-alone field s i j same = let t : (i.id == j.id) ≡ true = eq-eqb i.id j.id same in rw t refl

-- forces from pairs, for a component of vectors that turns with them and is 0 of none
module _ (component : List ℤ → ℤ) (turns : (d e : List ℤ) → IsOpposite d e → component e ≡ neg_ℤ (component d)) (of_none : component (force_of (Ok None)) ≡ pos 0) where
  abbrev pull : Field → Sides → Atom → Atom → ℤ
  pull field s i j = component (force_of (term_of field s i j))

  pull-none : (field : Field) (s : Sides) (i j : Atom) → term_of field s i j ≡ Ok None → pull field s i j ≡ pos 0
  pull-none field s i j none = ap (λ (r : Result (Option Term) Close). component (force_of r)) none ∙ of_none

  pull-opposite : (field : Field) (s : Sides) → IsFair field → HasEdges s → (i j : Atom) → pull field s j i ≡ neg_ℤ (pull field s i j)
  pull-opposite field s fair edges i j =
      turns (force_of (term_of field s i j)) (force_of (term_of field s j i))
      (force_of-opposite (term_of field s i j) (term_of field s j i) (term_of-opposite field s i j fair edges))

  pull_from_pairs : (field : Field) (s : Sides) (word : Atom → ℕ) (atoms : List Atom) (near : Atom × Atom → Bool) (pairs : List (Atom × Atom)) (i : ℕ) (d : Atom)
      → IsFair field → HasEdges s → AreApart word atoms → LeavesNoTerm field s near → AreNearPairs near atoms pairs → i < length atoms
      → brought field s component word pairs (word (get_or atoms i d)) ≡ total (pull field s (get_or atoms i d)) atoms
  pull_from_pairs field s word atoms near pairs i d fair edges apart far same lt =
      words_from_list word (pull field s) (λ a. pull-none field s a a (term_of-alone field s a a refl)) (pull-opposite field s fair edges)
      (word (get_or atoms i d)) near (λ p off. pull-none field s p.0 p.1 (far p off)) atoms pairs same
      ∙ total-at_key word (λ a. total (pull field s a) atoms) atoms i d apart lt

three : (x y z u v w : ℤ) → x ≡ u → y ≡ v → z ≡ w → x ∷ y ∷ z ∷ [] ≡ u ∷ v ∷ w ∷ []
three x y z u v w f g h = cc

pub x_from_pairs : (field : Field) (s : Sides) (word : Atom → ℕ) (atoms : List Atom) (near : Atom × Atom → Bool) (pairs : List (Atom × Atom)) (i : ℕ) (d : Atom)
    → IsFair field → HasEdges s → AreApart word atoms → LeavesNoTerm field s near → AreNearPairs near atoms pairs → i < length atoms
    → brought field s x_of word pairs (word (get_or atoms i d)) ≡ x_of (force_on field s atoms (get_or atoms i d))
unfolding force_on
x_from_pairs = pull_from_pairs x_of (λ d e h. h.0) refl

pub y_from_pairs : (field : Field) (s : Sides) (word : Atom → ℕ) (atoms : List Atom) (near : Atom × Atom → Bool) (pairs : List (Atom × Atom)) (i : ℕ) (d : Atom)
    → IsFair field → HasEdges s → AreApart word atoms → LeavesNoTerm field s near → AreNearPairs near atoms pairs → i < length atoms
    → brought field s y_of word pairs (word (get_or atoms i d)) ≡ y_of (force_on field s atoms (get_or atoms i d))
unfolding force_on
y_from_pairs = pull_from_pairs y_of (λ d e h. h.1) refl

pub z_from_pairs : (field : Field) (s : Sides) (word : Atom → ℕ) (atoms : List Atom) (near : Atom × Atom → Bool) (pairs : List (Atom × Atom)) (i : ℕ) (d : Atom)
    → IsFair field → HasEdges s → AreApart word atoms → LeavesNoTerm field s near → AreNearPairs near atoms pairs → i < length atoms
    → brought field s z_of word pairs (word (get_or atoms i d)) ≡ z_of (force_on field s atoms (get_or atoms i d))
unfolding force_on
z_from_pairs = pull_from_pairs z_of (λ d e h. h.2) refl

pub force_from_pairs : (field : Field) (s : Sides) (word : Atom → ℕ) (atoms : List Atom) (near : Atom × Atom → Bool) (pairs : List (Atom × Atom)) (i : ℕ) (d : Atom)
    → IsFair field → HasEdges s → AreApart word atoms → LeavesNoTerm field s near → AreNearPairs near atoms pairs → i < length atoms
    → let k = word (get_or atoms i d) in brought field s x_of word pairs k ∷ brought field s y_of word pairs k ∷ brought field s z_of word pairs k ∷ [] ≡ force_on field s atoms (get_or atoms i d)
unfolding force_on
force_from_pairs field s word atoms near pairs i d fair edges apart far same lt =
    let x = pull_from_pairs x_of (λ d e h. h.0) refl field s word atoms near pairs i d fair edges apart far same lt in
    let y = pull_from_pairs y_of (λ d e h. h.1) refl field s word atoms near pairs i d fair edges apart far same lt in
    let z = pull_from_pairs z_of (λ d e h. h.2) refl field s word atoms near pairs i d fair edges apart far same lt in
    three _ _ _ _ _ _ x y z

-- what all pairs of a list bring, by owners
pub brought-flat_map : {X : Type 0} (field : Field) (s : Sides) (component : List ℤ → ℤ) (word : Atom → ℕ) (of : X → List (Atom × Atom)) (owners : List X) (k : ℕ)
    → brought field s component word (flat_map of owners) k ≡ total (λ owner. brought field s component word (of owner) k) owners
brought-flat_map field s component word of owners k =
    let adds : Atom × Atom → List (ℕ × ℤ) = opposite_adds word (λ a b. component (force_of (term_of field s a b))) in
    let bring : Atom × Atom → ℤ = λ p. total (into k) (adds p) in
    total-flat_map (into k) adds (flat_map of owners)
    ∙ total-flat_map bring of owners
    ∙ total-same (λ owner. total bring (of owner)) (λ owner. total (into k) (flat_map adds (of owner))) (λ owner. sym (total-flat_map (into k) adds (of owner))) owners

-- a sum over pairs may leave out those that count as 0, in any order
chosen_zero : (b : Bool) (z : ℤ) → (b ≡ false → z ≡ pos 0) → cond b z (pos 0) ≡ z
chosen_zero true z none = refl
chosen_zero false z none = sym (none refl)

pub total-chosen : {X : Type 0} (f : X → ℤ) (near : X → Bool) → ((x : X) → near x ≡ false → f x ≡ pos 0) → (xs ys : List X) → IsPermutation (filter near xs) ys → total f xs ≡ total f ys
total-chosen f near none xs ys same =
    sym (total-same (λ x. cond (near x) (f x) (pos 0)) f (λ x. chosen_zero (near x) (f x) (none x)) xs)
    ∙ sym (total-filter f near xs)
    ∙ sym (total-IsPermutation f (filter near xs) ys same)

-- the sums over pairs
pub pair_energy_from_pairs : (field : Field) (s : Sides) (atoms : List Atom) (near : Atom × Atom → Bool) (pairs : List (Atom × Atom))
    → LeavesNoTerm field s near → AreNearPairs near atoms pairs → pair_energy field s atoms ≡ total (energy_between field s) pairs
unfolding pair_energy
pair_energy_from_pairs field s atoms near pairs far same =
    total-chosen (energy_between field s) near (λ p off. ap energy_of (far p off)) (half atoms) pairs same

pub pair_virial_from_pairs : (field : Field) (s : Sides) (atoms : List Atom) (near : Atom × Atom → Bool) (pairs : List (Atom × Atom))
    → LeavesNoTerm field s near → AreNearPairs near atoms pairs → pair_virial field s atoms ≡ total (virial_between field s) pairs
unfolding pair_virial
pair_virial_from_pairs field s atoms near pairs far same =
    total-chosen (virial_between field s) near (λ p off. ap virial_of (far p off)) (half atoms) pairs same

pub pair_energy_by_owners : {X : Type 0} (field : Field) (s : Sides) (atoms : List Atom) (near : Atom × Atom → Bool) (of : X → List (Atom × Atom)) (owners : List X)
    → LeavesNoTerm field s near → AreNearPairs near atoms (flat_map of owners) → pair_energy field s atoms ≡ total (λ owner. total (energy_between field s) (of owner)) owners
pair_energy_by_owners field s atoms near of owners far same =
    pair_energy_from_pairs field s atoms near (flat_map of owners) far same ∙ total-flat_map (energy_between field s) of owners

pub pair_virial_by_owners : {X : Type 0} (field : Field) (s : Sides) (atoms : List Atom) (near : Atom × Atom → Bool) (of : X → List (Atom × Atom)) (owners : List X)
    → LeavesNoTerm field s near → AreNearPairs near atoms (flat_map of owners) → pair_virial field s atoms ≡ total (λ owner. total (virial_between field s) (of owner)) owners
pair_virial_by_owners field s atoms near of owners far same =
    pair_virial_from_pairs field s atoms near (flat_map of owners) far same ∙ total-flat_map (virial_between field s) of owners

-- the fault of the terms
pub terms_fault_from_pairs : (field : Field) (s : Sides) (atoms : List Atom) (near : Atom × Atom → Bool) (pairs : List (Atom × Atom))
    → LeavesNoTerm field s near → AreNearPairs near atoms pairs → terms_fault field s atoms ≡ least (map (word_between field s) pairs)
unfolding terms_fault
terms_fault_from_pairs field s atoms near pairs far same =
    least-chosen (word_between field s) near (λ p off. ap (close_word p.0.id p.1.id) (far p off)) (half atoms) pairs same

pub terms_fault_by_owners : {X : Type 0} (field : Field) (s : Sides) (atoms : List Atom) (near : Atom × Atom → Bool) (of : X → List (Atom × Atom)) (owners : List X)
    → LeavesNoTerm field s near → AreNearPairs near atoms (flat_map of owners) → terms_fault field s atoms ≡ least (map (λ owner. least (map (word_between field s) (of owner))) owners)
terms_fault_by_owners field s atoms near of owners far same =
    terms_fault_from_pairs field s atoms near (flat_map of owners) far same ∙ least-flat_map (word_between field s) of owners

-- a pair at or beyond its cutoff has no term
far_test : (m n : ℕ) → m ≤ n → nat_le m n ≡ true
far_test m n h = grind (arith, nat_tests)

pair_term-far : (eps sigma cut weight : ℕ) (base : ℤ) (d : List ℤ) → cut * cut ≤ length2 d → pair_term eps sigma cut base weight d ≡ Ok None
unfolding pair_term
pair_term-far eps sigma cut weight base d far = let t : nat_le (cut * cut) (length2 d) ≡ true = far_test (cut * cut) (length2 d) far in rw t refl

term_with-far : (w : ℕ) (k : Option PairNumbers) (d : List ℤ) → IfSome k (λ n. n.cutoff * n.cutoff ≤ length2 d) → term_with w k d ≡ Ok None
term_with-far zero k d far = refl
term_with-far (suc w) None d far = refl
term_with-far (suc w) (Some k) d far = pair_term-far k.epsilon k.sigma k.cutoff (suc w) (pos 0) d far

term_apart-far : (same : Bool) (w : ℕ) (k : Option PairNumbers) (d : List ℤ) → IfSome k (λ n. n.cutoff * n.cutoff ≤ length2 d) → term_apart same w k d ≡ Ok None
term_apart-far true w k d far = refl
term_apart-far false w k d far = term_with-far w k d far

pub term_of-far : (field : Field) (s : Sides) (i j : Atom) → IfSome (numbers_at field.pairs i.kind j.kind) (λ n. n.cutoff * n.cutoff ≤ length2 (near_image s i.x j.x)) → term_of field s i j ≡ Ok None
unfolding term_of
term_of-far field s i j far = term_apart-far (i.id == j.id) (field.weight i.id j.id) (numbers_at field.pairs i.kind j.kind) (near_image s i.x j.x) far

beyond : (k : Option PairNumbers) (reach r2 : ℕ) → IfSome k (λ n. n.cutoff ≤ reach) → reach * reach ≤ r2 → IfSome k (λ n. n.cutoff * n.cutoff ≤ r2)
beyond None reach r2 low far = tt
beyond (Some n) reach r2 low far = let h : n.cutoff * n.cutoff ≤ reach * reach = mul-le n.cutoff n.cutoff reach reach low low in omega arith

no_nearer : (m n : ℕ) → nat_lt m n ≡ false → n ≤ m
no_nearer m n h = grind (arith, nat_tests)

pub is_within-far : (field : Field) (s : Sides) (reach : ℕ) → IsReach field reach → LeavesNoTerm field s (is_within s reach)
is_within-far field s reach low p off =
    term_of-far field s p.0 p.1
    (beyond (numbers_at field.pairs p.0.kind p.1.kind) reach (length2 (near_image s p.0.x p.1.x)) (low p.0.kind p.1.kind) (no_nearer (length2 (near_image s p.0.x p.1.x)) (reach * reach) off))

-- turning a pair round changes nothing of what it brings
two_turned : (b c : Bool) (z : ℤ) → cond b (neg_ℤ z) (pos 0) +ℤ (cond c (neg_ℤ (neg_ℤ z)) (pos 0) +ℤ pos 0) ≡ cond c z (pos 0) +ℤ (cond b (neg_ℤ z) (pos 0) +ℤ pos 0)
two_turned true true z = omega (arith, ints)
two_turned true false z = omega (arith, ints)
two_turned false true z = omega (arith, ints)
two_turned false false z = refl

adds-turned : (word : Atom → ℕ) (term : Atom → Atom → ℤ) (k : ℕ) (a b : Atom) → term b a ≡ neg_ℤ (term a b) → total (into k) (opposite_adds word term (b, a)) ≡ total (into k) (opposite_adds word term (a, b))
adds-turned word term k a b opposite = rw opposite (two_turned (word b == k) (word a == k) (term a b))

close_word-opposite : (a b : ℕ) (r q : Result (Option Term) Close) → AreOpposite r q → close_word b a q ≡ close_word a b r
close_word-opposite a b (Ok None) (Ok None) h = refl
close_word-opposite a b (Ok (Some t)) (Ok (Some u)) h = refl
close_word-opposite a b (Err c) (Err e) h = omega arith
close_word-opposite a b (Ok None) (Ok (Some u)) h = absurd h
close_word-opposite a b (Ok (Some t)) (Ok None) h = absurd h
close_word-opposite a b (Ok None) (Err e) h = absurd h
close_word-opposite a b (Ok (Some t)) (Err e) h = absurd h
close_word-opposite a b (Err c) (Ok None) h = absurd h
close_word-opposite a b (Err c) (Ok (Some u)) h = absurd h

-- a function of pairs that is the same of a pair turned round is the same after any turns
after_turns : {Y : Type 0} (f : Atom × Atom → Y) → ((p : Atom × Atom) → f (p.1, p.0) ≡ f p) → (turn : Atom × Atom → Atom × Atom) → OnlyTurns turn → (p : Atom × Atom) → f (turn p) ≡ f p
after_turns f even turn only p = ⊎_elim (λ is. ap f is) (λ is. ap f is ∙ even p) (only p)

map_map_same : {X Y : Type 0} (f : X → Y) (g : X → X) → ((x : X) → f (g x) ≡ f x) → (xs : List X) → map f (map g xs) ≡ map f xs
map_map_same f g same [] = refl
map_map_same f g same (x ∷ xs) = let h = same x in let t = map_map_same f g same xs in cc

pub energy_between-turned : (field : Field) (s : Sides) → IsFair field → HasEdges s → (p : Atom × Atom) → energy_between field s (p.1, p.0) ≡ energy_between field s p
energy_between-turned field s fair edges p = energy_of-opposite (term_of field s p.0 p.1) (term_of field s p.1 p.0) (term_of-opposite field s p.0 p.1 fair edges)

pub virial_between-turned : (field : Field) (s : Sides) → IsFair field → HasEdges s → (p : Atom × Atom) → virial_between field s (p.1, p.0) ≡ virial_between field s p
virial_between-turned field s fair edges p = virial_of-opposite (term_of field s p.0 p.1) (term_of field s p.1 p.0) (term_of-opposite field s p.0 p.1 fair edges)

pub word_between-turned : (field : Field) (s : Sides) → IsFair field → HasEdges s → (p : Atom × Atom) → word_between field s (p.1, p.0) ≡ word_between field s p
word_between-turned field s fair edges p = close_word-opposite p.0.id p.1.id (term_of field s p.0 p.1) (term_of field s p.1 p.0) (term_of-opposite field s p.0 p.1 fair edges)

-- so a list may hold its pairs either way round
module _ (field : Field) (s : Sides) (fair : IsFair field) (edges : HasEdges s) (turn : Atom × Atom → Atom × Atom) (only : OnlyTurns turn) where
  pub energy-turned : (pairs : List (Atom × Atom)) → total (energy_between field s) (map turn pairs) ≡ total (energy_between field s) pairs
  energy-turned pairs =
      total-map (energy_between field s) turn pairs
      ∙ total-same (λ p. energy_between field s (turn p)) (energy_between field s) (after_turns (energy_between field s) (energy_between-turned field s fair edges) turn only) pairs

  pub virial-turned : (pairs : List (Atom × Atom)) → total (virial_between field s) (map turn pairs) ≡ total (virial_between field s) pairs
  virial-turned pairs =
      total-map (virial_between field s) turn pairs
      ∙ total-same (λ p. virial_between field s (turn p)) (virial_between field s) (after_turns (virial_between field s) (virial_between-turned field s fair edges) turn only) pairs

  pub words-turned : (pairs : List (Atom × Atom)) → map (word_between field s) (map turn pairs) ≡ map (word_between field s) pairs
  words-turned pairs = map_map_same (word_between field s) turn (after_turns (word_between field s) (word_between-turned field s fair edges) turn only) pairs

  brought-turned : (component : List ℤ → ℤ) → ((d e : List ℤ) → IsOpposite d e → component e ≡ neg_ℤ (component d)) → (word : Atom → ℕ) (pairs : List (Atom × Atom)) (k : ℕ)
      → brought field s component word (map turn pairs) k ≡ brought field s component word pairs k
  brought-turned component turns word pairs k =
      let term : Atom → Atom → ℤ = λ a b. component (force_of (term_of field s a b)) in
      let adds : Atom × Atom → List (ℕ × ℤ) = opposite_adds word term in
      let bring : Atom × Atom → ℤ = λ p. total (into k) (adds p) in
      let even : (p : Atom × Atom) → bring (p.1, p.0) ≡ bring p = λ p. adds-turned word term k p.0 p.1
      (turns (force_of (term_of field s p.0 p.1)) (force_of (term_of field s p.1 p.0)) (force_of-opposite (term_of field s p.0 p.1) (term_of field s p.1 p.0) (term_of-opposite field s p.0 p.1 fair edges))) in
      total-flat_map (into k) adds (map turn pairs)
      ∙ total-map bring turn pairs
      ∙ total-same (λ p. bring (turn p)) bring (after_turns bring even turn only) pairs
      ∙ sym (total-flat_map (into k) adds pairs)

  pub x_brought-turned : (word : Atom → ℕ) (pairs : List (Atom × Atom)) (k : ℕ) → brought field s x_of word (map turn pairs) k ≡ brought field s x_of word pairs k
  x_brought-turned = brought-turned x_of (λ d e h. h.0)

  pub y_brought-turned : (word : Atom → ℕ) (pairs : List (Atom × Atom)) (k : ℕ) → brought field s y_of word (map turn pairs) k ≡ brought field s y_of word pairs k
  y_brought-turned = brought-turned y_of (λ d e h. h.1)

  pub z_brought-turned : (word : Atom → ℕ) (pairs : List (Atom × Atom)) (k : ℕ) → brought field s z_of word (map turn pairs) k ≡ brought field s z_of word pairs k
  z_brought-turned = brought-turned z_of (λ d e h. h.2)

turned_or_not : (b : Bool) (p q : Atom × Atom) → (cond b q p ≡ p) ⊎ (cond b q p ≡ q)
turned_or_not true p q = inr refl
turned_or_not false p q = inl refl

pub lesser_id_first-turns : OnlyTurns lesser_id_first
lesser_id_first-turns p = turned_or_not (nat_lt p.1.id p.0.id) p (p.1, p.0)

-- all pairs are a list of near pairs
filter_all : {X : Type 0} (xs : List X) → filter (λ x. true) xs ≡ xs
filter_all [] = refl
filter_all (x ∷ xs) = ap (λ rest. x ∷ rest) (filter_all xs)

pub all_pairs : (atoms : List Atom) → AreNearPairs (λ p. true) atoms (half atoms)
all_pairs atoms = let P : List (Atom × Atom) → Type 0 = λ ps. IsPermutation ps (half atoms) in subst P (sym (filter_all (half atoms))) (IsPermutation-refl (half atoms))
