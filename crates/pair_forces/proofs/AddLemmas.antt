-- What the pairs of a row bring to the forces and to the sums, and lists of pairs one after another.
use Rattle.std.proofs.Common.{◌≡◌, ◌<◌, ◌==◌, Bool, true, false, ℕ, ℤ, pos, ◌+ℤ◌, neg_ℤ, cond, List, [], ◌∷◌, ◌++◌, length, map, flat_map, get_or, set, w64, refl, sym, ap, subst, ◌∙◌, arith, min}
use Rattle.std.proofs.lemmas.Grind.{flat_map-append}
use Rattle.std.proofs.lemmas.Int.{int_wrap-add_right, int_wrap-add_same, ints}
use Rattle.std.proofs.lemmas.List.{length-set, map-append}
use Rattle.box_geo.specs.Sides.{x_of, y_of, z_of}
use Rattle.box_geo.specs.declared.atoms.Atom.{Atom}
use Rattle.box_geo.specs.declared.sim_box.Sides.{Sides}
use Rattle.pair_forces.specs.declared.row.Row.{Row}
use Rattle.pair_forces.specs.Adds.{AreAdded, AreTaken, HasMore, brought_at, in_word, pairs_with, plus, taken_at, term_at}
use Rattle.pair_forces.specs.Rows.{IsRowOf}
use Rattle.pair_forces.specs.Sums.{AreSums}
use Rattle.pair_forces.proofs.PushLemmas.{HasMore-same, HasMore-step, again}
use Rattle.serial_step.specs.Forces.{Field, close_word, energy_of, force_of, least, term_of, virial_of}
use Rattle.serial_step.specs.Pairs.{energy_between, pair_at, virial_between, word_between}
use Rattle.serial_step.proofs.LeastLemmas.{least-append}
use Rattle.sums.specs.Totals.{into, opposite_adds, total}
use Rattle.sums.proofs.Lists.{map-map}
use Rattle.sums.proofs.Totals.{total-append, total-map}

-- adds to one place
chosen_sum : (b : Bool) (t u : ℤ) → cond b (t +ℤ u) (pos 0) ≡ cond b t (pos 0) +ℤ cond b u (pos 0)
chosen_sum true t u = refl
chosen_sum false t u = omega (arith, ints)

chosen_none : (b : Bool) → cond b (pos 0) (pos 0) ≡ pos 0
chosen_none true = refl
chosen_none false = refl

module _ (field : Field) (s : Sides) (atoms : List Atom) (d : Atom) (c : List ℤ → ℤ) (p : ℕ) where
  abbrev pub force_by : ℕ → ℤ
  force_by q = c (force_of (term_at field s atoms d p q))

  pub brought_row : (k : ℕ) (qs : List ℕ) → taken_at field s atoms d (get_or atoms p d) c qs k +ℤ into k (p, total force_by qs) ≡ brought_at field s atoms d c (pairs_with p qs) k
  unfolding taken_at brought_at
  brought_row k [] = ap (λ (z : ℤ). pos 0 +ℤ z) (chosen_none (p == k)) ∙ (let e : pos 0 +ℤ pos 0 ≡ pos 0 = omega (arith, ints) in e)
  brought_row k (q ∷ qs) =
      let t : ℤ = into k (q, neg_ℤ (force_by q)) in
      let rest : ℤ = total (λ n. into k (n, neg_ℤ (force_by n))) qs in
      let here : into k (p, force_by q +ℤ total force_by qs) ≡ into k (p, force_by q) +ℤ into k (p, total force_by qs) = chosen_sum (p == k) (force_by q) (total force_by qs) in
      let below = brought_row k qs in
      let turn : (t +ℤ rest) +ℤ (into k (p, force_by q) +ℤ into k (p, total force_by qs)) ≡ into k (p, force_by q) +ℤ (t +ℤ (rest +ℤ into k (p, total force_by qs))) = turned t rest (into k (p, force_by q)) (into k (p, total force_by qs)) in
      ap (λ (z : ℤ). (t +ℤ rest) +ℤ z) here ∙ turn ∙ ap (λ (z : ℤ). into k (p, force_by q) +ℤ (t +ℤ z)) below
    where
      turned : (a b u v : ℤ) → (a +ℤ b) +ℤ (u +ℤ v) ≡ u +ℤ (a +ℤ (b +ℤ v))
      turned a b u v = omega (arith, ints)

  -- the row's own atom gets its force
  pub row_added : (qs : List ℕ) (old now : List (List ℤ)) (w f : List ℤ) (r : ℤ) → length now ≡ length old → p < length now
      → HasMore c old now (taken_at field s atoms d (get_or atoms p d) c qs)
      → in_word r ≡ in_word (total (λ other. c (force_of (term_of field s (get_or atoms p d) other))) (map (λ q. get_or atoms q d) qs))
      → c f ≡ in_word (c (get_or now p w) +ℤ r)
      → HasMore c old (set now p f) (brought_at field s atoms d c (pairs_with p qs))
  row_added qs old now w f r long lt h sum is =
      let mine : ℤ = total force_by qs in
      let same : in_word r ≡ in_word mine = sum ∙ ap in_word (total-map (λ other. c (force_of (term_of field s (get_or atoms p d) other))) (λ q. get_or atoms q d) qs) in
      let a : ℤ = c (get_or now p w) in
      let here : in_word (c f) ≡ in_word (a +ℤ mine) =
      ap in_word is ∙ again (a +ℤ r) ∙ sym (int_wrap-add_right w64 a r) ∙ ap (λ (z : ℤ). in_word (a +ℤ z)) same ∙ int_wrap-add_right w64 a mine in
      HasMore-same c old (set now p f) _ _ (λ k. brought_row k qs) (HasMore-step c old now p w f _ mine long lt h here)

-- all components
pub own_added : (field : Field) (s : Sides) (atoms : List Atom) (own : Atom) (p : ℕ) (qs : List ℕ) (old now : List (List ℤ)) (w f : List ℤ) (row : Row) → p < length atoms → length old ≡ length atoms → ((d : Atom) → own ≡ get_or atoms p d)
    → AreTaken field s atoms own qs old now → ((d : Atom) → IsRowOf field s own (map (λ q. get_or atoms q d) qs) row) → f ≡ plus (get_or now p w) row.f
    → AreAdded field s atoms (pairs_with p qs) old (set now p f)
own_added field s atoms own p qs old now w f row lt each stands h row_is is =
    let inside : p < length now = omega (arith, h.long, each) in
    record {
      long = length-set now p f ∙ h.long;
      x = λ d. row_added field s atoms d x_of p qs old now w f (x_of row.f) h.long inside
          (subst (λ (a : Atom). HasMore x_of old now (taken_at field s atoms d a x_of qs)) (stands d) (h.x d))
          (subst (λ (a : Atom). IsRowOf field s a (map (λ q. get_or atoms q d) qs) row) (stands d) (row_is d)).x (ap x_of is);
      y = λ d. row_added field s atoms d y_of p qs old now w f (y_of row.f) h.long inside
          (subst (λ (a : Atom). HasMore y_of old now (taken_at field s atoms d a y_of qs)) (stands d) (h.y d))
          (subst (λ (a : Atom). IsRowOf field s a (map (λ q. get_or atoms q d) qs) row) (stands d) (row_is d)).y (ap y_of is);
      z = λ d. row_added field s atoms d z_of p qs old now w f (z_of row.f) h.long inside
          (subst (λ (a : Atom). HasMore z_of old now (taken_at field s atoms d a z_of qs)) (stands d) (h.z d))
          (subst (λ (a : Atom). IsRowOf field s a (map (λ q. get_or atoms q d) qs) row) (stands d) (row_is d)).z (ap z_of is);
    }

-- the sums of a row are those of its pairs
pub row_sums : (field : Field) (s : Sides) (atoms : List Atom) (own d : Atom) (p : ℕ) (qs : List ℕ) (row : Row) → own ≡ get_or atoms p d
    → IsRowOf field s own (map (λ q. get_or atoms q d) qs) row → AreSums field s (map (pair_at atoms d) (pairs_with p qs)) row.energy row.virial row.fault
row_sums field s atoms own d p qs row stands h =
    let at : ℕ → Atom = λ q. get_or atoms q d in
    let g = subst (λ (a : Atom). IsRowOf field s a (map at qs) row) stands h in
    let pairs : map (pair_at atoms d) (pairs_with p qs) ≡ map (λ q. (at p, at q)) qs = map-map (pair_at atoms d) (λ q. (p, q)) qs in
    subst (λ (l : List (Atom × Atom)). AreSums field s l row.energy row.virial row.fault) (sym pairs)
    record {
      energy = g.energy ∙ total-map (λ other. energy_of (term_of field s (at p) other)) at qs ∙ sym (total-map (energy_between field s) (λ q. (at p, at q)) qs);
      virial = g.virial ∙ total-map (λ other. virial_of (term_of field s (at p) other)) at qs ∙ sym (total-map (virial_between field s) (λ q. (at p, at q)) qs);
      fault = g.fault ∙ ap least (map-map (λ other. close_word (at p).id other.id (term_of field s (at p) other)) at qs ∙ sym (map-map (word_between field s) (λ q. (at p, at q)) qs));
    }

-- lists of pairs one after another
brought-append : (field : Field) (s : Sides) (atoms : List Atom) (d : Atom) (c : List ℤ → ℤ) (ps qs : List (ℕ × ℕ)) (k : ℕ)
    → brought_at field s atoms d c ps k +ℤ brought_at field s atoms d c qs k ≡ brought_at field s atoms d c (ps ++ qs) k
unfolding brought_at
brought-append field s atoms d c ps qs k =
    let adds : ℕ × ℕ → List (ℕ × ℤ) = opposite_adds (λ p. p) (λ p q. c (force_of (term_at field s atoms d p q))) in
    sym (ap (total (into k)) (flat_map-append adds ps qs) ∙ total-append (into k) (flat_map adds ps) (flat_map adds qs))

HasMore-then : (c : List ℤ → ℤ) (old now new : List (List ℤ)) (a b : ℕ → ℤ) → length now ≡ length old → HasMore c old now a → HasMore c now new b → HasMore c old new (λ k. a k +ℤ b k)
HasMore-then c old now new a b long f g = λ k v lt.
    let z : ℤ = c (get_or old k v) in
    let e : (z +ℤ a k) +ℤ b k ≡ z +ℤ (a k +ℤ b k) = omega (arith, ints) in
    g k v (omega (arith, long)) ∙ int_wrap-add_same w64 (c (get_or now k v)) (z +ℤ a k) (b k) (f k v lt) ∙ ap in_word e

pub added_then : (field : Field) (s : Sides) (atoms : List Atom) (ps qs : List (ℕ × ℕ)) (old now new : List (List ℤ)) → AreAdded field s atoms ps old now → AreAdded field s atoms qs now new → AreAdded field s atoms (ps ++ qs) old new
added_then field s atoms ps qs old now new f g = record {
  long = g.long ∙ f.long;
  x = λ d. HasMore-same x_of old new _ _ (brought-append field s atoms d x_of ps qs) (HasMore-then x_of old now new _ _ f.long (f.x d) (g.x d));
  y = λ d. HasMore-same y_of old new _ _ (brought-append field s atoms d y_of ps qs) (HasMore-then y_of old now new _ _ f.long (f.y d) (g.y d));
  z = λ d. HasMore-same z_of old new _ _ (brought-append field s atoms d z_of ps qs) (HasMore-then z_of old now new _ _ f.long (f.z d) (g.z d));
}

pub sums_then : (field : Field) (s : Sides) (ps qs : List (Atom × Atom)) (e f v w : ℤ) (m n : ℕ) → AreSums field s ps e v m → AreSums field s qs f w n → AreSums field s (ps ++ qs) (e +ℤ f) (v +ℤ w) (min m n)
sums_then field s ps qs e f v w m n g h = record {
  energy = omega (arith, ints, g.energy, h.energy, total-append (energy_between field s) ps qs);
  virial = omega (arith, ints, g.virial, h.virial, total-append (virial_between field s) ps qs);
  fault = omega (arith, g.fault, h.fault, least-append (map (word_between field s) ps) (map (word_between field s) qs), ap least (map-append (word_between field s) ps qs));
}
