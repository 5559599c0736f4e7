-- The pairs of a list, row by row.
use Rattle.std.proofs.Common.{◌≡◌, ◌+◌, ◌<◌, ◌≤◌, ℕ, zero, suc, ℤ, pos, ◌+ℤ◌, List, [], ◌∷◌, ◌++◌, All, length, length-append, map, flat_map, get_or, take, refl, sym, ap, subst, ◌∙◌, arith, min}
use Rattle.std.proofs.lemmas.Grind.{flat_map-append}
use Rattle.std.proofs.lemmas.List.{append-nil, length-map, map-append, take_all, take_more}
use Rattle.std.proofs.lemmas.List.Elements.{All-cons}
use Rattle.std.proofs.lemmas.List.Folds.{length-flat_map-take}
use Rattle.box_geo.specs.Sides.{x_of, y_of, z_of}
use Rattle.box_geo.specs.declared.atoms.Atom.{Atom}
use Rattle.box_geo.specs.declared.sim_box.Sides.{Sides}
use Rattle.ghost_shell.proofs.PlaceLemmas.{length-numbered, numbered_at}
use Rattle.neighbor_lists.specs.Pairs.{row_pairs}
use Rattle.pair_forces.specs.declared.row.Row.{Row}
use Rattle.pair_forces.specs.declared.totals.PairSums.{PairSums}
use Rattle.pair_forces.specs.Adds.{AreAdded, brought_at, pairs_with}
use Rattle.pair_forces.specs.Rows.{IsRowWithin}
use Rattle.pair_forces.specs.Sums.{AreSums, AreSumsWithin}
use Rattle.pair_forces.proofs.AddLemmas.{added_then, sums_then}
use Rattle.pair_forces.proofs.PushLemmas.{HasMore-none}
use Rattle.rank_grid.specs.Owned.{numbered}
use Rattle.serial_step.specs.Forces.{Field}
use Rattle.serial_step.specs.Pairs.{pair_at}

-- parts of joined lists
first_all : {X : Type 0} (P : X → Type 0) (xs ys : List X) → All P (xs ++ ys) → All P xs
first_all P [] ys all = λ k d lt. absurd (omega arith)
first_all P (x ∷ xs) ys all = All-cons P x xs (all 0 x (omega arith)) (first_all P xs ys (λ k d lt. all (suc k) d (omega arith)))

second_all : {X : Type 0} (P : X → Type 0) (xs ys : List X) → All P (xs ++ ys) → All P ys
second_all P [] ys all = all
second_all P (x ∷ xs) ys all = second_all P xs ys (λ k d lt. all (suc k) d (omega arith))

part_all : {X Y : Type 0} (P : Y → Type 0) (f : X → List Y) (xs : List X) (k : ℕ) (d : X) → k < length xs → All P (flat_map f xs) → All P (f (get_or xs k d))
part_all P f [] k d lt all = absurd (omega arith)
part_all P f (x ∷ xs) zero d lt all = first_all P (f x) (flat_map f xs) all
part_all P f (x ∷ xs) (suc k) d lt all = part_all P f xs k d (omega arith) (second_all P (f x) (flat_map f xs) all)

seconds_all : (n p : ℕ) (qs : List ℕ) → All (λ (e : ℕ × ℕ). e.1 < n) (pairs_with p qs) → All (λ q. q < n) qs
seconds_all n p [] all = λ k d lt. absurd (omega arith)
seconds_all n p (q ∷ qs) all = All-cons (λ q. q < n) q qs (all 0 (p, q) (omega arith)) (seconds_all n p qs (λ k d lt. all (suc k) d (omega arith)))

module _ (row : ℕ → List ℕ) (own : List ℕ) where
  abbrev pub done : ℕ → List (ℕ × ℕ)
  done k = flat_map (row_pairs row) (take k (numbered 0 own))

  entry : (k : ℕ) → k < length own → get_or (numbered 0 own) k (0, 0) ≡ (k, get_or own k 0)
  entry k lt = numbered_at 0 own k k (0, 0) 0 lt (omega arith)

  inside : (k : ℕ) → k < length own → k < length (numbered 0 own)
  inside k lt = omega (arith, length-numbered 0 own)

  pub done_more : (k p : ℕ) (qs : List ℕ) → k < length own → p ≡ get_or own k 0 → qs ≡ row k → done k ++ pairs_with p qs ≡ done (k + 1)
  done_more k p qs lt place is =
      let here : pairs_with p qs ≡ row_pairs row (k, get_or own k 0) = ap (λ (n : ℕ). pairs_with n qs) place ∙ ap (pairs_with (get_or own k 0)) is in
      ap (λ (l : List (ℕ × ℕ)). done k ++ l) (here ∙ sym (append-nil (row_pairs row (k, get_or own k 0))))
      ∙ sym (ap (flat_map (row_pairs row)) (take_more (numbered 0 own) k (0, 0) (inside k lt) ∙ ap (λ (e : ℕ × ℕ). take k (numbered 0 own) ++ e ∷ []) (entry k lt))
      ∙ flat_map-append (row_pairs row) (take k (numbered 0 own)) ((k, get_or own k 0) ∷ []))

  pub done_all : (k : ℕ) → length own ≤ k → done k ≡ flat_map (row_pairs row) (numbered 0 own)
  done_all k le = ap (flat_map (row_pairs row)) (take_all k (numbered 0 own) (omega (arith, length-numbered 0 own)))

  pub row_room : (k : ℕ) (qs : List ℕ) → k < length own → qs ≡ row k → length (done k) + length qs ≤ length (flat_map (row_pairs row) (numbered 0 own))
  row_room k qs lt is =
      omega (
        arith,
        length-flat_map-take (row_pairs row) (numbered 0 own) k (0, 0) (inside k lt),
        ap (λ (e : ℕ × ℕ). length (row_pairs row e)) (entry k lt),
        length-map {B = ℕ × ℕ} (row k) (λ (q : ℕ). (get_or own k 0, q)),
        ap (λ (l : List ℕ). length l) is,
      )

  pub row_within : (n k : ℕ) (qs : List ℕ) → k < length own → qs ≡ row k → All (λ (e : ℕ × ℕ). e.1 < n) (flat_map (row_pairs row) (numbered 0 own)) → All (λ q. q < n) qs
  row_within n k qs lt is all =
      let here : All (λ (e : ℕ × ℕ). e.1 < n) (row_pairs row (k, get_or own k 0)) =
      subst (λ (e : ℕ × ℕ). All (λ (e : ℕ × ℕ). e.1 < n) (row_pairs row e)) (entry k lt) (part_all (λ (e : ℕ × ℕ). e.1 < n) (row_pairs row) (numbered 0 own) k (0, 0) (inside k lt) all) in
      subst (λ (l : List ℕ). All (λ q. q < n) l) (sym is) (seconds_all n (get_or own k 0) (row k) here)

  -- one row more
  pub list_sums : (field : Field) (s : Sides) (atoms : List Atom) (d : Atom) (k p : ℕ) (qs : List ℕ) (e v f w z x : ℤ) (m n l : ℕ) → k < length own → p ≡ get_or own k 0 → qs ≡ row k
      → AreSums field s (map (pair_at atoms d) (done k)) e v m → AreSums field s (map (pair_at atoms d) (pairs_with p qs)) f w n → z ≡ e +ℤ f → x ≡ v +ℤ w → l ≡ min m n
      → AreSums field s (map (pair_at atoms d) (done (k + 1))) z x l
  list_sums field s atoms d k p qs e v f w z x m n l lt place is g h ze xe le =
      let joined : map (pair_at atoms d) (done k) ++ map (pair_at atoms d) (pairs_with p qs) ≡ map (pair_at atoms d) (done (k + 1)) =
      sym (map-append (pair_at atoms d) (done k) (pairs_with p qs)) ∙ ap (map (pair_at atoms d)) (done_more k p qs lt place is) in
      let both = subst (λ (l : List (Atom × Atom)). AreSums field s l (e +ℤ f) (v +ℤ w) (min m n)) joined (sums_then field s _ _ e f v w m n g h) in
      record { energy = ze ∙ both.energy; virial = xe ∙ both.virial; fault = le ∙ both.fault }

  pub list_added : (field : Field) (s : Sides) (atoms : List Atom) (k p : ℕ) (qs : List ℕ) (old now new : List (List ℤ)) → k < length own → p ≡ get_or own k 0 → qs ≡ row k
      → AreAdded field s atoms (done k) old now → AreAdded field s atoms (pairs_with p qs) now new → AreAdded field s atoms (done (k + 1)) old new
  list_added field s atoms k p qs old now new lt place is f g =
      subst (λ (l : List (ℕ × ℕ)). AreAdded field s atoms l old new) (done_more k p qs lt place is) (added_then field s atoms (done k) (pairs_with p qs) old now new f g)

  pub done_length : (k p : ℕ) (qs : List ℕ) → k < length own → p ≡ get_or own k 0 → qs ≡ row k → length (done (k + 1)) ≡ length (done k) + length qs
  done_length k p qs lt place is = sym (ap (λ (l : List (ℕ × ℕ)). length l) (done_more k p qs lt place is)) ∙ length-append (done k) (pairs_with p qs) ∙ ap (λ (n : ℕ). length (done k) + n) (length-map {B = ℕ × ℕ} qs (λ (q : ℕ). (p, q)))

-- no pairs
none_brought : (field : Field) (s : Sides) (atoms : List Atom) (d : Atom) (c : List ℤ → ℤ) (k : ℕ) → brought_at field s atoms d c [] k ≡ pos 0
unfolding brought_at
none_brought field s atoms d c k = refl

pub none_added : (field : Field) (s : Sides) (atoms : List Atom) (old : List (List ℤ)) → AreAdded field s atoms [] old old
none_added field s atoms old = record {
  long = refl;
  x = λ d. HasMore-none x_of old _ (none_brought field s atoms d x_of);
  y = λ d. HasMore-none y_of old _ (none_brought field s atoms d y_of);
  z = λ d. HasMore-none z_of old _ (none_brought field s atoms d z_of);
}

-- bounds
pub wider_row : (m n : ℕ) (row : Row) → m ≤ n → IsRowWithin m row → IsRowWithin n row
wider_row m n row le h = record { f = h.f; energy = omega (arith, h.energy); virial = omega (arith, h.virial) }

pub wider_sums : (m n : ℕ) (sums : PairSums) → m ≤ n → AreSumsWithin m sums → AreSumsWithin n sums
wider_sums m n sums le h = record { energy = omega (arith, h.energy); virial = omega (arith, h.virial) }
