-- Places of rising ids that are marked.
use Rattle.std.proofs.Common.{◌≡◌, ◌<◌, ◌≤◌, ◌+◌, ◌∙◌, ◌||◌, ◌++◌, append_assoc, ℕ, suc, Bool, true, false, cond, Result, Ok, Err, List, [], ◌∷◌, filter, length, drop, get_or, refl, ap, sym, add-one, drop-cons, arith}
use Rattle.std.proofs.lemmas.List.{drop_all}
use Rattle.std.proofs.lemmas.List.Sorted.{searched}
use Rattle.std.proofs.Math.Bool.{or-false}
use Rattle.std.specs.List.{list_any}
use Rattle.std.specs.List.Sorted.{IsBinarySearchResult}
use Rattle.std.specs.Ordering.{nat_cmp}
use Rattle.box_geo.specs.Ids.{Rises}
use Rattle.run_settings.specs.Members.{marked}

-- where a binary search does not find an id, those below it stand before the place that it answers, and those above it behind
not_falling : (ids : List ℕ) → Rises ids → (i j : ℕ) → i ≤ j → j < length ids → get_or ids i 0 ≤ get_or ids j 0
not_falling ids rises i j le lt = grind (arith, rises i j)

pub record Parts (ids : List ℕ) (id place : ℕ) : Type 0 where
  pub below : (k : ℕ) → k < place → get_or ids k 0 < id
  pub above : (k : ℕ) → place ≤ k → k < length ids → id < get_or ids k 0

pub parts : (ids : List ℕ) (id place : ℕ) → IsBinarySearchResult (λ y. nat_cmp y id) ids (Err place) → Rises ids → Parts ids id place
parts ids id place is rises =
    let both = searched ids id (Err place) is (not_falling ids rises) in
    record { below = both.1; above = both.2 }

-- the ids at marked places: one that is marked, one that is not
at_true : (marks : List Bool) (ids : List ℕ) (i : ℕ) → i < length marks → i < length ids → get_or marks i false ≡ true
    → marked (drop i marks) (drop i ids) ≡ get_or ids i 0 ∷ marked (drop (i + 1) marks) (drop (i + 1) ids)
at_true marks ids i one two is =
    let mark = drop-cons marks i false one in
    let id = drop-cons ids i 0 two in
    rw (add-one, mark, id, is) refl

at_false : (marks : List Bool) (ids : List ℕ) (i : ℕ) → i < length marks → i < length ids → get_or marks i false ≡ false
    → marked (drop i marks) (drop i ids) ≡ marked (drop (i + 1) marks) (drop (i + 1) ids)
at_false marks ids i one two is =
    let mark = drop-cons marks i false one in
    let id = drop-cons ids i 0 two in
    rw (add-one, mark, id, is) refl

pub marked_more : (marks : List Bool) (ids kept : List ℕ) (i : ℕ) → i < length marks → i < length ids → get_or marks i false ≡ true
    → kept ++ marked (drop i marks) (drop i ids) ≡ marked marks ids → (kept ++ get_or ids i 0 ∷ []) ++ marked (drop (i + 1) marks) (drop (i + 1) ids) ≡ marked marks ids
marked_more marks ids kept i one two is before =
    append_assoc kept (get_or ids i 0 ∷ []) (marked (drop (i + 1) marks) (drop (i + 1) ids)) ∙ ap (λ (l : List ℕ). kept ++ l) (sym (at_true marks ids i one two is)) ∙ before

pub marked_same : (marks : List Bool) (ids kept : List ℕ) (i : ℕ) → i < length marks → i < length ids → get_or marks i false ≡ false
    → kept ++ marked (drop i marks) (drop i ids) ≡ marked marks ids → kept ++ marked (drop (i + 1) marks) (drop (i + 1) ids) ≡ marked marks ids
marked_same marks ids kept i one two is before = ap (λ (l : List ℕ). kept ++ l) (sym (at_false marks ids i one two is)) ∙ before

pub marked_filter : (p : ℕ → Bool) (marks : List Bool) (ids : List ℕ) → length marks ≡ length ids → ((k : ℕ) → k < length ids → get_or marks k false ≡ p (get_or ids k 0))
    → marked marks ids ≡ filter p ids
marked_filter p [] [] e are = refl
marked_filter p [] (id ∷ ids) e are = absurd (omega arith)
marked_filter p (mark ∷ marks) [] e are = absurd (omega arith)
marked_filter p (mark ∷ marks) (id ∷ ids) e are =
    let here : mark ≡ p id = are 0 (omega arith) in
    let rest : marked marks ids ≡ filter p ids = marked_filter p marks ids (omega arith) (λ k w. are (suc k) (omega arith)) in
    rw (here, rest) refl

-- the marks of all ranges
pub all_marked : {X : Type 0} (test : X → Bool) (mark whole : Bool) (ranges : List X) (i : ℕ) → length ranges ≤ i → (mark || list_any test (drop i ranges)) ≡ whole → mark ≡ whole
all_marked test mark whole ranges i end is =
    sym (or-false mark) ∙ ap (λ b. mark || b) (ap (list_any test) (sym (drop_all i ranges end))) ∙ is
