-- What a binary search among rising ids finds.
use Rattle.std.proofs.Common.{◌≡◌, ◌≤◌, ◌<◌, false, ℕ, Result, Ok, Err, List, length, get_or, nat_eq, is_ok, MatchResult, sym, arith}
use Rattle.std.specs.List.{list_any}
use Rattle.std.specs.List.Sorted.{IsBinarySearchResult}
use Rattle.std.specs.Ordering.{nat_cmp}
use Rattle.std.proofs.lemmas.Bool.Decides.{nat_tests}
use Rattle.std.proofs.lemmas.Grind.{get_or_default_zero}
use Rattle.std.proofs.lemmas.List.Folds.{list_any_at, list_any_none}
use Rattle.std.proofs.lemmas.List.Sorted.{searched}
use Rattle.box_geo.specs.Ids.{Rises}

not_falling : (ids : List ℕ) → Rises ids → (i j : ℕ) → i ≤ j → j < length ids → get_or ids i 0 ≤ get_or ids j 0
not_falling ids rises i j le lt = grind (arith, rises i j)

abbrev Places : List ℕ → ℕ → Result ℕ ℕ → Type 0
Places ids id r = MatchResult r (λ i. (i < length ids) × (get_or ids i 0 ≡ id)) (λ i. (i ≤ length ids) × ((k : ℕ) → k < i → get_or ids k 0 < id) × ((k : ℕ) → i ≤ k → k < length ids → id < get_or ids k 0))

by_place : (ids : List ℕ) (id : ℕ) (r : Result ℕ ℕ) → Places ids id r → is_ok r ≡ list_any (λ x. nat_eq x id) ids
by_place ids id (Ok i) h = sym (list_any_at (λ x. nat_eq x id) ids i 0 h.0 (grind (arith, nat_tests)))
by_place ids id (Err i) h = sym (list_any_none (λ x. nat_eq x id) ids (λ k d lt. differs k d lt))
  where
    differs : (k : ℕ) (d : ℕ) → k < length ids → nat_eq (get_or ids k d) id ≡ false
    differs k d lt = grind (arith, nat_tests, h.1 k, h.2 k, get_or_default_zero ids k d lt)

-- an id is found exactly where the list has it
pub found-any : (ids : List ℕ) (id : ℕ) (r : Result ℕ ℕ) → IsBinarySearchResult (λ y. nat_cmp y id) ids r → Rises ids → is_ok r ≡ list_any (λ x. nat_eq x id) ids
found-any ids id r is rises = by_place ids id r (searched ids id r is (not_falling ids rises))
