-- A loop that puts f x over each element x of a list.
use Rattle.std.proofs.Common.{arith, ◌≡◌, ◌<◌, ◌+◌, ◌++◌, ◌∙◌, ap, drop, get_or, length, List, map, set, take, ℕ}
use Rattle.std.proofs.lemmas.Grind.{common_steps}
use Rattle.std.proofs.lemmas.List.{get_or_default}
use Rattle.std.proofs.lemmas.List.Edits.{map_over_more}

same_length : {X : Type 0} (f : X → X) (xs ys : List X) (i : ℕ) → ys ≡ map f (take i xs) ++ drop i xs → length ys ≡ length xs
same_length f xs ys i is = grind (arith, common_steps)

pub mapped_more : {X : Type 0} (f : X → X) (xs ys : List X) (i : ℕ) (d y : X) → i < length xs → ys ≡ map f (take i xs) ++ drop i xs → y ≡ f (get_or ys i d) → set ys i y ≡ map f (take (i + 1) xs) ++ drop (i + 1) xs
mapped_more f xs ys i d y lt is so =
    let size : length ys ≡ length xs = same_length f xs ys i is in
    ap (set ys i) so ∙ map_over_more f xs ys i (get_or ys i d) lt is (get_or_default ys i d (get_or ys i d) (omega arith))
