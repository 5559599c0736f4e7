-- Lists whose first items go.
use Rattle.std.proofs.Common.{◌≡◌, ◌∙◌, ◌+◌, ◌<◌, ◌≤◌, ℕ, List, [], ◌∷◌, length, drop, get_or, length-drop, ap, arith}
use Rattle.std.specs.List.{remove}
use Rattle.std.proofs.lemmas.List.{drop-drop}

pub one_more : {X : Type 0} (x r : X) (xs ys zs : List X) (i : ℕ) → x ∷ xs ≡ drop i zs → 0 < length xs → r ≡ get_or xs 0 r → ys ≡ remove xs 0 → r ∷ ys ≡ drop (i + 1) zs
one_more x r [] ys zs i e some is rest = absurd (omega arith)
one_more x r (y ∷ xs) ys zs i e some is rest =
    let first : r ≡ y = is in
    let others : ys ≡ xs = rest in
    ap (λ f. f ∷ ys) first ∙ ap (λ l. y ∷ l) others ∙ ap (λ l. drop 1 l) e ∙ drop-drop 1 i zs

pub fewer_by : {X : Type 0} (x y : X) (xs ys : List X) (n : ℕ) → y ∷ ys ≡ drop n (x ∷ xs) → length ys ≤ length xs
fewer_by x y xs ys n e = omega (arith, ap length e, length-drop n (x ∷ xs))
