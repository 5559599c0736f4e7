-- Steps of loops over references.
use Rattle.std.proofs.Common.{◌≡◌, ◌<◌, ◌+◌, ◌*◌, ◌++◌, [], ◌∷◌, ℕ, ℤ, Bool, nat_lt, List, map, take, drop, length, get_or, set, count_by, cond, append_assoc, refl, sym, ap, ◌∙◌, arith}
use Rattle.std.proofs.lemmas.Grind.{common_steps}
use Rattle.std.proofs.lemmas.List.{at_drop_more, drop_more, map_more, set_at}
use Rattle.std.proofs.lemmas.List.Sums.{sum_by-append, sum_by-cons}
use Rattle.box_geo.specs.declared.atoms.Atom.{Atom}
use Rattle.box_geo.specs.declared.sim_box.Sides.{Sides}
use Rattle.box_geo.specs.Sides.{length2, near_image}
use Rattle.serial_step.specs.Rebuild.{positions}
use Rattle.sums.specs.Totals.{half}

-- nearer than the reach
abbrev pub is_near : Sides → ℕ → List ℤ → List ℤ → Bool
is_near s reach x y = nat_lt (length2 (near_image s x y)) (reach * reach)

abbrev pub are_near : Sides → ℕ → List ℤ × List ℤ → Bool
are_near s reach p = is_near s reach p.0 p.1

-- a row of pairs
row : (s : Sides) (reach : ℕ) (x : List ℤ) (xs : List (List ℤ)) → count_by (are_near s reach) (map (λ y. (x, y)) xs) ≡ count_by (is_near s reach x) xs
row s reach x [] = refl
row s reach x (y ∷ ys) =
    sum_by-cons (λ p. cond (are_near s reach p) 1 0) (x, y) (map (λ z. (x, z)) ys)
    ∙ ap (λ n. cond (is_near s reach x y) 1 0 + n) (row s reach x ys)
    ∙ sym (sum_by-cons (λ z. cond (is_near s reach x z) 1 0) y ys)

-- one reference more
pub pairs_more : (s : Sides) (reach : ℕ) (xs : List (List ℤ)) (i : ℕ) → i < length xs → count_by (are_near s reach) (half (drop i xs)) ≡ count_by (is_near s reach (get_or xs i [])) (drop (i + 1) xs) + count_by (are_near s reach) (half (drop (i + 1) xs))
pairs_more s reach xs i lt =
    let x : List ℤ = get_or xs i [] in
    let rest : List (List ℤ) = drop (i + 1) xs in
    at_drop_more (λ ys. count_by (are_near s reach) (half ys)) xs i [] lt
    ∙ sum_by-append (λ p. cond (are_near s reach p) 1 0) (map (λ y. (x, y)) rest) (half rest)
    ∙ ap (λ n. n + count_by (are_near s reach) (half rest)) (row s reach x rest)

pub renew_more : (atoms : List Atom) (old new : List (List ℤ)) (i : ℕ) (d : Atom) → i < length atoms → length old ≡ length atoms → new ≡ positions (take i atoms) ++ drop i old → set new i (get_or atoms i d).x ≡ positions (take (i + 1) atoms) ++ drop (i + 1) old
renew_more atoms old new i d lt size is =
    let f : Atom → List ℤ = λ a. a.x in
    let x : List ℤ = f (get_or atoms i d) in
    let done : length (map f (take i atoms)) ≡ i = grind (arith, common_steps) in
    ap (λ (l : List (List ℤ)). set l i x) (is ∙ ap (λ (l : List (List ℤ)). map f (take i atoms) ++ l) (drop_more old i [] (omega arith)))
    ∙ set_at (map f (take i atoms)) (get_or old i []) (drop (i + 1) old) x i done
    ∙ sym (append_assoc (map f (take i atoms)) (x ∷ []) (drop (i + 1) old))
    ∙ ap (λ (l : List (List ℤ)). l ++ drop (i + 1) old) (sym (map_more f atoms i d lt))
