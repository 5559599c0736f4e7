-- Ranges that words write, front by front.
use Rattle.std.proofs.Common.{◌≡◌, ◌++◌, ◌∷◌, [], List, Result, Ok, Err, refl, ap, append_assoc}
use Rattle.command_words.specs.Values.{then}
use Rattle.command_words.specs.declared.refusal.WordRefusal.{WordRefusal}

-- what was read so far, and what is read of the rest
abbrev pub joined : {X : Type 0} → List X → Result (List X) WordRefusal → Result (List X) WordRefusal
joined xs (Ok ys) = Ok (xs ++ ys)
joined xs (Err why) = Err why

pub joined_more : {X : Type 0} (xs : List X) (x : X) (rest : Result (List X) WordRefusal) → joined (xs ++ x ∷ []) rest ≡ joined xs (then rest (λ ys. Ok (x ∷ ys)))
joined_more xs x (Ok ys) = ap Ok (append_assoc xs (x ∷ []) ys)
joined_more xs x (Err why) = refl
