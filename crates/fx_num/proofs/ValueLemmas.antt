-- What is known of the texts of a formula's values.
use Rattle.std.proofs.Common.{◌≡◌, ◌≢◌, ◌-◌, ◌<◌, ◌≤◌, ◌==◌, ◌&&◌, cond, Bool, true, false, ℕ, zero, suc, List, [], ◌∷◌, ◌++◌, length, take, get_or, arith, refl, sym, ap, ◌∙◌}
use Rattle.std.proofs.Math.Seq.{take-suc}
use Rattle.std.proofs.lemmas.Bool.{eq-eqb, ne_eqb}
use Rattle.std.proofs.lemmas.List.{length-append}
use Rattle.fx_num.specs.Print.{without_last}

-- one byte c more at the end changes nothing
without_last-same : (c : ℕ) (text : List ℕ) → without_last c (text ++ c ∷ []) ≡ without_last c text
without_last-same c [] = rw (eq-eqb c c refl) refl
without_last-same c (x ∷ text) = rw (without_last-same c text) refl

-- behind another byte nothing is dropped
without_last-other : (c x : ℕ) (text : List ℕ) → x ≢ c → without_last c (text ++ x ∷ []) ≡ text ++ x ∷ []
without_last-other c x [] other = rw (ne_eqb x c other) refl
without_last-other c x (y ∷ text) other = rw (without_last-other c x text other) (longer (y == c) (text ++ x ∷ []) (y ∷ (text ++ x ∷ [])) (omega (arith, length-append text (x ∷ []))))
  where
    longer : (b : Bool) (rest all : List ℕ) → 0 < length rest → cond (b && (length rest == 0)) [] all ≡ all
    longer true [] all some = absurd (omega arith)
    longer true (z ∷ rest) all some = rw (ne_eqb (suc (length rest)) 0 (λ same. omega (arith, same))) refl
    longer false rest all some = refl

pub kept_less : (c k : ℕ) (text : List ℕ) → 0 < k → k ≤ length text → get_or text (k - 1) 0 ≡ c → without_last c (take (k - 1) text) ≡ without_last c (take k text)
kept_less c zero text some within last = absurd (omega arith)
kept_less c (suc k) text some within last =
    let less : suc k - 1 ≡ k = omega arith in
    let here : get_or text k 0 ≡ c = rw less at last in
    let more : take (suc k) text ≡ take k text ++ get_or text k 0 ∷ [] = take-suc text k 0 (omega arith) in
    let end : take (suc k) text ≡ take k text ++ c ∷ [] = more ∙ ap (λ (x : ℕ). take k text ++ x ∷ []) here in
    ap (λ (n : ℕ). without_last c (take n text)) less ∙ sym (without_last-same c (take k text)) ∙ ap (without_last c) (sym end)

pub kept_all : (c k : ℕ) (text : List ℕ) → 0 < k → k ≤ length text → get_or text (k - 1) 0 ≢ c → without_last c (take k text) ≡ take k text
kept_all c zero text some within other = absurd (omega arith)
kept_all c (suc k) text some within other =
    let less : suc k - 1 ≡ k = omega arith in
    let here : get_or text k 0 ≢ c = rw less at other in
    let more : take (suc k) text ≡ take k text ++ get_or text k 0 ∷ [] = take-suc text k 0 (omega arith) in
    ap (without_last c) more ∙ without_last-other c (get_or text k 0) (take k text) here ∙ sym more
