-- What the crates above cite of fault keys: their words order them.
use Rattle.std.proofs.Common.{◌≡◌, ◌<◌, ◌≤◌, ℕ, inl, inr, arith, ap, ◌∙◌}
use Rattle.std.proofs.lemmas.Bool.{cases_order}
use Rattle.box_geo.specs.declared.fault.FaultKey.{FaultKey}
use Rattle.box_geo.specs.Fault.{key_word, FitsWord, IsLess, ComesBefore}

-- a digit decides unless the digits are equal
first_digit : (m n : ℕ) (P : Type 0) → (m ≤ n) → (m ≡ n → P) → IsLess m n P
first_digit m n P most rest = elim (cases_order m n) as (λ _. IsLess m n P) [ inl e ↦ inr (e, rest e) | inr o ↦ elim o as (λ _. IsLess m n P) [ inl lt ↦ inl lt | inr gt ↦ absurd (omega arith) ] ]

pub before_from_word : (k l : FaultKey) → FitsWord k → FitsWord l → key_word k < key_word l → ComesBefore k l
before_from_word k l f g lt =
    first_digit k.phase l.phase _ (omega arith) (λ p.
    first_digit k.kind l.kind _ (omega arith) (λ q.
    first_digit k.a l.a _ (omega arith) (λ r. omega arith)))

pub word_from_before : (k l : FaultKey) → FitsWord k → FitsWord l → ComesBefore k l → key_word k < key_word l
word_from_before k l f g (inl p) = omega arith
word_from_before k l f g (inr (p, inl q)) = omega arith
word_from_before k l f g (inr (p, inr (q, inl r))) = omega arith
word_from_before k l f g (inr (p, inr (q, inr (r, s)))) = omega arith

key_of : ℕ → ℕ → ℕ → ℕ → FaultKey
key_of phase kind a b = record { phase = phase; kind = kind; a = a; b = b }

same_parts : (k l : FaultKey) → k.phase ≡ l.phase → k.kind ≡ l.kind → k.a ≡ l.a → k.b ≡ l.b → k ≡ l
unfolding key_of
same_parts k l p q r s =
    ap (λ (x : ℕ). key_of x k.kind k.a k.b) p ∙ ap (λ (x : ℕ). key_of l.phase x k.a k.b) q
    ∙ ap (λ (x : ℕ). key_of l.phase l.kind x k.b) r ∙ ap (λ (x : ℕ). key_of l.phase l.kind l.a x) s

pub same_key : (k l : FaultKey) → FitsWord k → FitsWord l → key_word k ≡ key_word l → k ≡ l
same_key k l f g e = same_parts k l (omega arith) (omega arith) (omega arith) (omega arith)
