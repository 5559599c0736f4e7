-- The sample steps of a window.
use Rattle.std.proofs.Common.{◌≡◌, inl, inr, ◌<◌, ◌≤◌, ◌+◌, ◌-◌, ◌*◌, ◌||◌, ℕ, zero, suc, Bool, true, false, cond, nat_eq, nat_lt, ◌∷◌, length, refl, sym, ◌∙◌, ap, subst, arith, mul-le-mul_right}
use Rattle.std.specs.List.{filter, list_any}
use Rattle.std.proofs.lemmas.Bool.Decides.{leb_tells, nat_tests}
use Rattle.ave_time.specs.Windows.{sample_steps}

or_true : (b : Bool) → (b || true) ≡ true
or_true true = refl
or_true false = refl

-- a step that lies k times `every` before the end is one of them
pub found : (end every n step k : ℕ) → k < n → k * every + step ≡ end → list_any (λ s. nat_eq s step) (sample_steps end every n) ≡ true
found end every zero step k h e = absurd (omega (arith, h))
found end every (suc m) step k h e = elim (leb_tells m k) [
  | inl last ↦ here (omega (arith, h, last.1))
  | inr below ↦ ap (λ b. nat_eq (end - m * every) step || b) (found end every m step k (omega (arith, below.1)) e) ∙ or_true (nat_eq (end - m * every) step)
]
  where
    here : k ≡ m → list_any (λ s. nat_eq s step) (sample_steps end every (suc m)) ≡ true
    here is = ap (λ b. b || list_any (λ s. nat_eq s step) (sample_steps end every m)) at_it
      where
        at_it : nat_eq (end - m * every) step ≡ true
        at_it = grind (arith, nat_tests, e, ap (λ j. j * every) is)

-- a step that lies at no such place is none of them
pub not_found : (end every n step : ℕ) → n * every ≤ end → ((k : ℕ) → k < n → k * every + step ≡ end → ⊥) → list_any (λ s. nat_eq s step) (sample_steps end every n) ≡ false
not_found end every zero step room never = refl
not_found end every (suc m) step room never = both (nat_eq (end - m * every) step) refl (not_found end every m step (omega (arith, room)) (λ k h e. never k (omega (arith, h)) e))
  where
    both : (b : Bool) → nat_eq (end - m * every) step ≡ b → list_any (λ s. nat_eq s step) (sample_steps end every m) ≡ false → (nat_eq (end - m * every) step || list_any (λ s. nat_eq s step) (sample_steps end every m)) ≡ false
    both true is rest = absurd (never m (omega arith) (grind (arith, nat_tests, is, room)))
    both false is rest = ap (λ b. b || list_any (λ s. nat_eq s step) (sample_steps end every m)) is ∙ rest

-- of a step that lies k times `every` before the end, at most so many are below it
pub below_bound : (end every n step k : ℕ) → k * every + step ≡ end → length (filter (λ s. nat_lt s step) (sample_steps end every n)) ≤ n - (k + 1)
below_bound end every zero step k e = omega arith
below_bound end every (suc m) step k e = both (nat_lt (end - m * every) step) refl (below_bound end every m step k e)
  where
    Bound : Bool → Type 0
    Bound b = length (cond b ((end - m * every) ∷ filter (λ s. nat_lt s step) (sample_steps end every m)) (filter (λ s. nat_lt s step) (sample_steps end every m))) ≤ suc m - (k + 1)

    early : nat_lt (end - m * every) step ≡ true → k < m
    early is = elim (leb_tells m k) [
      | inl late ↦ absurd (grind (arith, nat_tests, is, e, mul-le-mul_right every late.1))
      | inr more ↦ omega (arith, more.1)
    ]

    both : (b : Bool) → nat_lt (end - m * every) step ≡ b → length (filter (λ s. nat_lt s step) (sample_steps end every m)) ≤ m - (k + 1) → Bound (nat_lt (end - m * every) step)
    both true is rest = subst Bound (sym is) (omega (arith, rest, early is))
    both false is rest = subst Bound (sym is) (omega (arith, rest))
