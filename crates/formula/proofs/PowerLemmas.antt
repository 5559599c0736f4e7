-- A product that is out of range stays so.
use Rattle.std.proofs.Common.{◌≡◌, ◌≤◌, ℕ, zero, suc, ℤ, Err, arith, ap, ◌∙◌, ⊎_elim}
use Rattle.std.proofs.lemmas.Bool.{cases_lt}
use Rattle.formula.specs.declared.arithmetic.Failure.{Failure}
use Rattle.formula.specs.Arithmetic.{power_of, times}

pub power_stays : (a : ℤ) (f : Failure) (k n : ℕ) → k ≤ n → power_of a k ≡ Err f → power_of a n ≡ Err f
power_stays a f k zero within failed =
    let none : zero ≡ k = omega arith in
    ap (power_of a) none ∙ failed
power_stays a f k (suc n) within failed =
    ⊎_elim (λ less. ap (λ r. times r a) (power_stays a f k n (omega arith) failed)) (λ more. let here : suc n ≡ k = omega arith in ap (power_of a) here ∙ failed) (cases_lt k (suc n))
