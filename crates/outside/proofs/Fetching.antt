-- One content has one answer: what a fetch answers of it, except a fault or want of memory, is always the same.
use Rattle.std.specs.Prelude.{◌≡◌, ◌<◌, ◌≤◌, ℕ, List, length, Option, Some, None, Result, Ok, Err}
use Rattle.std.proofs.Common.{sym, ◌∙◌, ap, arith}
use Rattle.std.proofs.lemmas.Bool.Decides.{nat_tests}
use Rattle.outside.specs.Stock.{Fetches, IsAnswer, answer_of}
use Rattle.outside.specs.declared.shelf.TheConstants.{MAX_FETCHED}
use Rattle.outside.specs.declared.shelf.FetchRefusal.{FetchRefusal}
use Rattle.outside.specs.declared.shelf.FetchRefusal.TheVariants.{Missing, TooLong, Faulted, NoMemory}

within : (bytes : List ℕ) → length bytes ≤ MAX_FETCHED → Ok bytes ≡ answer_of (Some bytes)
within bytes h = grind (arith, nat_tests)

above : (bytes : List ℕ) → MAX_FETCHED < length bytes → Err (TooLong (length bytes)) ≡ answer_of (Some bytes)
above bytes h = grind (arith, nat_tests)

-- an answer is the one of the content
pub Fetches-answer : (had : Option (List ℕ)) (result : Result (List ℕ) FetchRefusal) → Fetches had result → IsAnswer result → result ≡ answer_of had
Fetches-answer had (Ok bytes) f a = within bytes f.1 ∙ ap answer_of (sym f.0)
Fetches-answer had (Err Missing) f a = ap answer_of (sym f)
Fetches-answer None (Err (TooLong n)) f a = absurd f
Fetches-answer (Some bytes) (Err (TooLong n)) f a = ap (λ k. Err (TooLong k)) (sym f.0) ∙ above bytes (omega (arith, f.0, f.1))
Fetches-answer had (Err Faulted) f a = absurd a
Fetches-answer had (Err NoMemory) f a = absurd a

-- two answers for one content are equal
pub Fetches-one : (had : Option (List ℕ)) (first second : Result (List ℕ) FetchRefusal) → Fetches had first → Fetches had second → IsAnswer first → IsAnswer second → first ≡ second
Fetches-one had first second f g a b = Fetches-answer had first f a ∙ sym (Fetches-answer had second g b)
