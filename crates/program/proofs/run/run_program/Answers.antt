use Rattle.std.proofs.Common.{◌≡◌, ◌⊎◌, inl, inr, ◌∙◌, ℕ, Result, Ok, Err, arith, refl, sym, ap}
use Rattle.fxlmp_top.specs.declared.asked.Asked.{Asked}
use Rattle.fxlmp_top.specs.Words.{asked}
use Rattle.program.specs.Request.{request_of}
use Rattle.session.specs.declared.status.Status.{Status}
use Rattle.session.specs.declared.status.Status.TheVariants.{DiskFault, Budget, Done, NoMemory, NotBuilt, RangeFault, ReadFault, ScriptRefused, Usage, WriteFault}
use Rattle.session.specs.Ends.{number_of}
use Rattle.program.proofs.run.run_program.Goals as goal

-- two equal reads have the same words
same_words : {X E : Type 0} (r : Result X E) (a b : X) → r ≡ Ok a → r ≡ Ok b → a ≡ b
same_words r a b p q = cc

-- 7 is the number of Usage alone
only_usage : (s : Status) → number_of s ≡ 7 → ((place : ℕ) → s ≡ Usage place → ⊥) → ⊥
only_usage Done is no_usage = omega arith
only_usage (ScriptRefused code file line) is no_usage = omega arith
only_usage (RangeFault key step) is no_usage = omega arith
only_usage ReadFault is no_usage = omega arith
only_usage WriteFault is no_usage = omega arith
only_usage DiskFault is no_usage = omega arith
only_usage NoMemory is no_usage = omega arith
only_usage (Usage place) is no_usage = no_usage place refl
only_usage (Budget file line) is no_usage = omega arith
only_usage (NotBuilt file line) is no_usage = omega arith

not_both : (r : Result Asked ℕ) (a : Asked) (place : ℕ) → r ≡ Ok a → r ≡ Err place → ⊥
not_both r a place good bad = cc

-- the number of a wrong command line, unless memory was wanting
misread_number : (s : Status) (place number : ℕ) → number ≡ number_of s → (s ≡ Usage place) ⊎ (s ≡ NoMemory) → (number ≡ 7) ⊎ (number ≡ 6)
misread_number s place number is (inl usage) = inl (is ∙ ap number_of usage)
misread_number s place number is (inr wanting) = inr (is ∙ ap number_of wanting)

pub returns-in-Ok-clause-usage : goal.returns-in-Ok-clause-usage
returns-in-Ok-clause-usage g c = λ words place is run bad.
    let same : c.as_slice.result.now ≡ words = c.as_slice.ensures ∙ same_words c.args.read c.in-Ok.words words c.in-Ok.is is in
    misread_number c.answer-status.result place _ c.finish.ensures (c.answer-status.ensures.misread (ap request_of same ∙ run) place (ap asked same ∙ bad))

pub returns-in-Ok-clause-right : goal.returns-in-Ok-clause-right
returns-in-Ok-clause-right g c = λ words a is run good seven.
    let same : c.as_slice.result.now ≡ words = c.as_slice.ensures ∙ same_words c.args.read c.in-Ok.words words c.in-Ok.is is in
    only_usage c.answer-status.result (sym c.finish.ensures ∙ seven)
    (λ place e. not_both (asked words) a place good (ap asked (sym same) ∙ c.answer-status.ensures.usage (ap request_of same ∙ run) place e))
