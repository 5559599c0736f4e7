use Rattle.std.proofs.Common.{◌≡◌, ◌+◌, ℤ, List, length, All, replicate, pos, subst, sym, ◌∙◌, ap, arith}
use Rattle.ave_time.specs.Windows.{IsSmall, IsWindow, next_window, plus}
use Rattle.ave_time.specs.declared.limits.TheConstants.{MAX_REPEAT}
use Rattle.ave_time.proofs.SumLemmas.{length-plus, small_plus, smaller}
use Rattle.ave_time.proofs.WindowLemmas.{next_is_window}
use Rattle.ave_time.proofs.window.end_window.Goals as goal

pub average-requires-clause-count : goal.average-requires-clause-count
average-requires-clause-count c = c.requires.room ∙ sym (length-plus c.args.parts.now.sums c.args.values.now) ∙ ap length (sym c.add.ensures)

pub average-requires-clause-small : goal.average-requires-clause-small
average-requires-clause-small c =
    let all : All (IsSmall (c.args.parts.now.samples + 1)) (plus c.args.parts.now.sums c.args.values.now) = small_plus c.args.parts.now.samples c.args.parts.now.sums c.args.values.now c.requires.window.small c.requires.small in
    let more : All (IsSmall MAX_REPEAT) (plus c.args.parts.now.sums c.args.values.now) = smaller (c.args.parts.now.samples + 1) MAX_REPEAT (plus c.args.parts.now.sums c.args.values.now) (omega (arith, c.requires.window.begun, c.requires.window.schedule.few)) all in
    subst (λ (sums : List ℤ). All (IsSmall MAX_REPEAT) sums) (sym c.add.ensures) more

pub returns-clause-is : goal.returns-clause-is
returns-clause-is c =
    let sums : c.clear.new.self ≡ replicate (length c.args.parts.now.sums) (pos 0) = c.clear.ensures ∙ ap (λ n. replicate n (pos 0)) (ap length c.add.ensures ∙ length-plus c.args.parts.now.sums c.args.values.now) in
    λ i. record (next_window c.args.parts.now) { sums = sums i }

pub returns-clause-window : goal.returns-clause-window
returns-clause-window c =
    let sums : c.clear.new.self ≡ replicate (length c.args.parts.now.sums) (pos 0) = c.clear.ensures ∙ ap (λ n. replicate n (pos 0)) (ap length c.add.ensures ∙ length-plus c.args.parts.now.sums c.args.values.now) in
    subst (λ (s : List ℤ). IsWindow (record (next_window c.args.parts.now) { sums = s })) (sym sums) (next_is_window c.args.parts.now c.requires.window c.requires.end)
