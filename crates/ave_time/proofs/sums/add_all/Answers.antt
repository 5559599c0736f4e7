use Rattle.std.proofs.Common.{◌≡◌, ◌<◌, ◌+ℤ◌, length, pos, subst, sym, ap, ◌∙◌, arith}
use Rattle.std.proofs.lemmas.List.Elements.{All-get_or}
use Rattle.ave_time.specs.Windows.{IsSmall}
use Rattle.ave_time.specs.declared.limits.TheConstants.{MAX_REPEAT}
use Rattle.ave_time.proofs.SumLemmas.{all_added, as_was, changed, changed_step}
use Rattle.ave_time.proofs.sums.add_all.Goals as goal

pub add_to-requires-clause-sum : goal.add_to-requires-clause-sum
add_to-requires-clause-sum c =
    let within : c.loop-i.i < length c.args.sums.now = omega arith in
    subst (IsSmall MAX_REPEAT) (sym (as_was (λ x y. x +ℤ y) c.loop-i.sums c.args.sums.now c.args.values.now c.loop-i.i (pos 0) c.loop-i.invariant)) (All-get_or (IsSmall MAX_REPEAT) c.args.sums.now c.loop-i.i (pos 0) within c.requires.sums)

pub loop-i-preserved : goal.loop-i-preserved
loop-i-preserved c = changed_step (λ x y. x +ℤ y) c.loop-i.sums c.args.sums.now c.args.values.now c.loop-i.i (pos 0) _ c.loop-i.invariant (omega arith) (omega arith) c.add_to.ensures

pub returns : goal.returns
returns c =
    let last : c.loop-i.i ≡ length c.args.sums.now = omega arith in
    c.loop-i.invariant ∙ ap (λ n. changed (λ x y. x +ℤ y) n c.args.sums.now c.args.values.now) last ∙ all_added c.args.sums.now c.args.values.now c.requires.count
