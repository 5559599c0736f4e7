use Rattle.std.proofs.Common.{◌≡◌, length, pos, ap, ◌∙◌, arith}
use Rattle.fx_num.specs.Rounding.{div_rounded}
use Rattle.ave_time.proofs.SumLemmas.{all_averaged, changed, changed_step}
use Rattle.ave_time.proofs.sums.average_all.Goals as goal

pub loop-i-preserved : goal.loop-i-preserved
loop-i-preserved c = changed_step (λ x y. div_rounded y (pos c.args.repeat)) c.loop-i.list c.args.list.now c.args.sums.now c.loop-i.i (pos 0) _ c.loop-i.invariant (omega arith) (omega arith) c.put_average.ensures

pub returns : goal.returns
returns c =
    let last : c.loop-i.i ≡ length c.args.list.now = omega arith in
    c.loop-i.invariant ∙ ap (λ n. changed (λ x y. div_rounded y (pos c.args.repeat)) n c.args.list.now c.args.sums.now) last ∙ all_averaged c.args.repeat c.args.list.now c.args.sums.now c.requires.count
