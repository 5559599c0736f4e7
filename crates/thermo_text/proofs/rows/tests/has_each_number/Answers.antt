use Rattle.std.proofs.Common.{arith, rules}
use Rattle.std.proofs.lemmas.List.Elements.{AllWithin-more, at_read}
use Rattle.thermo_text.specs.Thermo.{HasNumber}
use Rattle.thermo_text.proofs.rows.tests.has_each_number.Goals as goal

pub loop-keyword-preserved : goal.loop-keyword-preserved
loop-keyword-preserved c =
    let here : HasNumber c.args.numbers.now c.keyword-item.result = search rules in
    λ k d h. AllWithin-more (HasNumber c.args.numbers.now) c.as_slice-keyword-items.result.now 0 c.loop-keyword.keyword-index (λ j e l u. c.loop-keyword.invariant j e u)
    (at_read c.as_slice-keyword-items.result.now (HasNumber c.args.numbers.now) c.loop-keyword.keyword-index c.keyword-item.result c.loop-keyword-test.true c.keyword-item.is here) k d (omega arith) h
