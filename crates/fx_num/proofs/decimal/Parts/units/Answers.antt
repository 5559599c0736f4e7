use Rattle.std.proofs.Common.{◌≡◌, ◌+◌, ◌-◌, ◌*◌, ◌^◌, ◌≤◌, ℕ, length, Bool, true, false, leb, SomeIff, arith, refl, ap, subst, ◌∙◌}
use Rattle.std.specs.Bool.{then_some}
use Rattle.std.proofs.lemmas.Bool.{leb-true, leb-false}
use Rattle.fx_num.specs.Decimal.{Decimal, decimal_units, above_zero, below_zero}
use Rattle.fx_num.proofs.DecimalLemmas.{decimal_units-raised, decimal_units-lowered}
use Rattle.fx_num.proofs.decimal.Parts.units.Goals as goal

pub returns-then-below-above : goal.returns-then-below-above
returns-then-below-above c =
    let fraction : length c.self.inside.fraction.now ≡ length c.args.self.now.fraction = ap (λ (d : Decimal). length d.fraction) c.self.view_is in
    let above : c.from-above.result ≡ above_zero c.args.self.now.exponent = c.from-above.ensures ∙ c.above_zero.ensures.is ∙ ap (λ (d : Decimal). above_zero d.exponent) c.self.view_is in
    let below : c.from.result ≡ below_zero c.args.self.now.exponent = c.from.ensures ∙ c.below_zero.ensures.is ∙ ap (λ (d : Decimal). below_zero d.exponent) c.self.view_is in
    let tens : ℕ = c.from-above.result - (length c.self.inside.fraction.now + c.from.result) in
    let whole : c.digits.result * 2 ^ 24 * 10 ^ tens ≡ decimal_units c.args.self.now =
    decimal_units-raised c.args.self.now c.digits.result tens c.digits.ensures.is (omega (arith, c.if-below-above.true)) (omega arith) in
    subst (λ (m : ℕ). SomeIff c.raised.result (m ≤ 2 ^ 62) m) whole c.raised.ensures

-- a number that is handed on where it is in range
kept : (m limit : ℕ) (b : Bool) → leb m limit ≡ b → SomeIff (then_some b m) (m ≤ limit) m
kept m limit true in_range = (leb-true m limit in_range, refl)
kept m limit false above = λ in_range. omega (arith, leb-false m limit above)

pub returns-else-below-above : goal.returns-else-below-above
returns-else-below-above c =
    let fraction : length c.self.inside.fraction.now ≡ length c.args.self.now.fraction = ap (λ (d : Decimal). length d.fraction) c.self.view_is in
    let above : c.from-above.result ≡ above_zero c.args.self.now.exponent = c.from-above.ensures ∙ c.above_zero.ensures.is ∙ ap (λ (d : Decimal). above_zero d.exponent) c.self.view_is in
    let below : c.from.result ≡ below_zero c.args.self.now.exponent = c.from.ensures ∙ c.below_zero.ensures.is ∙ ap (λ (d : Decimal). below_zero d.exponent) c.self.view_is in
    let tens : ℕ = length c.self.inside.fraction.now + c.from.result - c.from-above.result in
    let units : c.lowered-magnitude.result ≡ decimal_units c.args.self.now =
    c.lowered-magnitude.ensures ∙ decimal_units-lowered c.args.self.now c.digits-else-below-above.result tens c.digits-else-below-above.ensures.is (omega (arith, c.if-below-above.false)) (omega arith) in
    rw c.then_some.ensures
    (subst (λ (m : ℕ). SomeIff (then_some (leb c.lowered-magnitude.result (2 ^ 62)) c.lowered-magnitude.result) (m ≤ 2 ^ 62) m) units
    (kept c.lowered-magnitude.result (2 ^ 62) _ refl))
