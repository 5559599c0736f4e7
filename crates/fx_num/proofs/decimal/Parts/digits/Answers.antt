use Rattle.std.proofs.Common.{arith, sym, ap, ◌∙◌}
use Rattle.std.specs.Str.Parse.{digits_value, digits_value_after}
use Rattle.fx_num.specs.Decimal.{Decimal, significant, digits_of}
use Rattle.fx_num.proofs.DecimalLemmas.{digits_value_few, digits_value_after-ge, digits_value_after-append}
use Rattle.fx_num.proofs.decimal.Parts.digits.Goals as goal

pub value-requires-clause-fits : goal.value-requires-clause-fits
value-requires-clause-fits c =
    let seen = ap (λ (d : Decimal). significant (digits_of d)) c.self.view_is in
    let all = digits_value_few c.self.inside.whole.now c.self.inside.fraction.now c.self.invariant.0 c.self.invariant.1 (omega (arith, c.requires)) in
    omega (arith, digits_value_after-ge (digits_value 10 c.self.inside.whole.now) c.self.inside.fraction.now)

pub value-requires-2-clause-fits : goal.value-requires-2-clause-fits
value-requires-2-clause-fits c =
    let seen = ap (λ (d : Decimal). significant (digits_of d)) c.self.view_is in
    rw c.value.ensures (digits_value_few c.self.inside.whole.now c.self.inside.fraction.now c.self.invariant.0 c.self.invariant.1 (omega (arith, c.requires)))

pub returns-clause-is : goal.returns-clause-is
returns-clause-is c =
    c.value-2.ensures
    ∙ ap (λ n. digits_value_after 10 n c.self.inside.fraction.now) c.value.ensures
    ∙ sym (digits_value_after-append 0 c.self.inside.whole.now c.self.inside.fraction.now)
    ∙ ap (λ (d : Decimal). digits_value 10 (digits_of d)) c.self.view_is

pub returns-clause-bound : goal.returns-clause-bound
returns-clause-bound c =
    let seen = ap (λ (d : Decimal). significant (digits_of d)) c.self.view_is in
    rw (c.value-2.ensures, c.value.ensures) (digits_value_few c.self.inside.whole.now c.self.inside.fraction.now c.self.invariant.0 c.self.invariant.1 (omega (arith, c.requires)))
