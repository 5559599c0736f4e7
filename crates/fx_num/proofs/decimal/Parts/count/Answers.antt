use Rattle.std.proofs.Common.{arith, sym, ap, ◌∙◌}
use Rattle.fx_num.specs.Decimal.{Decimal, significant, digits_of}
use Rattle.fx_num.proofs.DecimalLemmas.{significant-append_zero, significant-append_some}
use Rattle.fx_num.proofs.decimal.Parts.count.Goals as goal

pub returns-then-whole-eq0 : goal.returns-then-whole-eq0
returns-then-whole-eq0 c =
    c.count_significant.ensures
    ∙ sym (significant-append_zero c.self.inside.whole.now c.self.inside.fraction.now (sym c.count_significant-whole.ensures ∙ c.if-whole-eq0.true))
    ∙ ap (λ (d : Decimal). significant (digits_of d)) c.self.view_is

pub returns-else-whole-eq0 : goal.returns-else-whole-eq0
returns-else-whole-eq0 c =
    let whole = significant-append_some c.self.inside.whole.now c.self.inside.fraction.now (omega (arith, c.count_significant-whole.ensures)) in
    let seen = ap (λ (d : Decimal). significant (digits_of d)) c.self.view_is in
    omega (arith, c.count_significant-whole.ensures)
