use Rattle.std.proofs.Common.{◌≡◌, ◌*◌, ◌^◌, ℕ, arith, sym, ap, ◌∙◌}
use Rattle.std.proofs.lemmas.Nat.{pow_pos}
use Rattle.fx_num.specs.Rounding.{nearest_of}
use Rattle.fx_num.proofs.RoundingLemmas.{nearest_of-shift, nearest_of-mul, nearest_of-le_self, half_small}
use Rattle.fx_num.proofs.rounding.nearest_shift.Goals as goal

pub returns-then-k-eq0-clause-is : goal.returns-then-k-eq0-clause-is
returns-then-k-eq0-clause-is c =
    let e : 2 ^ c.args.k ≡ 1 = ap (λ (k : ℕ). 2 ^ k) c.if-k-eq0.true in
    let whole : nearest_of (c.args.a * 1) 1 ≡ c.args.a = nearest_of-mul c.args.a 1 (omega arith) in
    let one : c.args.a * 1 ≡ c.args.a = omega arith in
    sym (ap (λ (d : ℕ). nearest_of c.args.a d) e ∙ ap (λ (n : ℕ). nearest_of n 1) (sym one) ∙ whole)

pub overflow_add-result : goal.overflow_add-result
overflow_add-result c = let h = half_small c.args.k c.if-k-eq0.false c.requires.places in omega (arith, h)

pub returns-clause-is : goal.returns-clause-is
returns-clause-is c = nearest_of-shift c.args.a c.args.k c.if-k-eq0.false c.requires.places

pub returns-clause-bound : goal.returns-clause-bound
returns-clause-bound c =
    rw (nearest_of-shift c.args.a c.args.k c.if-k-eq0.false c.requires.places) (nearest_of-le_self c.args.a (2 ^ c.args.k) (pow_pos c.args.k))
