use Rattle.std.proofs.Common.{◌≡◌, ◌∷◌, [], List, arith, ap, sym, subst, ◌∙◌, pos, rules}
use Rattle.std.proofs.lemmas.Int.{ints}
use Rattle.pair_lj.specs.declared.pair_settings.PairCoefficients.{PairCoefficients}
use Rattle.pair_lj.specs.Table.{Table}
use Rattle.serial_step.specs.Forces.{field_of}
use Rattle.serial_step.specs.Pairs.{IsReach}
use Rattle.part_tests.proofs.FieldLemmas.{one_reached}
use Rattle.part_tests.proofs.engines.field.Goals as goal

pub returns-clause-field : goal.returns-clause-field
returns-clause-field c =
    let one : PairCoefficients = record { i = 1; j = 1; epsilon = pos 16777216; sigma = pos 16777216; cutoff = pos 41943040 } in
    let pairs_are : c.finish.new.self.pairs ≡ one ∷ [] = ap (λ (t : Table). t.pairs) c.in_ok-finish.ensures.kept ∙ search rules in
    record {
      finished = c.in_ok-finish.ensures.finished;
      low = omega (arith, ints);
      high = omega (arith, ints);
      reach = subst (λ (ps : List PairCoefficients). IsReach (field_of ps) 41943040) (sym pairs_are) (one_reached one);
    }
