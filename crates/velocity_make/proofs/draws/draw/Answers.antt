use Rattle.std.proofs.Common.{◌∙◌, ◌==◌, ◌^◌, cond, ℤ, pos, ap, arith}
use Rattle.fx_num.specs.Roots.{sqrt_of}
use Rattle.velocity_make.specs.Draw.{after_word, component_of, first_word, generator_of}
use Rattle.velocity_make.proofs.CastLemmas.{kept64, same64}
use Rattle.velocity_make.proofs.DrawLemmas.{draw_is, three_same, words_give}
use Rattle.velocity_make.proofs.draws.draw.Goals as goal

pub returns-clause-is : goal.returns-clause-is
returns-clause-is c =
    let made =
    words_give component_of first_word after_word (generator_of c.args.seed c.args.id) c.generator-words.result c.word.new.words c.word-2.new.words (sqrt_of c.args.mass) c.root_of-root.result
    c.word.result c.word-2.result c.word-3.result c.component-x.result c.component-y.result c.component-z.result c.generator-words.ensures c.word.ensures.word c.word.ensures.rest
    c.word-2.ensures.word c.word-2.ensures.rest c.word-3.ensures.word c.root_of-root.ensures.is c.component-x.ensures.is c.component-y.ensures.is c.component-z.ensures.is in
    draw_is c.args.dim c.args.seed c.args.id c.args.mass _
    (three_same _ _ _ _ _ _ (same64 c.component-x.result (omega (arith, c.component-x.ensures.bound)) ∙ made.0) (same64 c.component-y.result (omega (arith, c.component-y.ensures.bound)) ∙ made.1)
    (same64 c.along_z.result (omega (arith, c.along_z.ensures.bound)) ∙ c.along_z.ensures.is ∙ ap (λ (z : ℤ). cond (c.args.dim == 2) (pos 0) z) (same64 c.component-z.result (omega (arith, c.component-z.ensures.bound)) ∙ made.2)))

pub returns-clause-calm : goal.returns-clause-calm
returns-clause-calm c = (
  kept64 c.component-x.result (2 ^ 29) c.component-x.ensures.bound (omega arith),
  kept64 c.component-y.result (2 ^ 29) c.component-y.ensures.bound (omega arith),
  kept64 c.along_z.result (2 ^ 29) c.along_z.ensures.bound (omega arith),
)
