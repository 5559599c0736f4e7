use Rattle.std.proofs.Common.{◌≡◌, ◌<◌, nat_eq, length, get_or, arith, true, false, [], sym, ap, ◌∙◌}
use Rattle.std.specs.List.{starts_with}
use Rattle.formula.specs.Words.{words}
use Rattle.formula.proofs.WordLemmas.{any_here, any_next, length-words, none_left}
use Rattle.formula.proofs.words.begins_word.Goals as goal

pub returns-then-starts_with : goal.returns-then-starts_with
returns-then-starts_with c =
    let below : c.loop-at.at < length words = omega (arith, length-words) in
    let word : starts_with nat_eq (get_or words c.loop-at.at []) c.args.text.now ≡ true = ap (λ w. starts_with nat_eq w c.args.text.now) (sym c.word_at.ensures) ∙ sym c.starts_with.ensures.value ∙ c.if-starts_with.true in
    sym (any_here (λ w. starts_with nat_eq w c.args.text.now) words c.loop-at.at below word) ∙ c.loop-at.invariant

pub loop-at-preserved : goal.loop-at-preserved
loop-at-preserved c =
    let below : c.loop-at.at < length words = omega (arith, length-words) in
    let word : starts_with nat_eq (get_or words c.loop-at.at []) c.args.text.now ≡ false = ap (λ w. starts_with nat_eq w c.args.text.now) (sym c.word_at.ensures) ∙ sym c.starts_with.ensures.value ∙ c.if-starts_with.false in
    any_next (λ w. starts_with nat_eq w c.args.text.now) words c.loop-at.at below word ∙ c.loop-at.invariant

pub returns : goal.returns
returns c = sym (none_left (λ w. starts_with nat_eq w c.args.text.now) c.loop-at.at (omega arith)) ∙ c.loop-at.invariant
