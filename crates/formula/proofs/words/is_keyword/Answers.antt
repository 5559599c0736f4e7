use Rattle.std.proofs.Common.{◌≡◌, ◌<◌, length, get_or, arith, true, false, [], sym, ap, ◌∙◌}
use Rattle.std.specs.List.{list_any}
use Rattle.std.specs.Str.{bytes_eq}
use Rattle.formula.specs.Words.{words}
use Rattle.formula.proofs.WordLemmas.{any_here, any_next, length-words, none_left, drop-functions}
use Rattle.formula.proofs.words.is_keyword.Goals as goal

pub loop-at-init : goal.loop-at-init
loop-at-init c = ap (list_any (λ w. bytes_eq w c.args.text.now)) drop-functions

pub returns-then-eq : goal.returns-then-eq
returns-then-eq c =
    let below : c.loop-at.at < length words = omega (arith, length-words) in
    let word : bytes_eq (get_or words c.loop-at.at []) c.args.text.now ≡ true = ap (λ w. bytes_eq w c.args.text.now) (sym c.word_at.ensures) ∙ sym c.eq.ensures ∙ c.if-eq.true in
    sym (any_here (λ w. bytes_eq w c.args.text.now) words c.loop-at.at below word) ∙ c.loop-at.invariant

pub loop-at-preserved : goal.loop-at-preserved
loop-at-preserved c =
    let below : c.loop-at.at < length words = omega (arith, length-words) in
    let word : bytes_eq (get_or words c.loop-at.at []) c.args.text.now ≡ false = ap (λ w. bytes_eq w c.args.text.now) (sym c.word_at.ensures) ∙ sym c.eq.ensures ∙ c.if-eq.false in
    any_next (λ w. bytes_eq w c.args.text.now) words c.loop-at.at below word ∙ c.loop-at.invariant

pub returns : goal.returns
returns c = sym (none_left (λ w. bytes_eq w c.args.text.now) c.loop-at.at (omega arith)) ∙ c.loop-at.invariant
