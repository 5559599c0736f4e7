use Rattle.std.proofs.Common.{◌≡◌, ◌∙◌, ◌+◌, ◌-◌, ◌≤◌, ◌∷◌, [], ℕ, List, length, drop, take, sym, ap, arith, length-drop}
use Rattle.std.proofs.lemmas.List.{drop-drop, nil_from_length, take_all}
use Rattle.std.specs.List.{prefix_len}
use Rattle.script_lines.specs.Physical.{is_line_byte, physical_lines}
use Rattle.script_lines.proofs.PhysicalLemmas.{feeds-none, feeds-split, lines_behind-split, physical_lines-none}
use Rattle.script_lines.proofs.physical.first_line.Goals as goal

-- the line feed, and what stands behind it
pub split : (text : List ℕ) (k b : ℕ) (after : List ℕ) → drop k text ≡ b ∷ after → after ≡ drop (length text - length after) text
split text k b after e =
    let n : length text - length after ≡ k + 1 = omega (arith, length-drop k text, ap length e) in
    rw n (ap (drop 1) (sym e) ∙ drop-drop 1 k text)

pub returns-in-Some-clause-lines : goal.returns-in-Some-clause-lines
returns-in-Some-clause-lines c =
    let text = c.args.text.now in
    let len : c.line_len.result ≡ prefix_len is_line_byte text = c.line_len.ensures.is in
    let rest : drop (prefix_len is_line_byte text) text ≡ c.in-Some.field-0-0.now ∷ c.in-Some.after.now = ap (λ n. drop n text) (sym len) ∙ sym c.split_at.ensures.back ∙ c.in-Some.ensures.cases.0 in
    let front : c.split_at.result.0.now ≡ take (prefix_len is_line_byte text) text = c.split_at.ensures.front ∙ ap (λ n. take n text) len in
    lines_behind-split [] text c.in-Some.field-0-0.now c.in-Some.after.now rest
    ∙ ap (λ l. l ∷ physical_lines c.in-Some.after.now) (sym (rw front at c.without_return.ensures))

pub returns-in-Some-clause-suffix : goal.returns-in-Some-clause-suffix
returns-in-Some-clause-suffix c =
    split c.args.text.now c.line_len.result c.in-Some.field-0-0.now c.in-Some.after.now (sym c.split_at.ensures.back ∙ c.in-Some.ensures.cases.0)

pub returns-in-Some-clause-counted : goal.returns-in-Some-clause-counted
returns-in-Some-clause-counted c =
    let text = c.args.text.now in
    let len : c.line_len.result ≡ prefix_len is_line_byte text = c.line_len.ensures.is in
    feeds-split text c.in-Some.field-0-0.now c.in-Some.after.now (ap (λ n. drop n text) (sym len) ∙ sym c.split_at.ensures.back ∙ c.in-Some.ensures.cases.0)

pub returns-in-None-clause-lines : goal.returns-in-None-clause-lines
returns-in-None-clause-lines c =
    let text = c.args.text.now in
    let len : c.line_len.result ≡ prefix_len is_line_byte text = c.line_len.ensures.is in
    let none : length text ≤ prefix_len is_line_byte text = omega (arith, c.in-None.ensures.cases) in
    let all : c.split_at.result.0.now ≡ text = c.split_at.ensures.front ∙ take_all c.line_len.result text (omega arith) in
    let nil : c.split_at.result.1.now ≡ [] = nil_from_length c.split_at.result.1.now c.in-None.ensures.cases in
    rw (all, nil) (physical_lines-none text none (omega arith))

pub returns-in-None-clause-counted : goal.returns-in-None-clause-counted
returns-in-None-clause-counted c =
    let text = c.args.text.now in
    let len : c.line_len.result ≡ prefix_len is_line_byte text = c.line_len.ensures.is in
    let none : length text ≤ prefix_len is_line_byte text = omega (arith, c.in-None.ensures.cases) in
    let nil : c.split_at.result.1.now ≡ [] = nil_from_length c.split_at.result.1.now c.in-None.ensures.cases in
    rw nil (feeds-none text none)
