use Rattle.std.proofs.Common.{◌≡◌, ◌∙◌, ◌++◌, length, take, ap, sym, true, false, unwrap_or}
use Rattle.std.specs.Option.{is_some}
use Rattle.script_lines.specs.Joining.{before_line, front_of, joint_by}
use Rattle.script_lines.proofs.JoiningLemmas.{joint_is}
use Rattle.script_lines.proofs.joining.Joined.join.Goals as goal

pub returns-then-is_triple-clause-joint : goal.returns-then-is_triple-clause-joint
returns-then-is_triple-clause-joint c =
    let line = c.args.line.now in
    let before = before_line c.args.joint c.args.self.now.text in
    let now = c.append.new.self in
    let front : c.split_at.result.0.now ≡ front_of line = c.split_at.ensures.front ∙ ap (λ n. take n line) c.unwrap_or.ensures ∙ ap (λ o. take (unwrap_or o (length line)) line) c.mark_of-mark.ensures.is in
    let text : now.text ≡ before ++ front_of line = c.in_ok-append.ensures.text ∙ ap (λ t. t ++ c.split_at.result.0.now) c.in_ok-begin_line.ensures.text ∙ ap (λ t. before ++ t) front in
    let all = joint_is before line now.text now.reading.mode now.reading.opened c.is_triple.result c.mark_of-mark.result text c.in_ok-append.ensures.read c.is_triple.ensures c.mark_of-mark.ensures.is in
    ap (λ b. joint_by b (is_some c.mark_of-mark.result)) (sym c.if-is_triple.true) ∙ all

pub returns-in-Some-clause-joint : goal.returns-in-Some-clause-joint
returns-in-Some-clause-joint c =
    let line = c.args.line.now in
    let before = before_line c.args.joint c.args.self.now.text in
    let now = c.append.new.self in
    let front : c.split_at.result.0.now ≡ front_of line = c.split_at.ensures.front ∙ ap (λ n. take n line) c.unwrap_or.ensures ∙ ap (λ o. take (unwrap_or o (length line)) line) c.mark_of-mark.ensures.is in
    let text : now.text ≡ before ++ front_of line = c.in_ok-append.ensures.text ∙ ap (λ t. t ++ c.split_at.result.0.now) c.in_ok-begin_line.ensures.text ∙ ap (λ t. before ++ t) front in
    let all = joint_is before line now.text now.reading.mode now.reading.opened c.is_triple.result c.mark_of-mark.result text c.in_ok-append.ensures.read c.is_triple.ensures c.mark_of-mark.ensures.is in
    ap (λ b. joint_by b true) (sym c.if-is_triple.false) ∙ ap (λ o. joint_by c.is_triple.result (is_some o)) (sym c.in-Some.is) ∙ all

pub returns-in-None-clause-joint : goal.returns-in-None-clause-joint
returns-in-None-clause-joint c =
    let line = c.args.line.now in
    let before = before_line c.args.joint c.args.self.now.text in
    let now = c.append.new.self in
    let front : c.split_at.result.0.now ≡ front_of line = c.split_at.ensures.front ∙ ap (λ n. take n line) c.unwrap_or.ensures ∙ ap (λ o. take (unwrap_or o (length line)) line) c.mark_of-mark.ensures.is in
    let text : now.text ≡ before ++ front_of line = c.in_ok-append.ensures.text ∙ ap (λ t. t ++ c.split_at.result.0.now) c.in_ok-begin_line.ensures.text ∙ ap (λ t. before ++ t) front in
    let all = joint_is before line now.text now.reading.mode now.reading.opened c.is_triple.result c.mark_of-mark.result text c.in_ok-append.ensures.read c.is_triple.ensures c.mark_of-mark.ensures.is in
    ap (λ b. joint_by b false) (sym c.if-is_triple.false) ∙ ap (λ o. joint_by c.is_triple.result (is_some o)) (sym c.in-None.is) ∙ all
