use Rattle.std.proofs.Common.{◌≡◌, ◌∙◌, ◌+◌, ◌<◌, ◌≤◌, Some, Ok, drop, length, length-drop, ap, sym, arith}
use Rattle.std.proofs.lemmas.Bool.Decides.{nat_tests}
use Rattle.script_lines.specs.Joining.{Passes}
use Rattle.script_lines.specs.Script.{with_line}
use Rattle.script_lines.specs.Words.{line_words}
use Rattle.script_lines.proofs.JoiningLemmas.{passes_then}
use Rattle.script_lines.proofs.ScriptLemmas.{next_script, place_bound, place_feeds, script_beyond}
use Rattle.script_lines.proofs.script.line_from.Goals as goal

pub overflow_add-number : goal.overflow_add-number
overflow_add-number c =
    let b = place_bound c.args.text.now c.lines.rest.now c.args.place.at c.args.place.ended c.lines.ended c.requires.counted c.lines.invariant.1 in
    let some : 0 < length c.lines.rest.now = grind (arith, nat_tests, c.is_empty.ensures, c.lines-test.true) in
    omega (arith, b)

pub logical_line-requires-clause-small : goal.logical_line-requires-clause-small
logical_line-requires-clause-small c =
    omega (arith, place_bound c.args.text.now c.lines.rest.now c.args.place.at c.args.place.ended c.lines.ended c.requires.counted c.lines.invariant.1)

pub returns-then-not-is_empty-clause-line : goal.returns-then-not-is_empty-clause-line
returns-then-not-is_empty-clause-line c =
    let text = c.args.text.now in
    let at = c.args.place.at in
    let rest = c.lines.rest.now in
    let line = c.in_ok-joined.field-0 in
    let words = c.in_ok-words.words in
    let number = c.lines.ended + 1 in
    let within : at ≤ length text = omega (arith, c.lines.invariant.1.shorter, length-drop at text, c.in_ok-joined.ensures.farther) in
    let passes : Passes (drop at text) line.after.now c.args.place.ended line.ended = passes_then (drop at text) rest line.after.now c.args.place.ended c.lines.ended line.ended c.lines.invariant.1 c.in_ok-joined.ensures.passes in
    let joined : line.text ≡ Some c.in-Some.joined = cc in
    let read : line_words number c.in-Some.joined ≡ Ok words = let bytes : c.as_bytes.result.now ≡ c.in-Some.joined = cc in ap (line_words number) (sym bytes) ∙ c.in_ok-words.ensures.read in
    let some : 0 < length words = grind (arith, nat_tests, c.is_empty-in-lines.ensures, c.if-not-is_empty.true, ap length c.words.view_is) in
    sym c.lines.invariant.0
    ∙ next_script number (line.ended + 1) rest line.after.now line.text c.in-Some.joined words c.in_ok-joined.ensures.is joined read some
    ∙ ap (with_line number words) (sym (script_beyond text line.after.now at c.args.place.ended line.ended within c.requires.counted passes))

pub returns-then-not-is_empty-clause-counted : goal.returns-then-not-is_empty-clause-counted
returns-then-not-is_empty-clause-counted c =
    let text = c.args.text.now in
    let at = c.args.place.at in
    let rest = c.lines.rest.now in
    let line = c.in_ok-joined.field-0 in
    let within : at ≤ length text = omega (arith, c.lines.invariant.1.shorter, length-drop at text, c.in_ok-joined.ensures.farther) in
    place_feeds text line.after.now at c.args.place.ended line.ended within c.requires.counted
    (passes_then (drop at text) rest line.after.now c.args.place.ended c.lines.ended line.ended c.lines.invariant.1 c.in_ok-joined.ensures.passes)
