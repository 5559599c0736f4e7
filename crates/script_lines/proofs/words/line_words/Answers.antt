use Rattle.std.proofs.Common.{◌≡◌, ◌∙◌, ◌+◌, ◌<◌, ◌≤◌, ◌∷◌, drop, length, get_or, sym, ap, arith}
use Rattle.std.proofs.lemmas.List.{drop_more}
use Rattle.script_lines.specs.Modes.{closes, closings, depth_of}
use Rattle.script_lines.specs.Words.{with_words, words_from}
use Rattle.script_lines.proofs.WordLemmas.{cut_more, popped}
use Rattle.script_lines.proofs.words.line_words.Goals as goal

pub loop-byte-preserved : goal.loop-byte-preserved
loop-byte-preserved c =
    let line = c.args.line.now in
    let i = c.loop-byte.byte-index in
    let byte = get_or line i 0 in
    let rest = drop (i + 1) line in
    let cut = c.loop-byte.cut in
    let now = c.in_ok-cut.cut in
    let within : i < length line = omega arith in
    let more : drop i line ≡ byte ∷ rest = drop_more line i 0 within in
    let flags : c.loop-byte.closings ≡ closes rest ∷ closings rest = c.loop-byte.invariant.1 ∙ ap closings more in
    let top = popped c.loop-byte.closings c.pop.new.self c.pop.result (closes rest) (closings rest) c.pop.ensures.top c.pop.ensures.none flags in
    let closed : c.unwrap_or-closed.result ≡ closes rest = c.unwrap_or-closed.ensures ∙ top.0 in
    let so_far : with_words cut.words (words_from c.args.number cut.mode cut.word (byte ∷ rest)) ≡ _ = ap (λ t. with_words cut.words (words_from c.args.number cut.mode cut.word t)) (sym more) ∙ c.loop-byte.invariant.0 in
    let deep : depth_of now.mode ≤ depth_of cut.mode + 1 = c.in_ok-cut.ensures.depth in
    let was : depth_of cut.mode ≤ i = c.loop-byte.invariant.2 in (
      cut_more c.args.number cut.mode now.mode cut.word now.word cut.words now.words byte c.unwrap_or-closed.result rest closed c.in_ok-cut.ensures.mode c.in_ok-cut.ensures.word c.in_ok-cut.ensures.words ∙ so_far,
      top.1,
      omega arith,
    )
