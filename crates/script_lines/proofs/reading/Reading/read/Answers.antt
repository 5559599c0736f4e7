use Rattle.std.proofs.Common.{◌∙◌, ◌+◌, ◌<◌, ◌++◌, drop, length, get_or, ap, arith}
use Rattle.std.proofs.lemmas.List.{drop_more}
use Rattle.script_lines.specs.Reading.{mode_beyond}
use Rattle.script_lines.proofs.ReadingLemmas.{read_more}
use Rattle.script_lines.proofs.reading.Reading.read.Goals as goal

pub loop-byte-preserved : goal.loop-byte-preserved
loop-byte-preserved c = λ text.
    let bytes = c.args.bytes.now in
    let i = c.loop-byte.byte-index in
    let was = c.loop-byte.self in
    let within : i < length bytes = omega arith in
    c.loop-byte.invariant text
    ∙ ap (λ t. mode_beyond was.mode was.opened (t ++ text)) (drop_more bytes i 0 within)
    ∙ read_more was.mode c.step.new.self.mode was.opened c.step.new.self.opened (get_or bytes i 0) (drop (i + 1) bytes ++ text) c.in_ok-step.ensures.mode c.in_ok-step.ensures.opened
