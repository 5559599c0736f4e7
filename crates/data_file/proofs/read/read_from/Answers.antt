use Rattle.std.proofs.Common.{◌≡◌, ◌∙◌, [], sym, ap, arith}
use Rattle.std.proofs.lemmas.Bool.Decides.{nat_tests}
use Rattle.std.proofs.lemmas.List.{nil_from_length}
use Rattle.data_file.specs.Data.{read_lines, read_text}
use Rattle.script_lines.specs.Physical.{physical_lines}
use Rattle.data_file.proofs.ReadLemmas.{end_reads, goes_reads, stop_reads}
use Rattle.data_file.proofs.read.read_from.Goals as goal

pub returns-in-Err : goal.returns-in-Err
returns-in-Err c =
    rw c.refusal.ensures (stop_reads (Unit {0}) (read_text c.args.reading (physical_lines c.args.bytes.now)) c.first_line.result.bytes.now (physical_lines c.first_line.result.after.now) c.lines.number c.lines.reading c.take_line.new.reading c.in-Err.why
    (sym c.lines.invariant.same ∙ ap (λ ls. read_lines ls c.lines.number c.lines.reading) c.first_line.ensures.lines) c.in-Err.ensures)

pub lines-preserved : goal.lines-preserved
lines-preserved c = record {
  same = sym (goes_reads c.first_line.result.bytes.now (physical_lines c.first_line.result.after.now) c.lines.number c.lines.reading _ c.in-Ok.ensures)
      ∙ sym (ap (λ ls. read_lines ls c.lines.number c.lines.reading) c.first_line.ensures.lines) ∙ c.lines.invariant.same;
  few = omega (arith, c.first_line.ensures.farther);
}

pub returns-in-Err-finished : goal.returns-in-Err-finished
returns-in-Err-finished c =
    let nil : c.lines.rest.now ≡ [] = nil_from_length c.lines.rest.now (grind (arith, nat_tests, c.lines-test.false)) in
    rw c.refusal-in-Err-finished.ensures (end_reads (read_text c.args.reading (physical_lines c.args.bytes.now)) c.lines.number c.lines.reading c.in-Err-finished.why
    (sym c.lines.invariant.same ∙ ap (λ r. read_lines (physical_lines r) c.lines.number c.lines.reading) nil) c.in-Err-finished.ensures)
