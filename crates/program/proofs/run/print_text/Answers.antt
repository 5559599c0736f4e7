use Rattle.std.proofs.Common.{Err, ap}
use Rattle.outside.proofs.Sending.{PutsCut-sends}
use Rattle.program.proofs.run.print_text.Goals as goal

pub returns-in-Err-Faulted-clause-ends : goal.returns-in-Err-Faulted-clause-ends
returns-in-Err-Faulted-clause-ends g c =
    let cut = PutsCut-sends (c.in-Err-Faulted.ensures.cut (ap Err c.in-Err-Faulted.field-0-is)) in
    record { serial = tt; whole = tt; part = rw (c.in-Ok.ensures, c.as_bytes.ensures, c.in-Ok-text_for.ensures) at cut }
