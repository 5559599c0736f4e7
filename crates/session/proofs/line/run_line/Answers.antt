use Rattle.std.proofs.Common.{List}
use Rattle.meaning.specs.Lines.{line_command}
use Rattle.outside.specs.declared.files.File.{File}
use Rattle.session.proofs.MoveLemmas.{unread_moves}
use Rattle.session.proofs.line.run_line.Goals as goal

pub returns-in-Err-clause-does : goal.returns-in-Err-clause-does
returns-in-Err-clause-does g c =
    λ (files : List File) told.
    unread_moves files c.args.settings.now c.args.progress.now (line_command c.args.settings.now c.args.words.now) c.in-Err.why (g.P.Press.seen c.args.press.now).sent c.in-Err.ensures.is

pub returns-in-Err-clause-cause : goal.returns-in-Err-clause-cause
returns-in-Err-clause-cause g c = c.in-Err.ensures.idle.rests _ _
