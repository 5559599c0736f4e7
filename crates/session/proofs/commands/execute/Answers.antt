use Rattle.std.proofs.Common.{ℕ, Option, List, Ok, subst}
use Rattle.meaning.specs.declared.going.Going.{Going}
use Rattle.meaning.specs.Causes.{Counted}
use Rattle.meaning.specs.Commands.{carried_out, changes_system}
use Rattle.meaning.specs.Sends.{Executes}
use Rattle.outside.specs.declared.files.File.{File}
use Rattle.session.proofs.KnownLemmas.{forgets_counted, forgets_quit, forgets_refused}
use Rattle.session.proofs.commands.execute.Goals as goal

pub returns-in-Ok-Quit-clause-does : goal.returns-in-Ok-Quit-clause-does
returns-in-Ok-Quit-clause-does g c =
    λ (files : List File) told.
    let sent = (g.P.Press.seen c.args.press.now).sent in
    let new = (g.P.Press.seen c.carry_out.new.press).sent in
    let meant = carried_out files c.args.command c.args.settings.now in
    forgets_quit (changes_system c.args.command) meant sent new c.carry_out.new.settings
    (subst (λ (going : Going). Executes meant sent (Ok going) new c.carry_out.new.settings) c.in-Ok-Quit.field-0-is (c.in-Ok-Quit.ensures.does files told))

pub returns-in-Ok-Quit-clause-counted : goal.returns-in-Ok-Quit-clause-counted
returns-in-Ok-Quit-clause-counted g c =
    λ (files : List File) told.
    let meant = carried_out files c.args.command c.args.settings.now in
    forgets_counted (changes_system c.args.command) meant c.args.steps.now c.carry_out.new.steps _
    (subst (λ (going : Going). Counted {T = Going} meant.pairs c.args.steps.now (Ok going) c.carry_out.new.steps) c.in-Ok-Quit.field-0-is (c.in-Ok-Quit.ensures.counted files told))

pub returns-in-Err-clause-does : goal.returns-in-Err-clause-does
returns-in-Err-clause-does g c =
    λ (files : List File) told.
    forgets_refused (changes_system c.args.command) c.in-Err.why (carried_out files c.args.command c.args.settings.now) (g.P.Press.seen c.args.press.now).sent (g.P.Press.seen c.carry_out.new.press).sent c.carry_out.new.settings (c.in-Err.ensures.does files told)

pub returns-in-Err-clause-counted : goal.returns-in-Err-clause-counted
returns-in-Err-clause-counted g c =
    λ (files : List File) told.
    forgets_counted (changes_system c.args.command) (carried_out files c.args.command c.args.settings.now) c.args.steps.now c.carry_out.new.steps _ (c.in-Err.ensures.counted files told)
