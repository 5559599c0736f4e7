use Rattle.std.proofs.Common.{sym, subst, rules}
use Rattle.serial_step.specs.Step.{State}
use Rattle.step_engine.specs.Engine.{World}
use Rattle.step_engine.specs.Ranges.{IsState}
use Rattle.step_engine.proofs.StateLemmas.{renew_ready}
use Rattle.step_engine.proofs.engine.Engine.drift.Goals as goal

pub returns-then-renews-clause-ready : goal.returns-then-renews-clause-ready
returns-then-renews-clause-ready c =
    let e = c.self.inside in
    let state : State = record { step = e.step; atoms = e.atoms.items; references = e.references.items; builds = e.builds } in
    let sound : IsState e.rules state = subst (λ (w : World). IsState w.rules w.state) (sym c.self.view_is) c.requires.state in
    renew_ready e.rules state e.atoms.len e.references.len c.drift-fault.new.atoms c.deref-then-renews.result.now c.renew.new.references sound (search rules) (c.drift-fault.ensures.sound (search rules)) (search rules) (search rules) c.renew.ensures c.deref-then-renews.ensures.value (search rules) (search rules)
