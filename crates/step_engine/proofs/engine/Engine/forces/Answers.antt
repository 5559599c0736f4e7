use Rattle.std.proofs.Common.{◌≡◌, sym, subst, rules, All, IfOk, List, length}
use Rattle.box_geo.specs.declared.atoms.Atom.{Atom}
use Rattle.serial_step.specs.Step.{State}
use Rattle.step_engine.specs.Engine.{World}
use Rattle.step_engine.specs.Ranges.{AreRules, IsPlaced, IsSmall, IsState}
use Rattle.step_engine.proofs.SmallLemmas.{tally_small}
use Rattle.step_engine.proofs.StateLemmas.{forces_ready}
use Rattle.step_engine.proofs.engine.Engine.forces.Goals as goal

pub returns-clause-ready : goal.returns-clause-ready
returns-clause-ready g c =
    let e = c.self.inside in
    let state : State = record { step = e.step; atoms = e.atoms.items; references = e.references.items; builds = e.builds } in
    let sound : IsState e.rules state = subst (λ (w : World). IsState w.rules w.state) (sym c.self.view_is) c.requires.state in
    forces_ready c.evaluate_forces.result e.rules state e.atoms.len c.deref_mut.result.now c.evaluate_forces.new.atoms sound c.deref_mut.ensures.value (search rules) (search rules) c.evaluate_forces.ensures.forces c.evaluate_forces.ensures.range

pub returns-clause-small : goal.returns-clause-small
returns-clause-small g c =
    let e = c.self.inside in
    let state : State = record { step = e.step; atoms = e.atoms.items; references = e.references.items; builds = e.builds } in
    let sound : IsState e.rules state = subst (λ (w : World). IsState w.rules w.state) (sym c.self.view_is) c.requires.state in
    let rules : AreRules e.rules = subst (λ (w : World). AreRules w.rules) (sym c.self.view_is) c.requires.rules in
    let lent : List Atom = c.deref_mut.result.now in
    let same : lent ≡ e.atoms.items = c.deref_mut.ensures.value in
    let placed : All (IsPlaced e.rules.field.pairs e.rules.cell.sides) lent = subst (λ (xs : List Atom). All (IsPlaced e.rules.field.pairs e.rules.cell.sides) xs) (sym same) sound.atoms.placed in
    subst (λ (w : World). IfOk c.evaluate_forces.result (IsSmall w.rules.cell.sides (length w.state.atoms))) c.self.view_is
    (subst (λ (xs : List Atom). IfOk c.evaluate_forces.result (IsSmall e.rules.cell.sides (length xs))) same
    (tally_small c.evaluate_forces.result e.rules.field.pairs e.rules.cell.sides lent c.evaluate_forces.ensures.sums rules.field.finished placed))
