-- A run keeps the ids of its atoms.
use Rattle.std.proofs.Common.{◌≡◌, ◌==◌, ◌-◌, Bool, true, false, ℕ, zero, suc, ℤ, Result, Ok, Err, List, [], ◌∷◌, map, refl, ◌∙◌}
use Rattle.box_geo.specs.declared.atoms.Atom.{Atom}
use Rattle.box_geo.specs.declared.sim_box.Axis.{Axis}
use Rattle.box_geo.specs.declared.sim_box.Sides.{Sides}
use Rattle.box_geo.specs.Fault.{no_fault}
use Rattle.box_geo.specs.Wrap.{Wrapped, wrap}
use Rattle.meaning.specs.declared.output.Output.{Output}
use Rattle.meaning.specs.declared.uses.NameUse.{NameUse}
use Rattle.meaning.specs.MassesGroups.{ids_of}
use Rattle.meaning.specs.Runs.{Ran, Snapshot, after_set_up, after_step, run_from, run_of, snapshot}
use Rattle.serial_step.specs.Forces.{Field, force_on, with_force, with_forces}
use Rattle.serial_step.specs.Step.{Outcome as StepOutcome, Setting, State, atoms_of, drifted, drifted_at, drifted_if, is_too_fast, kicked, kicked_again, kicked_if, moved, serial_step, set_up, wrapped_atom}

forced_ids : (f : Field) (s : Sides) (all atoms : List Atom) → ids_of (map (λ a. with_force a (force_on f s all a)) atoms) ≡ ids_of atoms
forced_ids f s all [] = refl
forced_ids f s all (a ∷ atoms) = let rest = forced_ids f s all atoms in cc

with_forces_ids : (f : Field) (s : Sides) (atoms : List Atom) → ids_of (with_forces f s atoms) ≡ ids_of atoms
unfolding with_forces
with_forces_ids f s atoms = forced_ids f s atoms atoms

wrapped_id : (a : Atom) (v : List ℤ) (w : Result Wrapped Axis) → (wrapped_atom a v w).atom.id ≡ a.id
wrapped_id a v (Ok w) = refl
wrapped_id a v (Err axis) = refl

drifted_at_id : (t : Setting) (a : Atom) (v : List ℤ) (fast : Bool) → (drifted_at t a v fast).atom.id ≡ a.id
drifted_at_id t a v true = refl
drifted_at_id t a v false = wrapped_id a v (wrap t.sides (moved t a v))

drifted_if_id : (t : Setting) (a : Atom) (moves : Bool) → (drifted_if t a moves).atom.id ≡ a.id
drifted_if_id t a true = drifted_at_id t a (kicked t a) (is_too_fast (kicked t a))
drifted_if_id t a false = refl

kicked_if_id : (t : Setting) (a : Atom) (moves : Bool) → (kicked_if t a moves).atom.id ≡ a.id
kicked_if_id t a true = refl
kicked_if_id t a false = refl

drifted_ids : (t : Setting) (atoms : List Atom) → ids_of (atoms_of (map (drifted t) atoms)) ≡ ids_of atoms
unfolding drifted
drifted_ids t [] = refl
drifted_ids t (a ∷ atoms) = let first = drifted_if_id t a (t.moves a.id) in let rest = drifted_ids t atoms in cc

kicked_ids : (t : Setting) (atoms : List Atom) → ids_of (atoms_of (map (kicked_again t) atoms)) ≡ ids_of atoms
unfolding kicked_again
kicked_ids t [] = refl
kicked_ids t (a ∷ atoms) = let first = kicked_if_id t a (t.moves a.id) in let rest = kicked_ids t atoms in cc

step_ids : (t : Setting) (s : State) → ids_of (serial_step t s).state.atoms ≡ ids_of s.atoms
unfolding serial_step
step_ids t s =
    kicked_ids t (with_forces t.field t.sides (atoms_of (map (drifted t) s.atoms)))
    ∙ with_forces_ids t.field t.sides (atoms_of (map (drifted t) s.atoms))
    ∙ drifted_ids t s.atoms

set_up_ids : (t : Setting) (step : ℕ) (atoms : List Atom) → ids_of (set_up t step atoms).state.atoms ≡ ids_of atoms
unfolding set_up
set_up_ids t step atoms = with_forces_ids t.field t.sides atoms

-- what follows a step, if it has no fault
after_step_ids : (b : Bool) (t : Setting) (o : Output) (last : ℕ) (n : StepOutcome) (uses : List NameUse) (next : List NameUse → Ran) (ids : List ℕ) → ids_of n.state.atoms ≡ ids → ((u : List NameUse) → ids_of (next u).end.state.atoms ≡ ids) → ids_of (after_step t o last n uses next b).end.state.atoms ≡ ids
after_step_ids true t o last n uses next ids here rest = rest _
after_step_ids false t o last n uses next ids here rest = here

after_set_up_ids : (b : Bool) (t : Setting) (o : Output) (n : StepOutcome) (uses : List NameUse) (next : List NameUse → Ran) (ids : List ℕ) → ids_of n.state.atoms ≡ ids → ((u : List NameUse) → ids_of (next u).end.state.atoms ≡ ids) → ids_of (after_set_up t o n uses next b).end.state.atoms ≡ ids
after_set_up_ids true t o n uses next ids here rest = rest _
after_set_up_ids false t o n uses next ids here rest = here

run_from_ids : (t : Setting) (o : Output) (last left : ℕ) (s : Snapshot) (uses : List NameUse) → ids_of (run_from t o last left s uses).end.state.atoms ≡ ids_of s.state.atoms
unfolding run_from
run_from_ids t o last zero s uses = refl
run_from_ids t o last (suc left) s uses =
    let n : StepOutcome = serial_step t s.state in
    after_step_ids (n.fault == no_fault) t o last n uses (λ u. run_from t o last left (snapshot n) u) (ids_of s.state.atoms) (step_ids t s.state)
    (λ u. run_from_ids t o last left (snapshot n) u ∙ step_ids t s.state)

pub run_of_ids : (t : Setting) (o : Output) (last step : ℕ) (atoms : List Atom) (uses : List NameUse) → ids_of (run_of t o last step atoms uses).end.state.atoms ≡ ids_of atoms
unfolding run_of
run_of_ids t o last step atoms uses =
    let n : StepOutcome = set_up t step atoms in
    after_set_up_ids (n.fault == no_fault) t o n uses (λ u. run_from t o last (last - step) (snapshot n) u) (ids_of atoms) (set_up_ids t step atoms)
    (λ u. run_from_ids t o last (last - step) (snapshot n) u ∙ set_up_ids t step atoms)
