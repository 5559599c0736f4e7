-- What the parts of a step keep.
use Rattle.std.proofs.Common.{◌≡◌, ◌+◌, ◌<◌, ◌≤◌, ◌^◌, ◌++◌, ℕ, ℤ, ◌+ℤ◌, None, Result, Ok, Err, List, take, drop, length, All, OnOk, sym, ap, subst, ◌∙◌, arith}
use Rattle.std.proofs.lemmas.Grind.{common_steps}
use Rattle.std.proofs.lemmas.List.Elements.{All-map, All-same}
use Rattle.box_geo.specs.declared.atoms.Atom.{Atom}
use Rattle.box_geo.specs.declared.atoms.System.{System}
use Rattle.box_geo.specs.declared.limits.TheConstants.{MAX_STEP}
use Rattle.box_geo.specs.declared.sim_box.Sides.{Sides}
use Rattle.box_geo.specs.Sides.{IsInside}
use Rattle.serial_step.specs.Forces.{Field, field_of, force_on, with_force, with_forces}
use Rattle.serial_step.specs.Rebuild.{positions}
use Rattle.serial_step.specs.Room.{edge_too_small}
use Rattle.serial_step.specs.Step.{State}
use Rattle.step_engine.specs.declared.rules.ForceField.{ForceField}
use Rattle.step_engine.specs.declared.rules.Rules.{Rules}
use Rattle.step_engine.specs.Engine.{rules_of}
use Rattle.step_engine.specs.Ranges.{AreAtoms, AreRules, HasMass, IsForceField, IsPlaced, IsSkin, IsState, IsTimestep, IsWithin}

-- what a call wrote over a whole list
pub written : {X : Type 0} (n : ℕ) (new old : List X) → length new ≡ length old → length old ≡ n → take n (new ++ drop (length new) old) ≡ new
written n new old same size = grind (arith, common_steps)

-- atoms with other forces
unfoldable Stays : Rules → Atom → Type 0
Stays r a = IsPlaced r.field.pairs r.cell.sides a × HasMass r.mass a.kind × IsWithin (2 ^ 32) a.v × IsWithin (2 ^ 40) a.image

length-with_forces : (field : Field) (s : Sides) (atoms : List Atom) → length (with_forces field s atoms) ≡ length atoms
unfolding with_forces
length-with_forces field s atoms = grind (arith, common_steps)

stay : (r : Rules) (field : Field) (s : Sides) (atoms : List Atom) → AreAtoms r atoms → All (Stays r) (with_forces field s atoms)
unfolding with_forces Stays
stay r field s atoms h = All-map (Stays r) (λ a. with_force a (force_on field s atoms a)) atoms (λ k d lt.
    let p = h.placed k d lt in
    let m = h.movable k d lt in
    (record { inside = p.inside; kind = p.kind; id = p.id }, m.massive, m.v, m.image))

pub forced : (r : Rules) (field : Field) (s : Sides) (atoms new : List Atom) → AreAtoms r atoms → new ≡ with_forces field s atoms → All (λ a. IsWithin (2 ^ 44) a.f) new → AreAtoms r new
unfolding Stays
forced r field s atoms new h is range =
    let stays : All (Stays r) new = All-same (Stays r) new (with_forces field s atoms) is (stay r field s atoms h) in
    record {
      few = omega (arith, ap length is, length-with_forces field s atoms, h.few);
      placed = λ k d lt. (stays k d lt).0;
      movable = λ k d lt. record { massive = (stays k d lt).1; v = (stays k d lt).2; f = range k d lt; image = (stays k d lt).3 };
    }

-- a state with other atoms
pub with_new : (r : Rules) (s : State) (atoms : List Atom) → IsState r s → AreAtoms r atoms → length atoms ≡ length s.atoms → IsState r record s { atoms = atoms }
with_new r s atoms h new size = record { step = h.step; atoms = new; references = h.references ∙ sym size; inside = h.inside; builds = h.builds }

-- the positions of atoms as references
inside_all : (r : Rules) (atoms : List Atom) → AreAtoms r atoms → All (IsInside r.cell.sides) (positions atoms)
inside_all r atoms h = All-map (IsInside r.cell.sides) (λ a. a.x) atoms (λ k d lt. (h.placed k d lt).inside)

pub renewed : (r : Rules) (s : State) (atoms : List Atom) → IsState r s → s.step < MAX_STEP → AreAtoms r atoms → IsState r record { step = s.step + 1; atoms = atoms; references = positions atoms; builds = s.builds + 1 }
renewed r s atoms h below new = record {
  step = omega arith;
  atoms = new;
  references = grind (arith, common_steps);
  inside = inside_all r atoms new;
  builds = omega (arith, h.builds);
}

-- the first state
pub started : (system : System) (field : ForceField) (skin : ℤ) (atoms : List Atom) (references : List (List ℤ)) → IsForceField field → IsSkin skin → IsTimestep system.dt → system.step ≤ MAX_STEP → AreAtoms (rules_of system field skin) system.atoms → edge_too_small system.cell.sides (field.rcmax +ℤ skin) ≡ None → atoms ≡ system.atoms → references ≡ positions system.atoms → AreRules (rules_of system field skin) × IsState (rules_of system field skin) record { step = system.step; atoms = atoms; references = references; builds = 0 }
started system field skin atoms references f s dt step a room same at =
    let r : Rules = rules_of system field skin in
    let new : AreAtoms r atoms = subst (λ (xs : List Atom). AreAtoms r xs) (sym same) a in
    let at_atoms : references ≡ positions atoms = at ∙ ap positions (sym same) in (
      record { field = f; dt = dt; skin = s; room = room },
      record {
        step = step;
        atoms = new;
        references = ap length at_atoms ∙ grind (arith, common_steps);
        inside = All-same (IsInside r.cell.sides) references (positions atoms) at_atoms (inside_all r atoms new);
        builds = omega arith;
      },
    )

-- the state after a call that wrote forces over the atoms
pub forces_ready : {T E : Type 0} (result : Result T E) (r : Rules) (s : State) (n : ℕ) (lent new : List Atom) → IsState r s → lent ≡ s.atoms → length new ≡ length s.atoms → length s.atoms ≡ n → OnOk result (new ≡ with_forces (field_of r.field.pairs.pairs) r.cell.sides lent) → OnOk result (All (λ a. IsWithin (2 ^ 44) a.f) new) → OnOk result (IsState r record s { atoms = take n (new ++ drop (length new) s.atoms) })
forces_ready (Err e) r s n lent new h same size len is range = tt
forces_ready (Ok t) r s n lent new h same size len is range =
    let sound : AreAtoms r new = forced r (field_of r.field.pairs.pairs) r.cell.sides s.atoms new h.atoms (is ∙ ap (with_forces (field_of r.field.pairs.pairs) r.cell.sides) same) range in
    subst (λ (xs : List Atom). IsState r record s { atoms = xs }) (sym (written n new s.atoms size len)) (with_new r s new h sound size)

-- the state after calls that wrote over the atoms and then their positions over the references
pub renew_ready : (r : Rules) (s : State) (n m : ℕ) (atoms lent : List Atom) (references : List (List ℤ)) → IsState r s → s.step < MAX_STEP → AreAtoms r atoms → length atoms ≡ length s.atoms → length s.atoms ≡ n → references ≡ positions lent → lent ≡ take n (atoms ++ drop (length atoms) s.atoms) → length references ≡ length s.references → length s.references ≡ m → IsState r record { step = s.step + 1; atoms = take n (atoms ++ drop (length atoms) s.atoms); references = take m (references ++ drop (length references) s.references); builds = s.builds + 1 }
renew_ready r s n m atoms lent references h below sound size len is read same at =
    let first : take n (atoms ++ drop (length atoms) s.atoms) ≡ atoms = written n atoms s.atoms size len in
    let second : take m (references ++ drop (length references) s.references) ≡ positions atoms = written m references s.references same at ∙ is ∙ ap positions (read ∙ first) in
    subst (λ (xs : List Atom). IsState r record { step = s.step + 1; atoms = xs; references = take m (references ++ drop (length references) s.references); builds = s.builds + 1 }) (sym first)
    (subst (λ (xs : List (List ℤ)). IsState r record { step = s.step + 1; atoms = atoms; references = xs; builds = s.builds + 1 }) (sym second)
    (renewed r s atoms h below sound))
