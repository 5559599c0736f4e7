-- The serial step and set-up, on one list of atoms in rising order of id, and its fault: the least word of the first phase that has one.
use Rattle.std.specs.Prelude.{◌+◌, ◌^◌, ◌-◌, ◌==◌, ◌||◌, Bool, true, false, cond, nat_lt, ℕ, ℤ, pos, ◌+ℤ◌, ◌*ℤ◌, unsigned_abs, slice_index_or, Result, Ok, Err, List, [], ◌∷◌, map}
use Rattle.fx_num.specs.Rounding.{div_rounded, shr_rounded}
use Rattle.box_geo.specs.declared.atoms.Atom.{Atom}
use Rattle.box_geo.specs.declared.sim_box.Axis.{Axis}
use Rattle.box_geo.specs.declared.sim_box.Sides.{Sides}
use Rattle.box_geo.specs.declared.fault.FaultPhase.TheVariants.{Drift, Kick}
use Rattle.box_geo.specs.declared.fault.FaultKind.TheVariants as kind
use Rattle.box_geo.specs.Fault.{no_fault, phase_number, kind_number}
use Rattle.box_geo.specs.Sides.{x_of, y_of, z_of}
use Rattle.box_geo.specs.Wrap.{Wrapped, wrap}
use Rattle.serial_step.specs.Forces.{Field, forces_fault, least, pair_energy, pair_virial, with_forces, word}
use Rattle.serial_step.specs.Rebuild.{neighbour_pairs, positions, renews}

-- what stands still in a run: the field, the box, the timestep, the mass of each type, the skin, the greatest cutoff, and which ids a fix moves
pub record Setting : Type 0 where
  pub field : Field
  pub sides : Sides
  pub dt : ℤ
  pub mass : List ℤ
  pub skin : ℕ
  pub cutoff : ℕ
  pub moves : ℕ → Bool

-- what a step changes
pub record State : Type 0 where
  pub step : ℕ
  pub atoms : List Atom
  pub references : List (List ℤ)
  pub builds : ℕ

-- the sums of an evaluation of forces
pub record Sums : Type 0 where
  pub pair : ℤ
  pub virial : ℤ

-- a step or set-up: the word of its fault, the state after it and its sums. After a fault only the word counts.
pub record Outcome : Type 0 where
  pub fault : ℕ
  pub state : State
  pub sums : Sums

abbrev pub mass_of : Setting → Atom → ℤ
mass_of t a = slice_index_or t.mass (a.kind - 1) (pos 1)

-- half a step of acceleration: dt·f / 2m
abbrev pub kicked_along : ℤ → ℤ → ℤ → ℤ → ℤ
kicked_along dt mass v f = v +ℤ div_rounded (dt *ℤ f) (pos 2 *ℤ mass)

abbrev pub kicked : Setting → Atom → List ℤ
kicked t a =
    kicked_along t.dt (mass_of t a) (x_of a.v) (x_of a.f)
    ∷ kicked_along t.dt (mass_of t a) (y_of a.v) (y_of a.f)
    ∷ kicked_along t.dt (mass_of t a) (z_of a.v) (z_of a.f)
    ∷ []

abbrev pub is_too_fast : List ℤ → Bool
is_too_fast v = nat_lt (2 ^ 32) (unsigned_abs (x_of v)) || nat_lt (2 ^ 32) (unsigned_abs (y_of v)) || nat_lt (2 ^ 32) (unsigned_abs (z_of v))

-- a step of motion: x + dt·v
abbrev pub moved_along : ℤ → ℤ → ℤ → ℤ
moved_along dt x v = x +ℤ shr_rounded (dt *ℤ v) 24

abbrev pub moved : Setting → Atom → List ℤ → List ℤ
moved t a v = moved_along t.dt (x_of a.x) (x_of v) ∷ moved_along t.dt (y_of a.x) (y_of v) ∷ moved_along t.dt (z_of a.x) (z_of v) ∷ []

abbrev pub counted : List ℤ → List ℤ → List ℤ
counted image edges = (x_of image +ℤ x_of edges) ∷ (y_of image +ℤ y_of edges) ∷ (z_of image +ℤ z_of edges) ∷ []

abbrev pub is_counted_out : List ℤ → Bool
is_counted_out image = nat_lt (2 ^ 40) (unsigned_abs (x_of image)) || nat_lt (2 ^ 40) (unsigned_abs (y_of image)) || nat_lt (2 ^ 40) (unsigned_abs (z_of image))

-- an atom after a part of a step, and the word of its fault
pub record After : Type 0 where
  pub atom : Atom
  pub fault : ℕ

abbrev pub settled_atom : Atom → List ℤ → Wrapped → After
settled_atom a v w =
    record {
      atom = record a { v = v; x = w.x; image = counted a.image w.edges };
      fault = cond (is_counted_out (counted a.image w.edges)) (word (phase_number Drift) (kind_number kind.Image) a.id 0) no_fault;
    }

abbrev pub wrapped_atom : Atom → List ℤ → Result Wrapped Axis → After
wrapped_atom a v (Ok w) = settled_atom a v w
wrapped_atom a v (Err axis) = record { atom = record a { v = v }; fault = word (phase_number Drift) (kind_number kind.Lost) a.id 0 }

-- the first kick and the drift of an atom. One that is too fast is not drifted.
abbrev pub drifted_at : Setting → Atom → List ℤ → Bool → After
drifted_at t a v true = record { atom = record a { v = v }; fault = word (phase_number Drift) (kind_number kind.Speed) a.id 0 }
drifted_at t a v false = wrapped_atom a v (wrap t.sides (moved t a v))

abbrev pub drifted_if : Setting → Atom → Bool → After
drifted_if t a true = drifted_at t a (kicked t a) (is_too_fast (kicked t a))
drifted_if t a false = record { atom = a; fault = no_fault }

unfoldable pub drifted : Setting → Atom → After
drifted t a = drifted_if t a (t.moves a.id)

-- the second kick of an atom
abbrev pub kicked_if : Setting → Atom → Bool → After
kicked_if t a true =
    record {
      atom = record a { v = kicked t a };
      fault = cond (is_too_fast (kicked t a)) (word (phase_number Kick) (kind_number kind.Speed) a.id 0) no_fault;
    }
kicked_if t a false = record { atom = a; fault = no_fault }

unfoldable pub kicked_again : Setting → Atom → After
kicked_again t a = kicked_if t a (t.moves a.id)

abbrev pub atoms_of : List After → List Atom
atoms_of list = map (λ a. a.atom) list

abbrev pub fault_of : List After → ℕ
fault_of list = least (map (λ a. a.fault) list)

-- the fault of the first phase that has one
abbrev pub first_fault : ℕ → ℕ → ℕ
first_fault earlier later = cond (earlier == no_fault) later earlier

-- the references after a drift
abbrev pub referenced : Setting → State → List Atom → State
referenced t state atoms =
    let again : Bool = renews t.sides t.skin (positions atoms) state.references in
    record {
      step = state.step + 1;
      atoms = atoms;
      references = cond again (positions atoms) state.references;
      builds = cond again (state.builds + 1) state.builds;
    }

abbrev pub sums_of : Setting → List Atom → Sums
sums_of t atoms = record { pair = pair_energy t.field t.sides atoms; virial = pair_virial t.field t.sides atoms }

-- kick and drift, the rebuild check, the forces, the second kick
unfoldable pub serial_step : Setting → State → Outcome
serial_step t state =
    let first : List After = map (drifted t) state.atoms in
    let drift : State = referenced t state (atoms_of first) in
    let forced : List Atom = with_forces t.field t.sides drift.atoms in
    let second : List After = map (kicked_again t) forced in
    record {
      fault = first_fault (fault_of first) (first_fault (forces_fault t.field t.sides drift.atoms) (fault_of second));
      state = record drift { atoms = atoms_of second };
      sums = sums_of t drift.atoms;
    }

-- set-up: the forces, with the present positions as references
unfoldable pub set_up : Setting → ℕ → List Atom → Outcome
set_up t step atoms =
    record {
      fault = forces_fault t.field t.sides atoms;
      state = record { step = step; atoms = with_forces t.field t.sides atoms; references = positions atoms; builds = 0 };
      sums = sums_of t atoms;
    }

-- the two numbers of the footer
abbrev pub counts : Setting → State → ℕ × ℕ
counts t state = (neighbour_pairs t.sides (t.cutoff + t.skin) state.references, state.builds)
