-- What an engine has from settings keeps to the ranges of a run, and makes the run that is meant.
use Rattle.std.proofs.Common.{◌≡◌, ⊎_elim, ◌^◌, ◌-◌, ◌<◌, ◌≤◌, true, ℕ, ℤ, pos, ◌≤ℤ◌, int_lt, unsigned_abs, Option, Some, None, Result, List, [], ◌∷◌, length, slice_index_or, refl, sym, ap, subst, ◌∙◌, arith}
use Rattle.std.specs.List.{All, AllByRecursion}
use Rattle.std.proofs.lemmas.Bool.Decides.{nat_tests}
use Rattle.std.proofs.lemmas.Int.{ints}
use Rattle.std.proofs.lemmas.List.Elements.{All-from_recursion, recursion_from_All}
use Rattle.std.proofs.lemmas.List.Sums.{AllPass-from_list_all}
use Rattle.box_geo.specs.declared.atoms.Angle.{Angle}
use Rattle.box_geo.specs.declared.atoms.Atom.{Atom}
use Rattle.box_geo.specs.declared.atoms.Bond.{Bond}
use Rattle.box_geo.specs.declared.atoms.System.{System}
use Rattle.box_geo.specs.declared.limits.TheConstants.{MAX_MASS, MIN_MASS}
use Rattle.box_geo.specs.declared.sim_box.Axis.{Axis}
use Rattle.box_geo.specs.declared.sim_box.Sides.{Sides}
use Rattle.box_geo.specs.Ids.{Rises}
use Rattle.fix_list.specs.declared.fixes.NamedFix.{NamedFix}
use Rattle.fx_num.specs.declared.numbers.Number.{Number}
use Rattle.fix_list.specs.Fixes.{moves}
use Rattle.meaning.specs.declared.force.Force.{Force}
use Rattle.meaning.specs.declared.output.Output.{Output}
use Rattle.meaning.specs.declared.refusal.Refusal.{Refusal}
use Rattle.meaning.specs.declared.settings.Body.{Body}
use Rattle.meaning.specs.declared.settings.Settings.{Settings}
use Rattle.meaning.specs.declared.uses.NameUse.{NameUse}
use Rattle.meaning.specs.Fixes.{fixes_over}
use Rattle.meaning.specs.MassesGroups.{are_massive, ids_of}
use Rattle.meaning.specs.Pairs.{reach_of}
use Rattle.meaning.specs.Runs.{Ran, ends_as, run_of, setting_of}
use Rattle.meaning.specs.Sound.{IsOfSetup, IsSoundAtom, IsSoundBody, IsSoundForce, IsSoundMass}
use Rattle.meaning.specs.Thermo.{numbers_of}
use Rattle.outside.specs.declared.press.Piece.{Piece}
use Rattle.pair_lj.specs.declared.pair_settings.PairCoefficients.{PairCoefficients}
use Rattle.pair_lj.specs.Pairs.{are_all_had}
use Rattle.pair_lj.specs.Table.{Table}
use Rattle.pair_lj.proofs.TypeLemmas.{pair_is_had}
use Rattle.script_runs.specs.Engines.{IsEngineOf, IsTableOf}
use Rattle.script_runs.specs.Line.{sums_in}
use Rattle.script_runs.specs.Parts.{Makes, stands}
use Rattle.script_runs.proofs.IdLemmas.{run_of_ids}
use Rattle.script_runs.proofs.TableLemmas.{all_reached, some_reach}
use Rattle.serial_step.specs.Forces.{field_of}
use Rattle.serial_step.specs.Pairs.{IsReach}
use Rattle.serial_step.specs.Rebuild.{positions}
use Rattle.serial_step.specs.Room.{edge_too_small}
use Rattle.serial_step.specs.Step.{Setting, State}
use Rattle.step_engine.specs.Engine.{World, setting_of as engine_setting, world_of}
use Rattle.step_engine.specs.Ranges.{AreAtoms, AreRules, HasMass, IsForceField, IsMovable, IsPlaced, IsState}
use Rattle.step_engine.specs.declared.tally.Tally.{Tally}
use Rattle.step_engine.specs.declared.rules.ForceField.{ForceField}
use Rattle.step_engine.specs.declared.rules.Rules.{Rules}

-- a force field of a table of the pairs that are set
pub field_ready : (kinds : ℕ) (force : Force) (table : Table) (rcmax : ℤ) → IsSoundForce force → IsTableOf kinds force table → rcmax ≡ pos (reach_of force) → are_all_had kinds force.pairs ≡ true → 1 ≤ kinds → reach_of force ≤ 2 ^ 28
    → IsForceField record { pairs = table; rcmax = rcmax }
field_ready kinds force table rcmax sound is reach all some high =
    let low : 0 < reach_of force = some_reach force 1 1 (recursion_from_All _ force.pairs sound.pairs) (pair_is_had kinds force.pairs 1 1 all (omega arith) some (omega arith) some) in
    record {
      finished = is.finished;
      low = omega (arith, ints, reach);
      high = omega (arith, ints, reach);
      reach = subst (λ (pairs : List PairCoefficients). IsReach (field_of pairs) (unsigned_abs rcmax)) (sym is.pairs_are)
          (subst (λ (n : ℕ). IsReach (field_of force.pairs) n) (sym (ap unsigned_abs reach)) (all_reached force));
    }

-- atoms of a body are placed, and may be moved
placed : (table : Table) (b : Body) → table.kinds ≡ length b.mass → IsSoundBody b → All (IsPlaced table b.sides) b.atoms
placed table b size sound = λ k d lt.
    let a : IsSoundAtom b.sides (length b.mass) (slice_index_or b.atoms k d) = sound.atoms k d lt in
    record { inside = a.inside; kind = (a.kind_low, omega (arith, a.kind_high, size)); id = a.id_high }

mass_within : (m : ℤ) → IsSoundMass m → int_lt (pos 0) m ≡ true → (MIN_MASS ≤ℤ m) × (m ≤ℤ MAX_MASS)
mass_within m sound some = ⊎_elim (λ (none : m ≡ pos 0). absurd (grind (arith, ints, nat_tests))) (λ within. within) sound

massive : (mass : List ℤ) (kind : ℕ) → 1 ≤ kind → kind ≤ length mass → All IsSoundMass mass → are_massive mass ≡ true → HasMass mass kind
massive mass kind low high sound some =
    let below : kind - 1 < length mass = omega arith in
    let within = mass_within (slice_index_or mass (kind - 1) (pos 1)) (sound (kind - 1) (pos 1) below) (AllPass-from_list_all (λ m. int_lt (pos 0) m) mass some (kind - 1) (pos 1) below) in
    (low, high, within.0, within.1)

movable : (b : Body) → IsSoundBody b → are_massive b.mass ≡ true → All (IsMovable b.mass) b.atoms
movable b sound some = λ k d lt.
    let a : IsSoundAtom b.sides (length b.mass) (slice_index_or b.atoms k d) = sound.atoms k d lt in
    record { massive = massive b.mass (slice_index_or b.atoms k d).kind a.kind_low a.kind_high sound.mass some; v = a.v; f = a.f; image = a.image }

pub atoms_ready : (r : Rules) (b : Body) (atoms : List Atom) → r.field.pairs.kinds ≡ length b.mass → r.cell.sides ≡ b.sides → r.mass ≡ b.mass → atoms ≡ b.atoms → IsSoundBody b → are_massive b.mass ≡ true → AreAtoms r atoms
atoms_ready r b atoms size sides mass are sound some =
    subst (λ (list : List Atom). AreAtoms r list) (sym are)
    record {
      few = sound.few;
      placed = subst (λ (s : Sides). All (IsPlaced r.field.pairs s) b.atoms) (sym sides) (placed r.field.pairs b size sound);
      movable = subst (λ (m : List ℤ). All (IsMovable m) b.atoms) (sym mass) (movable b sound some);
    }

-- an engine that was made
pub engine_is : (force : Force) (dt : ℤ) (kinds : ℕ) (b : Body) (system : System) (field : ForceField) (skin : ℤ) (w : World) → w ≡ world_of system field skin → AreRules w.rules × IsState w.rules w.state → IsTableOf kinds force field.pairs
    → system.cell.sides ≡ b.sides → system.dt ≡ dt → system.mass ≡ b.mass → skin ≡ force.skin → field.rcmax ≡ pos (reach_of force) → system.step ≡ b.step → system.atoms ≡ b.atoms → system.bonds ≡ b.bonds → system.angles ≡ b.angles → IsEngineOf force dt kinds b w
engine_is force dt kinds b system field skin w made ready table sides timestep mass same reach step atoms bonds angles =
    record {
      rules = ready.0;
      state = ready.1;
      table = subst (λ (x : World). IsTableOf kinds force x.rules.field.pairs) (sym made) table;
      sides = ap (λ (x : World). x.rules.cell.sides) made ∙ sides;
      timestep = ap (λ (x : World). x.rules.dt) made ∙ timestep;
      mass = ap (λ (x : World). x.rules.mass) made ∙ mass;
      skin = ap (λ (x : World). unsigned_abs x.rules.skin) made ∙ ap unsigned_abs same;
      reach = ap (λ (x : World). unsigned_abs x.rules.field.rcmax) made ∙ ap unsigned_abs reach;
      step = ap (λ (x : World). x.state.step) made ∙ step;
      atoms = ap (λ (x : World). x.state.atoms) made ∙ atoms;
      references = ap (λ (x : World). x.state.references) made ∙ sym (ap (λ (x : World). positions x.state.atoms) made);
      builds = ap (λ (x : World). x.state.builds) made;
      bonds = ap (λ (x : World). x.bonds) made ∙ bonds;
      angles = ap (λ (x : World). x.angles) made ∙ angles;
    }

-- a box that has room is not too small
pub has_room : (s t : Sides) (reach room : ℤ) (axis : Axis) → s ≡ t → reach ≡ room → edge_too_small t room ≡ None → edge_too_small s reach ≡ Some axis → ⊥
has_room s t reach room axis same equal none small =
    let as_meant : edge_too_small s reach ≡ edge_too_small t room = ap (λ (x : Sides). edge_too_small x reach) same ∙ ap (edge_too_small t) equal in
    cc

-- the engine makes the run that is meant
setting_same : (s : Settings) (b : Body) (kinds : ℕ) (w : World) (fixes : List NamedFix) → IsEngineOf s.force s.setup.timestep kinds b w → fixes ≡ fixes_over s.named.groups b.atoms s.named.fixes → engine_setting w.rules fixes ≡ setting_of s b
setting_same s b kinds w fixes is same =
    let pairs = is.table.pairs_are in
    let sides = is.sides in
    let dt = is.timestep in
    let mass = is.mass in
    let skin = is.skin in
    let cutoff = is.reach in
    let which : moves fixes ≡ moves (fixes_over s.named.groups b.atoms s.named.fixes) = ap moves same in
    cc

pub run_same : (s : Settings) (b : Body) (kinds : ℕ) (w : World) (fixes : List NamedFix) (last : ℕ) → IsEngineOf s.force s.setup.timestep kinds b w → fixes ≡ fixes_over s.named.groups b.atoms s.named.fixes
    → run_of (engine_setting w.rules fixes) s.output last w.state.step w.state.atoms s.output.uses ≡ run_of (setting_of s b) s.output last b.step b.atoms s.output.uses
run_same s b kinds w fixes last is same =
    let o = s.output in
    ap (λ (t : Setting). run_of t o last w.state.step w.state.atoms o.uses) (setting_same s b kinds w fixes is same)
    ∙ ap (λ (n : ℕ). run_of (setting_of s b) o last n w.state.atoms o.uses) is.step
    ∙ ap (λ (atoms : List Atom). run_of (setting_of s b) o last b.step atoms o.uses) is.atoms

-- a body after a run is sound
low_ids : (atoms : List Atom) → AllByRecursion (λ (id : ℕ). 1 ≤ id) (ids_of atoms) → AllByRecursion (λ (a : Atom). 1 ≤ a.id) atoms
low_ids [] all = tt
low_ids (a ∷ atoms) all = (all.0, low_ids atoms all.1)

ids_low : (atoms : List Atom) → AllByRecursion (λ (a : Atom). 1 ≤ a.id) atoms → AllByRecursion (λ (id : ℕ). 1 ≤ id) (ids_of atoms)
ids_low [] all = tt
ids_low (a ∷ atoms) all = (all.0, ids_low atoms all.1)

still_low : (b : Body) (atoms : List Atom) → IsSoundBody b → ids_of atoms ≡ ids_of b.atoms → All (λ (a : Atom). 1 ≤ a.id) atoms
still_low b atoms sound same =
    All-from_recursion (λ (a : Atom). 1 ≤ a.id) atoms
    (low_ids atoms
    (subst (λ (ids : List ℕ). AllByRecursion (λ (id : ℕ). 1 ≤ id) ids) (sym same)
    (ids_low b.atoms (recursion_from_All (λ (a : Atom). 1 ≤ a.id) b.atoms (λ k d lt. (sound.atoms k d lt).id_low)))))

-- what is in the box of an engine
abbrev pub body_in : World → Body
body_in w = record { step = w.state.step; sides = w.rules.cell.sides; mass = w.rules.mass; atoms = w.state.atoms; bonds = w.bonds; angles = w.angles }

pub body_sound : (b : Body) (w : World) → IsSoundBody b → IsState w.rules w.state → w.rules.cell.sides ≡ b.sides → w.rules.mass ≡ b.mass → w.rules.field.pairs.kinds ≡ length b.mass → ids_of w.state.atoms ≡ ids_of b.atoms → w.bonds ≡ b.bonds → w.angles ≡ b.angles → IsSoundBody (body_in w)
body_sound b w sound fit sides mass size same bonds angles =
    let kinds : length w.rules.mass ≡ length b.mass = ap length mass in
    record {
      step = fit.step;
      sides = w.rules.cell.sound;
      some = omega (arith, kinds, sound.some);
      kinds = omega (arith, kinds, sound.kinds);
      mass = subst (λ (m : List ℤ). All IsSoundMass m) (sym mass) sound.mass;
      few = fit.atoms.few;
      atoms = λ k d lt.
          let p = fit.atoms.placed k d lt in
          let m = fit.atoms.movable k d lt in
          record {
            inside = p.inside;
            kind_low = p.kind.0;
            kind_high = omega (arith, p.kind.1, size, kinds);
            id_low = still_low b w.state.atoms sound same k d lt;
            id_high = p.id;
            v = m.v;
            f = m.f;
            image = m.image;
          };
      rising = subst (λ (ids : List ℕ). Rises ids) (sym same) sound.rising;
      bonds = bonds ∙ sound.bonds;
      angles = angles ∙ sound.angles;
    }

-- what the engine makes is what is meant
pub makes_meant : (s : Settings) (b : Body) (w : World) (fixes : List NamedFix) (last : ℕ) (dt : ℤ) (old new : Option (List Piece)) (before counted : ℕ) (r : Result Tally Refusal) (uses : List NameUse) (state : State) → dt ≡ s.setup.timestep → IsEngineOf s.force dt (length b.mass) b w
    → fixes ≡ fixes_over s.named.groups b.atoms s.named.fixes → Makes (run_of (engine_setting w.rules fixes) s.output last w.state.step w.state.atoms s.output.uses) old before r new counted uses state
    → Makes (run_of (setting_of s b) s.output last b.step b.atoms s.output.uses) old before r new counted uses state
makes_meant s b w fixes last dt old new before counted r uses state timestep is same h =
    let at : IsEngineOf s.force s.setup.timestep (length b.mass) b w = subst (λ (t : ℤ). IsEngineOf s.force t (length b.mass) b w) timestep is in
    subst (λ (meant : Ran). Makes meant old before r new counted uses state) (run_same s b (length b.mass) w fixes last at same) h

-- the settings after a run
with_parts : ℕ → Sides → List ℤ → List Atom → List Bond → List Angle → Body
with_parts step sides mass atoms bonds angles = record { step = step; sides = sides; mass = mass; atoms = atoms; bonds = bonds; angles = angles }

body_after : (force : Force) (dt : ℤ) (kinds : ℕ) (b after : Body) (w now : World) → IsEngineOf force dt kinds b w → now ≡ record w { state = now.state } → after ≡ body_in now → after ≡ record b { step = now.state.step; atoms = now.state.atoms }
unfolding with_parts
body_after force dt kinds b after w now is stands same =
    let sides : now.rules.cell.sides ≡ b.sides = ap (λ (x : World). x.rules.cell.sides) stands ∙ is.sides in
    let mass : now.rules.mass ≡ b.mass = ap (λ (x : World). x.rules.mass) stands ∙ is.mass in
    let bonds : now.bonds ≡ b.bonds = ap (λ (x : World). x.bonds) stands ∙ is.bonds in
    let angles : now.angles ≡ b.angles = ap (λ (x : World). x.angles) stands ∙ is.angles in
    same
    ∙ ap (λ (x : Sides). with_parts now.state.step x now.rules.mass now.state.atoms now.bonds now.angles) sides
    ∙ ap (λ (x : List ℤ). with_parts now.state.step b.sides x now.state.atoms now.bonds now.angles) mass
    ∙ ap (λ (x : List Bond). with_parts now.state.step b.sides b.mass now.state.atoms x now.angles) bonds
    ∙ ap (λ (x : List Angle). with_parts now.state.step b.sides b.mass now.state.atoms b.bonds x) angles

-- the numbers of an engine are those of its settings, whatever its fixes move
pub numbers_after : (s : Settings) (b : Body) (w now : World) (tally : Tally) (dt : ℤ) (kinds : ℕ) → IsEngineOf s.force dt kinds b w → dt ≡ s.setup.timestep → now ≡ record w { state = now.state }
    → numbers_of (engine_setting now.rules []) now.state (sums_in tally) ≡ numbers_of (setting_of s b) now.state (sums_in tally)
numbers_after s b w now tally dt kinds is timestep standing =
    let fixes : List NamedFix = fixes_over s.named.groups b.atoms s.named.fixes in
    let at : IsEngineOf s.force s.setup.timestep kinds b w = subst (λ (t : ℤ). IsEngineOf s.force t kinds b w) timestep is in
    ap (λ (x : World). numbers_of (engine_setting x.rules fixes) now.state (sums_in tally)) standing
    ∙ ap (λ (t : Setting). numbers_of t now.state (sums_in tally)) (setting_same s b kinds w fixes at refl)

with_all : Settings → Body → Output → List Number → Settings
with_all s b o known = record s { body = Some b; output = o; known = known }

pub settings_after : (s : Settings) (b after : Body) (w now : World) (o : Output) (known : List Number) (tally : Tally) (dt : ℤ) (kinds : ℕ) → IsEngineOf s.force dt kinds b w → dt ≡ s.setup.timestep → now ≡ record w { state = now.state } → after ≡ body_in now → o ≡ record s.output { uses = o.uses }
    → known ≡ numbers_of (engine_setting now.rules []) now.state (sums_in tally) → record s { body = Some after; output = o; known = known } ≡ ends_as s b (stands now.state tally) o.uses
unfolding with_all
settings_after s b after w now o known tally dt kinds is timestep standing same others numbers =
    let body : Body = record b { step = now.state.step; atoms = now.state.atoms } in
    ap (λ (x : Body). with_all s x o known) (body_after s.force dt kinds b after w now is standing same)
    ∙ ap (λ (x : Output). with_all s body x known) others
    ∙ ap (λ (x : List Number). with_all s body (record s.output { uses = o.uses }) x) (numbers ∙ numbers_after s b w now tally dt kinds is timestep standing)

pub sound_after : (s : Settings) (b after : Body) (w now : World) (dt : ℤ) → IsSoundBody b → IsEngineOf s.force dt (length b.mass) b w → now ≡ record w { state = now.state } → IsState now.rules now.state → ids_of now.state.atoms ≡ ids_of b.atoms → after ≡ body_in now → IsSoundBody after
sound_after s b after w now dt sound is stands fit ids same =
    let sides : now.rules.cell.sides ≡ b.sides = ap (λ (x : World). x.rules.cell.sides) stands ∙ is.sides in
    let mass : now.rules.mass ≡ b.mass = ap (λ (x : World). x.rules.mass) stands ∙ is.mass in
    let size : now.rules.field.pairs.kinds ≡ length b.mass = ap (λ (x : World). x.rules.field.pairs.kinds) stands ∙ is.table.kinds_are in
    let bonds : now.bonds ≡ b.bonds = ap (λ (x : World). x.bonds) stands ∙ is.bonds in
    let angles : now.angles ≡ b.angles = ap (λ (x : World). x.angles) stands ∙ is.angles in
    subst IsSoundBody (sym same) (body_sound b now sound fit sides mass size ids bonds angles)

pub dim_after : (s : Settings) (b after : Body) (w now : World) (dt : ℤ) (kinds : ℕ) → IsOfSetup s.setup b → IsEngineOf s.force dt kinds b w → now ≡ record w { state = now.state } → after ≡ body_in now → IsOfSetup s.setup after
dim_after s b after w now dt kinds dim is stands same =
    ap (λ (x : Body). x.sides.dim) (body_after s.force dt kinds b after w now is stands same) ∙ dim

pub ids_after : (s : Settings) (b : Body) (last : ℕ) (state : State) → state ≡ (run_of (setting_of s b) s.output last b.step b.atoms s.output.uses).end.state → ids_of state.atoms ≡ ids_of b.atoms
ids_after s b last state is = ap (λ (x : State). ids_of x.atoms) is ∙ run_of_ids (setting_of s b) s.output last b.step b.atoms s.output.uses
