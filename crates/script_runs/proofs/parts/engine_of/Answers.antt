use Rattle.std.proofs.Common.{◌≡◌, ◌∙◌, ◌+ℤ◌, ℕ, ℤ, Err, ap, pos, subst, to_z, of_z, arith}
use Rattle.std.specs.Int.{w64}
use Rattle.std.proofs.lemmas.Int.{ints, to_z_pos}
use Rattle.meaning.specs.Pairs.{reach_of}
use Rattle.script_runs.specs.Engines.{IsTableOf}
use Rattle.script_runs.proofs.ReadyLemmas.{atoms_ready, engine_is, field_ready, has_room}
use Rattle.script_runs.proofs.TableLemmas.{passed}
use Rattle.step_engine.specs.Engine.{rules_of}
use Rattle.script_runs.proofs.parts.engine_of.Goals as goal

pub new-requires-clause-field : goal.new-requires-clause-field
new-requires-clause-field c =
    let reach : to_z w64 c.reach_of.result ≡ pos (reach_of c.args.force.now) = to_z_pos w64 c.reach_of.result (omega (arith, c.reach_of.ensures.high)) ∙ ap pos c.reach_of.ensures.is in
    field_ready _ c.args.force.now _ _ c.requires.force c.in_ok-table_of.ensures reach (rw c.len-kinds.ensures c.requires.set) (omega (arith, c.len-kinds.ensures, c.requires.body.some)) (omega (arith, c.reach_of.ensures.high, c.reach_of.ensures.is))

pub new-requires-clause-atoms : goal.new-requires-clause-atoms
new-requires-clause-atoms c =
    let s = c.system_of.ensures in
    atoms_ready (rules_of c.system_of.result _ _) c.args.body _ (c.in_ok-table_of.ensures.kinds_are ∙ c.len-kinds.ensures) s.sides s.mass s.atoms c.requires.body c.requires.massive

pub unreachable-requires : goal.unreachable-requires
unreachable-requires c =
    let skin : to_z w64 (of_z w64 c.args.force.now.skin) ≡ c.args.force.now.skin = passed c.args.force.now.skin c.requires.force.skin_low (omega (arith, ints, c.requires.force.skin_high)) in
    let reach : to_z w64 c.reach_of.result ≡ pos (reach_of c.args.force.now) = to_z_pos w64 c.reach_of.result (omega (arith, c.reach_of.ensures.high)) ∙ ap pos c.reach_of.ensures.is in
    has_room _ _ _ _ c.in-Err-EdgeTooSmall.field-0-0 c.system_of.ensures.sides
    (ap (λ (r : ℤ). r +ℤ to_z w64 (of_z w64 c.args.force.now.skin)) reach ∙ ap (λ (k : ℤ). pos (reach_of c.args.force.now) +ℤ k) skin) c.requires.room (c.in-Err-EdgeTooSmall.ensures.too_small c.in-Err-EdgeTooSmall.field-0-0 (ap Err c.in-Err-EdgeTooSmall.field-0-is))

pub returns-in-Ok : goal.returns-in-Ok
returns-in-Ok c =
    let s = c.system_of.ensures in
    let skin : to_z w64 (of_z w64 c.args.force.now.skin) ≡ c.args.force.now.skin = passed c.args.force.now.skin c.requires.force.skin_low (omega (arith, ints, c.requires.force.skin_high)) in
    let reach : to_z w64 c.reach_of.result ≡ pos (reach_of c.args.force.now) = to_z_pos w64 c.reach_of.result (omega (arith, c.reach_of.ensures.high)) ∙ ap pos c.reach_of.ensures.is in
    let timestep : to_z w64 (of_z w64 c.args.dt) ≡ c.args.dt = passed c.args.dt c.requires.timestep.low (omega (arith, ints, c.requires.timestep.high)) in
    engine_is c.args.force.now c.args.dt _ c.args.body c.system_of.result _ _ c.in-Ok.engine c.in-Ok.ensures.made c.in-Ok.ensures.ready
    (subst (λ (n : ℕ). IsTableOf n c.args.force.now c.in_ok-table_of.field-0) c.len-kinds.ensures c.in_ok-table_of.ensures)
    s.sides (s.dt ∙ timestep) s.mass skin reach s.step s.atoms s.bonds s.angles
