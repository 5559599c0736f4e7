use Rattle.std.proofs.Common.{◌≡◌, ◌∙◌, sym, ap, rules, arith, FitsSigned, w64, ◌+ℤ◌, Some, None}
use Rattle.std.proofs.lemmas.Int.{ints, to_z-of_z, fits_signed_from_abs}
use Rattle.serial_step.specs.Room.{edge_too_small}
use Rattle.serial_step.specs.Rebuild.{positions}
use Rattle.step_engine.proofs.StateLemmas.{started}
use Rattle.step_engine.proofs.engine.Engine.new.Goals as goal

pub returns-in-Some-clause-too_small : goal.returns-in-Some-clause-too_small
returns-in-Some-clause-too_small c =
    let skin : FitsSigned w64 c.args.skin = c.ranges.skin in
    let rcmax : FitsSigned w64 c.args.field.rcmax = search rules in
    let sum : FitsSigned w64 (c.args.field.rcmax +ℤ c.args.skin) = fits_signed_from_abs w64 _ (omega (arith, ints)) in
    let is : Some c.in-Some.axis ≡ edge_too_small c.args.system.cell.sides (c.args.field.rcmax +ℤ c.args.skin) = simp to_z-of_z at c.in-Some.ensures in
    λ axis e. cc

room : (c : goal.After-into_vec) → edge_too_small c.args.system.cell.sides (c.args.field.rcmax +ℤ c.args.skin) ≡ None
room c =
    let skin : FitsSigned w64 c.args.skin = c.ranges.skin in
    let rcmax : FitsSigned w64 c.args.field.rcmax = search rules in
    let sum : FitsSigned w64 (c.args.field.rcmax +ℤ c.args.skin) = fits_signed_from_abs w64 _ (omega (arith, ints)) in
    let is : c.edge_too_small.result ≡ edge_too_small c.args.system.cell.sides (c.args.field.rcmax +ℤ c.args.skin) = simp to_z-of_z at c.edge_too_small.ensures in
    sym is ∙ c.in_default.is

pub returns-clause-ready : goal.returns-clause-ready
returns-clause-ready c =
    let skin : FitsSigned w64 c.args.skin = c.ranges.skin in
    let dt : FitsSigned w64 c.args.system.dt = search rules in
    let at = c.in_ok-references.ensures ∙ ap positions c.as_slice.ensures in
    let q = c.requires in
    simp to_z-of_z (started c.args.system c.args.field c.args.skin c.into_vec.result.items c.in_ok-references.references.items q.field q.skin q.dt q.step q.atoms (room c) c.into_vec.ensures at)

pub returns-clause-room : goal.returns-clause-room
returns-clause-room c = room c
