use Rattle.std.proofs.Common.{rules, refl, sym, subst, FitsSigned, to_z, of_z, w64}
use Rattle.std.proofs.lemmas.Int.{to_z-of_z}
use Rattle.box_geo.specs.declared.atoms.System.{System}
use Rattle.step_engine.specs.Engine.{rules_of}
use Rattle.step_engine.specs.Ranges.{AreAtoms, IsTimestep}
use Rattle.part_tests.proofs.engines.engine.Goals as goal

pub new-requires-2-clause-dt : goal.new-requires-2-clause-dt
new-requires-2-clause-dt c = subst (λ (s : System). IsTimestep s.dt) (sym c.in_ok-system.ensures) (c.if-not-is_usable.ensures.dt refl)

pub new-requires-2-clause-atoms : goal.new-requires-2-clause-atoms
new-requires-2-clause-atoms c =
    subst (λ (s : System). AreAtoms (rules_of s record { pairs = c.in_ok-field.field.pairs; rcmax = c.in_ok-field.field.rcmax } (to_z w64 (of_z w64 c.args.setup.now.skin))) s.atoms) (sym c.in_ok-system.ensures)
    record { few = search rules; placed = c.if-not-are_sound.ensures.placed refl; movable = c.if-not-are_sound.ensures.movable refl }

pub new-requires-2-clause-skin : goal.new-requires-2-clause-skin
new-requires-2-clause-skin c =
    let skin : FitsSigned w64 c.args.setup.now.skin = search rules in
    simp to_z-of_z (c.if-not-is_usable.ensures.skin refl)
