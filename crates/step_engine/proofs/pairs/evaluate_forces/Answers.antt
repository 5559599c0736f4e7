use Rattle.std.proofs.Common.{arith}
use Rattle.serial_step.specs.Forces.{field_of}
use Rattle.step_engine.proofs.FaultLemmas.{ids_of_placed, in_range, key_of_forces, key_of_terms, none_found}
use Rattle.step_engine.proofs.ForcedLemmas.{placed_with_forces}
use Rattle.step_engine.proofs.pairs.evaluate_forces.Goals as goal

pub returns-then-sums-lt-NO_FAULT-clause-fault : goal.returns-then-sums-lt-NO_FAULT-clause-fault
returns-then-sums-lt-NO_FAULT-clause-fault g c =
    key_of_terms (field_of c.args.pairs.now.pairs) c.args.cell.now.sides c.args.atoms.now c.from_word.result c.add_rows-sums.result.fault
    c.add_rows-sums.ensures.fault c.if-sums-lt-NO_FAULT.true c.from_word.ensures.is c.from_word.ensures.fits

pub force_fault-fault-requires : goal.force_fault-fault-requires
force_fault-fault-requires g c =
    ids_of_placed c.args.pairs.now c.args.cell.now.sides c.add_rows-sums.new.atoms
    (placed_with_forces c.args.pairs.now (field_of c.args.pairs.now.pairs) c.args.cell.now.sides c.args.atoms.now c.add_rows-sums.new.atoms c.add_rows-sums.ensures.forces c.requires.placed)

pub returns-then-fault-lt-NO_FAULT-clause-fault : goal.returns-then-fault-lt-NO_FAULT-clause-fault
returns-then-fault-lt-NO_FAULT-clause-fault g c =
    key_of_forces (field_of c.args.pairs.now.pairs) c.args.cell.now.sides c.args.atoms.now c.add_rows-sums.new.atoms c.from_word-then-fault-lt-NO_FAULT.result c.add_rows-sums.result.fault c.force_fault-fault.result
    c.add_rows-sums.ensures.fault c.if-sums-lt-NO_FAULT.false c.add_rows-sums.ensures.forces c.force_fault-fault.ensures c.if-fault-lt-NO_FAULT.true
    c.from_word-then-fault-lt-NO_FAULT.ensures.is c.from_word-then-fault-lt-NO_FAULT.ensures.fits

pub returns-clause-sound : goal.returns-clause-sound
returns-clause-sound g c =
    none_found (field_of c.args.pairs.now.pairs) c.args.cell.now.sides c.args.atoms.now c.add_rows-sums.new.atoms c.add_rows-sums.result.fault c.force_fault-fault.result
    c.add_rows-sums.ensures.fault c.if-sums-lt-NO_FAULT.false c.add_rows-sums.ensures.forces c.force_fault-fault.ensures c.if-fault-lt-NO_FAULT.false

pub returns-clause-range : goal.returns-clause-range
returns-clause-range g c =
    in_range c.add_rows-sums.new.atoms
    (ids_of_placed c.args.pairs.now c.args.cell.now.sides c.add_rows-sums.new.atoms
    (placed_with_forces c.args.pairs.now (field_of c.args.pairs.now.pairs) c.args.cell.now.sides c.args.atoms.now c.add_rows-sums.new.atoms c.add_rows-sums.ensures.forces c.requires.placed))
    (omega (arith, c.force_fault-fault.ensures, c.if-fault-lt-NO_FAULT.false))
