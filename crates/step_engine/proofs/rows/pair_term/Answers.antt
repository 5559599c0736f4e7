use Rattle.std.proofs.Common.{rules, sym}
use Rattle.serial_step.specs.Forces.{field_of}
use Rattle.serial_step.proofs.ForceLemmas.{term_of-alone}
use Rattle.step_engine.proofs.ReachLemmas.{inside_within, no_term, within_turns}
use Rattle.step_engine.proofs.RowLemmas.{term_is}
use Rattle.step_engine.proofs.rows.pair_term.Goals as goal

pub is_passed-requires-clause-a : goal.is_passed-requires-clause-a
is_passed-requires-clause-a g c = inside_within c.args.cell.now.sides c.args.own.now.x c.args.cell.now.sound c.requires.own.inside

pub is_passed-requires-clause-b : goal.is_passed-requires-clause-b
is_passed-requires-clause-b g c = inside_within c.args.cell.now.sides c.args.other.now.x c.args.cell.now.sound c.requires.other.inside

pub is_passed-requires-clause-turns : goal.is_passed-requires-clause-turns
is_passed-requires-clause-turns g c =
    within_turns (field_of c.args.pairs.now.pairs) c.args.cell.now.sides c.args.reach.now c.args.own.now.x c.args.other.now.x
    c.requires.reach c.args.cell.now.sound c.requires.own.inside c.requires.other.inside

pub returns-then-is_passed-clause-is : goal.returns-then-is_passed-clause-is
returns-then-is_passed-clause-is g c =
    sym (no_term (field_of c.args.pairs.now.pairs) c.args.cell.now.sides c.args.reach.now c.args.own.now c.args.other.now
    c.requires.reach c.args.cell.now.sound c.requires.own.inside c.requires.other.inside (search rules))

pub returns-then-own-other-clause-is : goal.returns-then-own-other-clause-is
returns-then-own-other-clause-is g c = sym (term_of-alone (field_of c.args.pairs.now.pairs) c.args.cell.now.sides c.args.own.now c.args.other.now c.if-own-other.true)

pub returns-clause-is : goal.returns-clause-is
returns-clause-is g c =
    term_is c.args.pairs.now.pairs c.args.cell.now.sides c.args.own.now c.args.other.now c.term.result c.if-own-other.false
    (rw c.near-d.ensures.is at c.term.ensures.is)
