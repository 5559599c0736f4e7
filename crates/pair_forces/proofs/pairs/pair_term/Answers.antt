use Rattle.std.proofs.Common.{sym}
use Rattle.serial_step.specs.Forces.{field_of}
use Rattle.serial_step.proofs.ForceLemmas.{term_of-alone}
use Rattle.pair_forces.proofs.TermLemmas.{term_is}
use Rattle.pair_forces.proofs.pairs.pair_term.Goals as goal

pub returns-then-own-other-clause-is : goal.returns-then-own-other-clause-is
returns-then-own-other-clause-is g c = sym (term_of-alone (field_of c.args.pairs.now.pairs) c.args.cell.now.sides c.args.own.now c.args.other.now c.if-own-other.true)

pub returns-clause-is : goal.returns-clause-is
returns-clause-is g c =
    term_is c.args.pairs.now.pairs c.args.cell.now.sides c.args.own.now c.args.other.now c.term.result c.if-own-other.false
    (rw c.near-d.ensures.is at c.term.ensures.is)
