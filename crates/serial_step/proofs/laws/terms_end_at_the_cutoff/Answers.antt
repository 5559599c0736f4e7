use Rattle.serial_step.proofs.ForceLemmas.{term_of-far, is_within-far}
use Rattle.serial_step.proofs.laws.terms_end_at_the_cutoff.Goals as goal

pub returns-clause-cutoff : goal.returns-clause-cutoff
returns-clause-cutoff c = term_of-far

pub returns-clause-reach : goal.returns-clause-reach
returns-clause-reach c = is_within-far
