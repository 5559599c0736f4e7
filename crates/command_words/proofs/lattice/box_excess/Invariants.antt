use Rattle.std.proofs.Common.{◌≡◌, length}
use Rattle.command_words.specs.Lattice.{box_excess, first_excess}
use Rattle.command_words.proofs.lattice.box_excess.Given as goal

abbrev pub invariant-pairs : goal.invariant-pairs
invariant-pairs l = first_excess (length l.words) l.rest ≡ box_excess l.words

abbrev pub decreases-pairs : goal.decreases-pairs
decreases-pairs l = length l.rest
