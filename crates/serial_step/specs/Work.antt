-- How many terms of pairs an evaluation of forces sums: one for each unordered pair of atoms.
use Rattle.std.specs.Prelude.{◌==◌, cond, ℕ, length, map}
use Rattle.box_geo.specs.Fault.{no_fault}
use Rattle.serial_step.specs.Step.{Setting, State, drifted, fault_of}
use Rattle.sums.specs.Totals.{half}

-- those of the forces of a step; none where an atom is at fault before them
abbrev pub step_pairs : Setting → State → ℕ
step_pairs t state = cond (fault_of (map (drifted t) state.atoms) == no_fault) (length (half state.atoms)) 0
