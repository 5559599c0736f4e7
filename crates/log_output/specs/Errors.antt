-- The lines of errors: a script that is refused, and a quantity that left its range.
use Rattle.std.specs.Prelude.{◌==◌, cond, ℕ, List, ◌++◌, codes}
use Rattle.std.specs.Fmt.{decimal}
use Rattle.box_geo.specs.declared.fault.FaultKey.{FaultKey}
use Rattle.box_geo.specs.declared.fault.FaultPhase.TheVariants.{Drift, Forces}
use Rattle.box_geo.specs.declared.fault.FaultKind.TheVariants as fault
use Rattle.box_geo.specs.Fault.{kind_number, phase_number}

-- the line of a refusal: the name of its code, the file and the line
unfoldable pub refusal_text : List ℕ → List ℕ → ℕ → List ℕ
refusal_text code file line = codes "ERROR: " ++ code ++ codes " at " ++ file ++ codes ":" ++ decimal line ++ codes "\n"

-- the line of a script that would run more lines than it may, at the file and line of the first beyond
unfoldable pub budget_text : List ℕ → ℕ → List ℕ
budget_text file line = refusal_text (codes "Budget") file line

-- the names of the phase and the kind of a fault
abbrev pub phase_name : ℕ → List ℕ
phase_name p =
    cond (p == phase_number Drift) (codes "drift") (cond (p == phase_number Forces) (codes "forces") (codes "kick"))

abbrev pub kind_name : ℕ → List ℕ
kind_name k =
    cond (k == kind_number fault.Close) (codes "Close")
    (cond (k == kind_number fault.Bond) (codes "Bond")
    (cond (k == kind_number fault.Angle) (codes "Angle")
    (cond (k == kind_number fault.Force) (codes "Force")
    (cond (k == kind_number fault.Speed) (codes "Speed")
    (cond (k == kind_number fault.Lost) (codes "Lost") (codes "Image"))))))

-- the line of a fault at a step
unfoldable pub fault_text : FaultKey → ℕ → List ℕ
fault_text k step =
    codes "ERROR: " ++ kind_name k.kind ++ codes " " ++ decimal k.a ++ codes " " ++ decimal k.b ++ codes " in " ++ phase_name k.phase ++ codes " at step " ++ decimal step ++ codes "\n"
