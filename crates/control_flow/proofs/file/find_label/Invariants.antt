use Rattle.std.proofs.Common.{◌≡◌, ◌-◌, length, take}
use Rattle.script_lines.specs.Physical.{feeds}
use Rattle.script_lines.specs.Script.{script_at}
use Rattle.control_flow.specs.Labels.{behind_label}
use Rattle.control_flow.proofs.file.find_label.Given as goal

abbrev pub invariant-search : goal.invariant-search
invariant-search l =
    (behind_label l.name l.label (script_at l.text l.place.at) ≡ behind_label l.name l.label (script_at l.text 0))
    × (l.place.ended ≡ feeds (take l.place.at l.text))

abbrev pub decreases-search : goal.decreases-search
decreases-search l = length l.text - l.place.at
