use Rattle.std.proofs.Common.{◌≡◌, ◌++◌, drop}
use Rattle.meaning.specs.ValueGroups.{first_code, nonzero_ids, value_for}
use Rattle.run_settings.proofs.value_groups.nonzero_ids.Given as goal

-- no atom so far has a fault, and the ids are those of the atoms so far whose value is not 0
abbrev pub invariant-loop-atom : goal.invariant-loop-atom
invariant-loop-atom l =
    (first_code (value_for l.settings l.body l.name) (drop l.atom-index l.body.atoms) ≡ first_code (value_for l.settings l.body l.name) l.body.atoms)
    × (l.ids ++ nonzero_ids (value_for l.settings l.body l.name) (drop l.atom-index l.body.atoms) ≡ nonzero_ids (value_for l.settings l.body l.name) l.body.atoms)
