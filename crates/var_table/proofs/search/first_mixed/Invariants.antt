use Rattle.std.proofs.Common.{◌≡◌, drop}
use Rattle.std.specs.Option.{option_copied}
use Rattle.var_table.specs.Variables.{first_unlike, style_in}
use Rattle.var_table.proofs.search.first_mixed.Given as goal

abbrev pub invariant-loop-name : goal.invariant-loop-name
invariant-loop-name l =
    first_unlike l.items (style_in (option_copied l.first)) (drop l.name-index l.names) ≡ first_unlike l.items (style_in (option_copied l.first)) l.names
