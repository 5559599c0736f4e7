use Rattle.std.proofs.Common.{◌≡◌, ◌∙◌, ap, subst, List, ℕ}
use Rattle.pair_lj.specs.declared.pair_settings.PairCoefficients.{PairCoefficients}
use Rattle.pair_lj.specs.Pairs.{IsFirstUnset}
use Rattle.pair_lj.specs.Table.{Table}
use Rattle.pair_lj.proofs.TypeLemmas.{none_unset}
use Rattle.script_runs.proofs.parts.table_of.Goals as goal

pub unreachable-requires : goal.unreachable-requires
unreachable-requires c =
    let unset = c.in-Err.field-0 in
    let size : c.in_ok-table.table.kinds ≡ c.args.kinds = ap (λ (t : Table). t.kinds) c.in_ok-table.ensures in
    let are : c.in_ok-table.table.pairs ≡ c.args.force.now.pairs = ap (λ (t : Table). t.pairs) c.in_ok-table.ensures ∙ c.as_slice.ensures in
    none_unset c.args.kinds c.args.force.now.pairs unset.0 unset.1 c.requires.set
    (subst (λ (ps : List PairCoefficients). IsFirstUnset c.args.kinds ps unset.0 unset.1) are
    (subst (λ (n : ℕ). IsFirstUnset n c.in_ok-table.table.pairs unset.0 unset.1) size c.in-Err.ensures.unset))
