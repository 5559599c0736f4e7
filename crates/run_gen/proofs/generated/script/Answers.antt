use Rattle.std.proofs.Common.{rules}
use Rattle.run_gen.proofs.TextLemmas.{pushed_is}
use Rattle.run_gen.proofs.generated.script.Goals as goal

pub returns-clause-is : goal.returns-clause-is
returns-clause-is c =
    let whole = pushed_is c.args.cells c.args.seed in
    search rules
