use Rattle.std.proofs.Common.{sym}
use Rattle.meaning.specs.MassesGroups.{ids_of}
use Rattle.script_runs.proofs.JudgeLemmas.{few_once}
use Rattle.script_runs.proofs.judge.move_twice.Goals as goal

pub returns-then-fixes-lt2 : goal.returns-then-fixes-lt2
returns-then-fixes-lt2 c = sym (few_once c.args.fixes.now (ids_of c.args.atoms.now) c.if-fixes-lt2.true)
