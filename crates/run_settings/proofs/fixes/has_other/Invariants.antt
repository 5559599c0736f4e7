use Rattle.std.proofs.Common.{◌≡◌, drop}
use Rattle.meaning.specs.Fixes.{has_other}
use Rattle.run_settings.proofs.fixes.has_other.Given as goal

abbrev pub invariant-loop-fix : goal.invariant-loop-fix
invariant-loop-fix l = has_other (drop l.fix-index l.fixes) l.new ≡ has_other l.fixes l.new
