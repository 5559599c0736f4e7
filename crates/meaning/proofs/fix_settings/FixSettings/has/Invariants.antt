use Rattle.std.proofs.Common.{◌≡◌, drop}
use Rattle.meaning.specs.Fixes.{has_fix}
use Rattle.meaning.proofs.fix_settings.FixSettings.has.Given as goal

abbrev pub invariant-loop-fix : goal.invariant-loop-fix
invariant-loop-fix l = has_fix (drop l.fix-index l.fix-items) l.id ≡ has_fix l.fix-items l.id
