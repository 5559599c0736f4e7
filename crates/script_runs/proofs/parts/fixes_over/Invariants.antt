use Rattle.std.proofs.Common.{◌≡◌, take}
use Rattle.fix_list.specs.Fixes.{AllRise}
use Rattle.meaning.specs.Fixes.{fixes_over}
use Rattle.script_runs.proofs.parts.fixes_over.Given as goal

abbrev pub invariant-loop-fix : goal.invariant-loop-fix
invariant-loop-fix l = record {
  are : l.over.items ≡ fixes_over l.groups l.atoms (take l.fix-index l.fixes);
  rise : AllRise l.over.items;
}
