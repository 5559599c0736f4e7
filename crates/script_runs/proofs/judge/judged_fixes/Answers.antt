use Rattle.std.proofs.Common.{List, subst, sym}
use Rattle.fix_list.specs.declared.fixes.NamedFix.{NamedFix}
use Rattle.fix_list.specs.Fixes.{AllRise}
use Rattle.script_runs.proofs.judge.judged_fixes.Goals as goal

pub move_twice-requires : goal.move_twice-requires
move_twice-requires c = subst (λ (fixes : List NamedFix). AllRise fixes) (sym c.deref.ensures.value) c.in-Ok.ensures.rise
