use Rattle.std.proofs.Common.{List, arith, subst, sym}
use Rattle.std.proofs.lemmas.Grind.{common_steps}
use Rattle.std.proofs.lemmas.List.Elements.{All-push}
use Rattle.box_geo.specs.Ids.{Rises}
use Rattle.fix_list.specs.declared.fixes.NamedFix.{NamedFix}
use Rattle.fix_list.specs.Fixes.{AllRise, ids_of as moved_ids}
use Rattle.script_runs.proofs.parts.fixes_over.Goals as goal

pub loop-fix-preserved : goal.loop-fix-preserved
loop-fix-preserved c =
    let i = c.loop-fix.invariant in
    record {
      are = grind (arith, common_steps);
      rise = subst (λ (fixes : List NamedFix). AllRise fixes) (sym {A = List NamedFix} c.in_ok-push.ensures.items) (All-push (λ (named : NamedFix). Rises (moved_ids named.fix)) c.loop-fix.over.items c.in_ok-fix_over.field-0 i.rise c.in_ok-fix_over.ensures.rises);
    }
