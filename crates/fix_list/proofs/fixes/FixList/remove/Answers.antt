use Rattle.std.proofs.Common.{arith, rules, ◌≡◌, ◌∙◌, ap, not, sym, subst, List}
use Rattle.std.specs.List.{filter}
use Rattle.std.specs.Str.{bytes_eq}
use Rattle.std.proofs.lemmas.Fn.{filter_same}
use Rattle.std.proofs.lemmas.Grind.{common_steps}
use Rattle.std.proofs.lemmas.List.Elements.{All-filter}
use Rattle.fix_list.specs.declared.fixes.NamedFix.{NamedFix}
use Rattle.box_geo.specs.Ids.{Rises}
use Rattle.fix_list.specs.Fixes.{AllRise, ids_of, without}
use Rattle.fix_list.proofs.NameLemmas.{without-absent}
use Rattle.fix_list.proofs.fixes.FixList.remove.Goals as goal

pub returns-clause-others : goal.returns-clause-others
returns-clause-others c =
    let kept : c.retain.new.self.items ≡ without c.self.inside.items.items c.args.name.now = filter_same _ _ _ (λ x b f' k. search rules) _ _ c.retain.ensures.filtered in
    kept ∙ ap (λ (fixes : List NamedFix). without fixes c.args.name.now) c.self.view_is

pub returns-clause-unchanged : goal.returns-clause-unchanged
returns-clause-unchanged c = λ e. returns-clause-others c ∙ without-absent c.args.self.now c.args.name.now (grind (arith, common_steps))

-- a fix that stays is as it was
pub invariant_of-self : goal.invariant_of-self
invariant_of-self c =
    let kept : c.retain.new.self.items ≡ filter (λ named. not (bytes_eq named.name c.args.name.now)) c.self.inside.items.items = filter_same _ _ _ (λ x b f' k. search rules) _ _ c.retain.ensures.filtered in
    subst (λ (fixes : List NamedFix). AllRise fixes) (sym kept) (All-filter (λ named. not (bytes_eq named.name c.args.name.now)) (λ named. Rises (ids_of named.fix)) c.self.inside.items.items c.self.invariant)
