use Rattle.std.proofs.Common.{◌≡◌, ◌∙◌, ap, rules, List}
use Rattle.std.proofs.lemmas.Fn.{filter_same}
use Rattle.var_table.specs.Variables.{Named, without}
use Rattle.var_table.proofs.table.Vars.delete.Goals as goal

pub returns-clause-others : goal.returns-clause-others
returns-clause-others c =
    let kept : c.retain.new.self.items ≡ without c.self.inside.items.items c.args.name.now = filter_same _ _ _ (λ x b f' k. search rules) _ _ c.retain.ensures.filtered in
    kept ∙ ap (λ (table : List Named). without table c.args.name.now) c.self.view_is
