use Rattle.std.proofs.Common.{rules, ◌≡◌, ◌∙◌, ap, List}
use Rattle.std.proofs.lemmas.Fn.{filter_same}
use Rattle.command_words.specs.declared.fixes.NewFix.{NewFix}
use Rattle.meaning.specs.Fixes.{fixes_without}
use Rattle.meaning.proofs.fix_settings.FixSettings.remove.Goals as goal

pub returns : goal.returns
returns c =
    let kept : c.retain.new.self.items ≡ fixes_without c.args.id.now c.self.inside.items.items = filter_same _ _ _ (λ x b f' k. search rules) _ _ c.retain.ensures.filtered in
    kept ∙ ap (λ (fixes : List NewFix). fixes_without c.args.id.now fixes) c.self.view_is
