use Rattle.std.proofs.Common.{ℕ, List, Option, subst, sym}
use Rattle.std.specs.Prelude.{IfSome}
use Rattle.meaning.specs.declared.settings.Body.{Body}
use Rattle.meaning.specs.Sound.{IsSoundBody}
use Rattle.meaning.specs.ValueGroups.{value_for}
use Rattle.run_settings.proofs.ValueLemmas.{rises_valued}
use Rattle.run_settings.proofs.value_groups.group_by_values.Goals as goal

pub add_to-requires : goal.add_to-requires
add_to-requires c =
    let sound : IsSoundBody c.in-Some.body = subst (λ (o : Option Body). IfSome o IsSoundBody) c.in-Some.is c.requires.sound.body in
    rises_valued (value_for c.args.settings.now c.in-Some.body c.args.name.now) c.in-Some.body.atoms c.in_ok-ids.ids sound.rising c.in_ok-ids.ensures
