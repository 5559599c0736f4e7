use Rattle.std.proofs.Common.{ℕ, List, Option, subst, sym}
use Rattle.std.specs.Prelude.{IfSome}
use Rattle.box_geo.specs.Ids.{Rises}
use Rattle.meaning.specs.declared.settings.Body.{Body}
use Rattle.meaning.specs.Sound.{IsSoundBody}
use Rattle.run_settings.proofs.ChosenLemmas.{rises_chosen}
use Rattle.run_settings.proofs.members.change_group.Goals as goal

pub add_to-requires : goal.add_to-requires
add_to-requires c =
    let sound : IsSoundBody c.in-Some.body = subst (λ (o : Option Body). IfSome o IsSoundBody) c.in-Some.is c.requires.sound.body in
    subst (λ (ids : List ℕ). Rises ids) (sym c.in_ok-ids.ensures) (rises_chosen c.args.settings.now.named c.args.change.members c.in-Some.body sound)
