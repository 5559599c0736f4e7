use Rattle.std.proofs.Common.{◌∙◌, sym}
use Rattle.run_settings.proofs.SpeedLemmas.{velocity_answers}
use Rattle.run_settings.proofs.velocity.change_velocities.Goals as goal

pub returns-in-Some-body-clause-is : goal.returns-in-Some-body-clause-is
returns-in-Some-body-clause-is c =
    velocity_answers c.args.settings.now c.args.change.now c.in-Some.action c.in-Some-body.body c.change_body.new.body c.change_body.result (sym c.in-Some.ensures) (sym c.is_there.ensures ∙ c.if-not-is_there.false) c.in-Some-body.is c.change_body.ensures.is
