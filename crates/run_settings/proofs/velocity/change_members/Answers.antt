use Rattle.std.proofs.Common.{◌≡◌, ◌∙◌}
use Rattle.run_settings.proofs.SpeedLemmas.{changed_sound, members_changed, put_back}
use Rattle.run_settings.proofs.velocity.change_members.Goals as goal

pub returns-clause-is : goal.returns-clause-is
returns-clause-is c =
    let new = c.change_atoms-answer.new.atoms in
    let whole : c.from_vec.result ≡ new = put_back _ _ new _ _ c.from_vec.ensures c.change_atoms-answer.auto.atoms c.deref_mut.ensures.value c.into_vec-atoms.result.ok.0 in
    let lent : c.deref_mut.result.now ≡ c.args.body.now.atoms = c.deref_mut.ensures.value ∙ c.into_vec-atoms.ensures ∙ c.replace.ensures.value in
    members_changed c.args.action.now c.as_slice-mass.result.now c.args.ids.now c.args.body.now c.deref_mut.result.now new c.from_vec.result c.change_atoms-answer.result
    c.as_slice-mass.ensures lent whole c.change_atoms-answer.ensures.is

pub returns-clause-sound : goal.returns-clause-sound
returns-clause-sound c =
    let new = c.change_atoms-answer.new.atoms in
    let whole : c.from_vec.result ≡ new = put_back _ _ new _ _ c.from_vec.ensures c.change_atoms-answer.auto.atoms c.deref_mut.ensures.value c.into_vec-atoms.result.ok.0 in
    let lent : c.deref_mut.result.now ≡ c.args.body.now.atoms = c.deref_mut.ensures.value ∙ c.into_vec-atoms.ensures ∙ c.replace.ensures.value in
    changed_sound c.args.body.now c.deref_mut.result.now new c.from_vec.result c.requires.sound lent whole c.change_atoms-answer.ensures.slow c.change_atoms-answer.ensures.others
