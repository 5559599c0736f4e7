use Rattle.std.proofs.Common.{◌≡◌, ◌∙◌, ℕ, List, IfOk, filter, subst, sym}
use Rattle.regions_groups.specs.Ids.{difference}
use Rattle.run_settings.specs.Members.{is_left_member}
use Rattle.run_settings.proofs.MemberLemmas.{first_left, none_left}
use Rattle.run_settings.proofs.members.in_first_alone.Goals as goal

pub returns-in-empty : goal.returns-in-empty
returns-in-empty c = c.new.ensures ∙ sym (none_left c.args.groups.now c.args.ids.now c.args.names.now c.in-empty.len_below)

pub returns-in_ok-away-in-len1-up : goal.returns-in_ok-away-in-len1-up
returns-in_ok-away-in-len1-up c =
    let kept : difference c.as_slice.result.now c.as_slice-in-len1-up.result.now ≡ filter (λ (id : ℕ). is_left_member c.args.groups.now id c.args.names.now) c.args.ids.now =
    first_left c.args.groups.now c.args.ids.now c.as_slice.result.now c.as_slice-in-len1-up.result.now c.first-item.result c.args.names.now
    c.requires c.in-len1-up.len_at_least c.first-item.is
    (c.as_slice.ensures ∙ c.in_ok-own-in-len1-up.ensures) (c.as_slice-in-len1-up.ensures ∙ c.in_ok-away-in-len1-up.ensures) in
    subst (λ (l : List ℕ). IfOk c.difference.result (λ out. out ≡ l)) kept c.difference.ensures
