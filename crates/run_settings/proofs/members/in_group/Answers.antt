use Rattle.std.proofs.Common.{◌≡◌, ◌∙◌, ℕ, List, IfOk, ap, filter, subst, sym}
use Rattle.regions_groups.specs.Ids.{intersection}
use Rattle.run_settings.specs.Members.{has_member}
use Rattle.run_settings.proofs.MemberLemmas.{in_all_atoms, in_given, in_unknown}
use Rattle.run_settings.proofs.members.in_group.Goals as goal

pub returns-then-is_all : goal.returns-then-is_all
returns-then-is_all c =
    c.from_vec.ensures ∙ c.in_ok-from_slice.ensures.items
    ∙ sym (in_all_atoms c.args.groups.now c.args.name.now c.args.ids.now (sym c.is_all.ensures ∙ c.if-is_all.true))

pub returns-in-Some : goal.returns-in-Some
returns-in-Some c =
    let ids = c.args.ids.now in
    let given = c.in-Some.given.now in
    let own : intersection ids given ≡ filter (λ (id : ℕ). has_member c.args.groups.now id c.args.name.now) ids =
    in_given c.args.groups.now c.args.name.now ids given (sym c.is_all.ensures ∙ c.if-is_all.false) (sym c.in-Some.ensures.is) c.requires c.in-Some.ensures.rises in
    subst (λ (l : List ℕ). IfOk c.intersection.result (λ out. out ≡ l)) (ap (intersection ids) c.as_slice.ensures ∙ own) c.intersection.ensures

pub returns-in-None : goal.returns-in-None
returns-in-None c =
    c.new.ensures ∙ sym (in_unknown c.args.groups.now c.args.name.now c.args.ids.now (sym c.is_all.ensures ∙ c.if-is_all.false) (sym c.in-None.ensures.is))
