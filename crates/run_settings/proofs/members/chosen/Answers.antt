use Rattle.std.proofs.Common.{◌∙◌, ℕ, ap, sym}
use Rattle.std.specs.List.{list_all, list_any}
use Rattle.command_words.specs.declared.masses_groups.Members.{Members}
use Rattle.command_words.specs.declared.masses_groups.Members.TheVariants as members
use Rattle.command_words.specs.declared.ranges.IdRange.{IdRange}
use Rattle.meaning.specs.MassesGroups.{chosen, has_id, ids_of}
use Rattle.run_settings.specs.Members.{has_member, is_left_member}
use Rattle.run_settings.proofs.ChosenLemmas.{by_ids, by_kinds, left_chosen}
use Rattle.run_settings.proofs.MemberLemmas.{ids_where-none}
use Rattle.run_settings.proofs.members.chosen.Goals as goal

pub returns-in-Kinds : goal.returns-in-Kinds
returns-in-Kinds c =
    by_kinds c.args.named.now c.args.members.now c.args.body.now c.as_slice.result.now c.len-kinds.result c.as_slice-atoms.result.now c.of_kinds.result
    (c.in-Kinds.is ∙ ap members.Kinds (sym c.as_slice.ensures)) c.len-kinds.ensures c.as_slice-atoms.ensures c.of_kinds.ensures

pub returns-in-Ids : goal.returns-in-Ids
returns-in-Ids c =
    let ranges = c.as_slice-in-Ids-2.result.now in
    by_ids c.args.named.now c.args.members.now c.args.body.now (λ (id : ℕ). list_any (λ (r : IdRange). has_id r id) ranges) c.as_slice-in-Ids.result.now c.in_ranges.result
    (c.as_slice-in-Ids.ensures ∙ c.in_ok-ids.ensures ∙ ap ids_of c.as_slice-atoms.ensures)
    (ap (λ (m : Members). chosen c.args.named.now m c.args.body.now) (c.in-Ids.is ∙ ap members.Ids (sym c.as_slice-in-Ids-2.ensures))) c.in_ranges.ensures

pub returns-in-Union : goal.returns-in-Union
returns-in-Union c =
    let names = c.as_slice-in-Union-2.result.now in
    by_ids c.args.named.now c.args.members.now c.args.body.now (λ (id : ℕ). list_any (has_member c.args.named.now.groups id) names) c.as_slice-in-Union.result.now c.in_any.result
    (c.as_slice-in-Union.ensures ∙ c.in_ok-ids.ensures ∙ ap ids_of c.as_slice-atoms.ensures)
    (ap (λ (m : Members). chosen c.args.named.now m c.args.body.now) (c.in-Union.is ∙ ap members.Union (sym c.as_slice-in-Union-2.ensures))) c.in_any.ensures

pub returns-in-Subtract : goal.returns-in-Subtract
returns-in-Subtract c =
    let names = c.as_slice-in-Subtract-2.result.now in
    by_ids c.args.named.now c.args.members.now c.args.body.now (λ (id : ℕ). is_left_member c.args.named.now.groups id names) c.as_slice-in-Subtract.result.now c.in_first_alone.result
    (c.as_slice-in-Subtract.ensures ∙ c.in_ok-ids.ensures ∙ ap ids_of c.as_slice-atoms.ensures)
    (ap (λ (m : Members). chosen c.args.named.now m c.args.body.now) (c.in-Subtract.is ∙ ap members.Subtract (sym c.as_slice-in-Subtract-2.ensures)) ∙ left_chosen c.args.named.now names c.args.body.now)
    c.in_first_alone.ensures

pub returns-in-Intersect : goal.returns-in-Intersect
returns-in-Intersect c =
    let names = c.as_slice-in-Intersect-2.result.now in
    by_ids c.args.named.now c.args.members.now c.args.body.now (λ (id : ℕ). list_all (has_member c.args.named.now.groups id) names) c.as_slice-in-Intersect.result.now c.in_all.result
    (c.as_slice-in-Intersect.ensures ∙ c.in_ok-ids.ensures ∙ ap ids_of c.as_slice-atoms.ensures)
    (ap (λ (m : Members). chosen c.args.named.now m c.args.body.now) (c.in-Intersect.is ∙ ap members.Intersect (sym c.as_slice-in-Intersect-2.ensures))) c.in_all.ensures

pub returns : goal.returns
returns c =
    c.new.ensures ∙ sym (ids_where-none c.args.body.now.atoms) ∙ ap (λ (m : Members). chosen c.args.named.now m c.args.body.now) (sym c.in-Variable.is)
