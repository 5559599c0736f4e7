use Rattle.std.proofs.Common.{◌∙◌, sym, arith}
use Rattle.run_settings.proofs.MemberLemmas.{any_more, any_none}
use Rattle.run_settings.proofs.members.in_any.Goals as goal

pub loop-name-init : goal.loop-name-init
loop-name-init c = c.new-kept.ensures ∙ sym (any_none c.args.groups.now c.args.ids.now)

pub loop-name-preserved : goal.loop-name-preserved
loop-name-preserved c =
    c.in_ok-kept.ensures
    ∙ any_more c.args.groups.now c.args.ids.now c.as_slice.result.now c.as_slice-in-loop-name.result.now c.name-item.result c.args.names.now c.loop-name.name-index
    c.requires (omega arith) c.name-item.is
    (c.as_slice.ensures ∙ c.loop-name.invariant) (c.as_slice-in-loop-name.ensures ∙ c.in_ok-own.ensures)
