use Rattle.std.proofs.Common.{◌∙◌}
use Rattle.velocity_make.proofs.MemberLemmas.{member_found}
use Rattle.velocity_make.proofs.groups.is_member.Goals as goal

pub returns : goal.returns
returns c = c.is_ok.ensures.value ∙ member_found c.args.ids.now c.args.atom.now c.binary_search.result c.binary_search.ensures.position c.requires
