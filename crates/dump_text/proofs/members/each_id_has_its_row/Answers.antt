use Rattle.dump_text.proofs.MemberLemmas.{members_are}
use Rattle.dump_text.proofs.members.each_id_has_its_row.Goals as goal

pub returns : goal.returns
returns c = λ ids atoms. members_are atoms ids
