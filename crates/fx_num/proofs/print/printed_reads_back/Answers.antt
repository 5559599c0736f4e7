use Rattle.fx_num.proofs.RoundTrip.{read_number-fix_text}
use Rattle.fx_num.proofs.print.printed_reads_back.Goals as goal

pub returns : goal.returns
returns c = read_number-fix_text
