use Rattle.dump_text.proofs.ColumnLemmas.{only, reads}
use Rattle.dump_text.proofs.columns.keywords_name_columns.Goals as goal

pub returns-clause-reads : goal.returns-clause-reads
returns-clause-reads c = reads

pub returns-clause-only : goal.returns-clause-only
returns-clause-only c = only
