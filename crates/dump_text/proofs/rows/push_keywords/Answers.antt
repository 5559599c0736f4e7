use Rattle.std.proofs.Common.{arith}
use Rattle.std.proofs.lemmas.Grind.{common_steps}
use Rattle.dump_text.specs.declared.columns.Column.TheVariants.{Id}
use Rattle.dump_text.specs.Columns.{keyword_of}
use Rattle.dump_text.proofs.RowLemmas.{words_more}
use Rattle.dump_text.proofs.rows.push_keywords.Goals as goal

pub loop-place-preserved : goal.loop-place-preserved
loop-place-preserved c =
    let more = words_more keyword_of c.args.columns.now c.loop-place.place Id c.loop-place-test.true in
    grind (arith, common_steps)
