use Rattle.std.proofs.Common.{◌≡◌, ◌∙◌}
use Rattle.std.proofs.lemmas.Iterator.{items_from_collect}
use Rattle.std.specs.Vec.Iter.{into_iter_items}
use Rattle.program.proofs.ListLemmas.{gives_all}
use Rattle.program.proofs.words.words_listed.Goals as goal

pub returns-in-Ok : goal.returns-in-Ok
returns-in-Ok c =
    let all = items_from_collect c.collect.result c.collect.ensures.ran (gives_all c.args.all) in
    let same : c.deref.result.now ≡ into_iter_items c.args.all = c.deref.ensures.value ∙ (rw c.in-Ok.is at all) in
    rw same at c.words_of.ensures
