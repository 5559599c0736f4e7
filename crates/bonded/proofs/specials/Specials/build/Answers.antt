use Rattle.std.proofs.Common.{List, ap, ◌∙◌}
use Rattle.std.proofs.lemmas.List.{take_all}
use Rattle.std.specs.List.{list_any}
use Rattle.box_geo.specs.declared.atoms.Bond.{Bond}
use Rattle.bonded.specs.Paths.{special_weight}
use Rattle.bonded.specs.Rows.{is_end}
use Rattle.bonded.proofs.RowLemmas.{weights_are}
use Rattle.bonded.proofs.specials.Specials.build.Goals as goal

pub returns : goal.returns
returns c =
    let bonds : List Bond = c.as_slice-bonds.result.now in
    λ a b.
    weights_are bonds c.in_ok-links.links.neighbours c.args.weights c.loop-bond.rows c.in_ok-links.ensures c.loop-bond.invariant.0
    (λ id. c.loop-bond.invariant.1 id ∙ ap (list_any (is_end id)) (take_all c.loop-bond.bond-index bonds c.loop-bond-test.false)) a b
    ∙ ap (λ (l : List Bond). special_weight l c.args.weights a b) c.as_slice-bonds.ensures
