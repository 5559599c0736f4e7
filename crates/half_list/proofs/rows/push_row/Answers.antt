use Rattle.std.proofs.Common.{◌≡◌, ℕ, rules, subst}
use Rattle.cell_bins.specs.Around.{cells_left, joined}
use Rattle.cell_bins.specs.Bins.{sites_of}
use Rattle.cell_bins.specs.Near.{Meets}
use Rattle.cell_bins.specs.declared.around.CellsAround.{CellsAround}
use Rattle.half_list.proofs.RowLemmas.{row_appended}
use Rattle.half_list.proofs.rows.push_row.Goals as goal

pub returns : goal.returns
returns c =
    let own = c.args.own.now in
    let sites = sites_of c.args.bins.now in
    let start = c.into_iter-cell-iterator.result in
    let same : c.cells_around-cell-items.result ≡ start = search rules in
    let meets : Meets c.args.reach own.x sites (joined (cells_left start)) =
    subst (λ (a : CellsAround). Meets c.args.reach own.x sites (joined (cells_left a))) same
    (subst (λ (r : ℕ). Meets r own.x sites (joined (cells_left c.cells_around-cell-items.result))) c.requires.reach c.cells_around-cell-items.ensures) in
    row_appended c.args.reach own sites c.args.places.now.items c.loop-cell.places.items (cells_left start) (cells_left c.loop-cell.cell-iterator)
    c.loop-cell.invariant c.in-None.ensures.steps.0 meets
