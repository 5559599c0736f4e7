use Rattle.std.proofs.Common.{List, IsPermutation, subst}
use Rattle.box_geo.specs.declared.atoms.Site.{Site}
use Rattle.cell_bins.proofs.BinLemmas.{cells_are, same_sites}
use Rattle.cell_bins.specs.Cells.{count_of, number_at}
use Rattle.sums.proofs.Sorting.{starts_rise, starts_within}
use Rattle.cell_bins.proofs.bins.Bins.fill.Goals as goal

pub invariant_of-result : goal.invariant_of-result
invariant_of-result c =
    let cells = c.cells_for-cells.result in
    let sites = c.as_slice-sites.result.now in
    let starts = c.in_ok-starts.starts.items in
    let sorted = c.in_ok-starts.sites.items in
    let h = c.in_ok-starts.ensures in
    record {
      long = h.long;
      order = starts_rise (λ (s : Site). number_at cells s.x) (count_of cells) sites starts sorted h;
      within = starts_within (λ (s : Site). number_at cells s.x) (count_of cells) sites starts sorted h;
      parts = cells_are cells sites starts sorted h;
    }

pub returns-clause-sites : goal.returns-clause-sites
returns-clause-sites c =
    let sorted = c.in_ok-starts.sites.items in
    subst (λ (l : List Site). IsPermutation l sorted) c.as_slice-sites.ensures
    (same_sites c.cells_for-cells.result c.as_slice-sites.result.now c.in_ok-starts.starts.items sorted c.in_ok-starts.ensures)
