-- What contracts see of bins.
use Rattle.std.specs.Prelude.{ℕ, List}
use Rattle.box_geo.specs.declared.atoms.Site.{Site}
use Rattle.cell_bins.specs.declared.bins.Bins.{Bins}
use Rattle.cell_bins.specs.declared.cells.Cells.{Cells}

-- the sites, in some order
abbrev pub sites_of : Bins → List Site
sites_of b = b.sites.items

-- the cells
abbrev pub cells_of : Bins → Cells
cells_of b = b.cells

-- the reach
abbrev pub reach_of : Bins → ℕ
reach_of b = b.cells.reach
