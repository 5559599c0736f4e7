-- What is left of a walk through the cells round a position.
use Rattle.std.specs.Prelude.{◌-◌, ◌++◌, ℕ, List, map, flat_map}
use Rattle.std.specs.List.{filter, range_with_len}
use Rattle.box_geo.specs.declared.atoms.Site.{Site}
use Rattle.cell_bins.specs.Bins.{sites_of}
use Rattle.cell_bins.specs.Cells.{is_in, number_round}
use Rattle.cell_bins.specs.declared.around.Around.{Around}
use Rattle.cell_bins.specs.declared.around.CellsAround.{CellsAround}

-- the sites of the cells that are left, cell by cell
abbrev pub cells_left : CellsAround → List (List Site)
cells_left a =
    map (λ k. filter (is_in a.bins.now.cells (number_round a.bins.now.cells a.x a.y a.z k)) (sites_of a.bins.now))
    (range_with_len a.next (27 - a.next))

-- several lists joined to one
abbrev pub joined : List (List Site) → List Site
joined lists = flat_map (λ list. list) lists

-- the places of the sites that are left
abbrev pub places_left : Around → List ℕ
places_left a = map (λ s. s.place) (a.cell.now ++ joined (cells_left a.cells))
