use Rattle.cell_bins.specs.Around.{cells_left, joined}
use Rattle.cell_bins.specs.Bins.{reach_of, sites_of}
use Rattle.cell_bins.proofs.MeetLemmas.{met_each, met_once}
use Rattle.cell_bins.proofs.bins.Bins.around.Goals as goal

pub returns-clause-each : goal.returns-clause-each
returns-clause-each c =
    let bins = c.args.self.now in
    met_each (reach_of bins) c.args.x (sites_of bins) (joined (cells_left c.cells_around.result)) c.cells_around.ensures

pub returns-clause-once : goal.returns-clause-once
returns-clause-once c =
    let bins = c.args.self.now in
    met_once (reach_of bins) c.args.x (sites_of bins) (joined (cells_left c.cells_around.result)) c.cells_around.ensures
