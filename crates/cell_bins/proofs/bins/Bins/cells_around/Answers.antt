use Rattle.cell_bins.specs.Bins.{sites_of}
use Rattle.cell_bins.proofs.RoundLemmas.{meets_from}
use Rattle.cell_bins.proofs.bins.Bins.cells_around.Goals as goal

pub returns : goal.returns
returns c =
    let bins = c.args.self.now in
    meets_from bins.cells c.args.x (sites_of bins) c.before-2.result c.before-3.result c.before-4.result c.before-2.ensures.is c.before-3.ensures.is c.before-4.ensures.is
