use Rattle.std.proofs.Common.{◌∙◌, sym, ap, rules}
use Rattle.box_geo.specs.Sides.{IsSound}
use Rattle.box_geo.specs.Wrap.{wrap}
use Rattle.box_geo.proofs.NearLemmas.{sound_edges}
use Rattle.data_file.proofs.KeptLemmas.{kept_edges, kept_not_lost}
use Rattle.data_file.proofs.atom_rows.edges_off.Goals as goal

pub unreachable-requires : goal.unreachable-requires
unreachable-requires c =
    let sound : IsSound c.args.cell.now.sides = search rules in
    kept_not_lost c.args.cell.now.sides c.args.x c.in-Err.field-0.0 (sound_edges c.args.cell.now.sides sound) (ap (wrap c.args.cell.now.sides) (sym c.kept.ensures.is) ∙ c.in-Err.ensures.is)

pub returns-clause-is : goal.returns-clause-is
returns-clause-is c =
    let sound : IsSound c.args.cell.now.sides = search rules in
    kept_edges c.args.cell.now.sides c.args.x _ (sound_edges c.args.cell.now.sides sound) (ap (wrap c.args.cell.now.sides) (sym c.kept.ensures.is) ∙ c.in-Ok.ensures.is)
