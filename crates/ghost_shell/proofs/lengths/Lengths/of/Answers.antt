use Rattle.std.proofs.Common.{rules}
use Rattle.box_geo.specs.Sides.{IsSound}
use Rattle.ghost_shell.proofs.WalkLemmas.{short_lengths}
use Rattle.ghost_shell.proofs.lengths.Lengths.of.Goals as goal

pub invariant_of-result : goal.invariant_of-result
invariant_of-result c =
    let s = c.args.cell.now.sides in
    let sound : IsSound c.args.cell.now.sides = search rules in
    record {
      x_short = short_lengths s.x.periodic s.x c.in_ok-x.x.items sound.0 c.in_ok-x.ensures;
      y_short = short_lengths s.y.periodic s.y c.in_ok-y.y.items sound.1 c.in_ok-y.ensures;
      z_short = short_lengths c.z_wraps.result s.z c.in_ok-z.z.items sound.2 c.in_ok-z.ensures;
    }
