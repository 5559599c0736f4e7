use Rattle.ghost_shell.proofs.WalkLemmas.{stops_on_plane}
use Rattle.ghost_shell.proofs.visit.Visit.push_plane.Goals as goal

pub returns-then-not-is_near : goal.returns-then-not-is_near
returns-then-not-is_near c =
    let v = c.args.self.now in
    stops_on_plane v.halo v.own (c.args.place, c.args.atom.now) c.args.i.now v.lengths.y.items v.lengths.z.items c.args.ghosts.now.items c.is_near.result c.is_near.ensures c.if-not-is_near.true
