use Rattle.std.proofs.Common.{get_or, refl}
use Rattle.neighbor_lists.proofs.PairLemmas.{sites_more}
use Rattle.neighbor_lists.proofs.sites.push_own.Goals as goal

pub loop-place-preserved : goal.loop-place-preserved
loop-place-preserved c =
    let i = c.loop-place.place-index in
    sites_more c.args.atoms.now c.args.places.now i (get_or c.args.places.now i 0) _ c.own_site.result c.args.sites.now.items c.loop-place.sites.items c.push.new.self.items
    c.loop-place-test.true refl (c.requires i 0 c.loop-place-test.true) c.own_site.ensures c.loop-place.invariant c.in_ok-push.ensures.items
