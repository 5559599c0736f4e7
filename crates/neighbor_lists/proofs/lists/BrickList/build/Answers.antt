use Rattle.std.proofs.Common.{◌<◌, ◌∙◌, ap, length, sym, subst, arith, All, ℕ, List, w64}
use Rattle.std.proofs.lemmas.Int.{to_z-of_z}
use Rattle.box_geo.specs.declared.atoms.Site.{Site}
use Rattle.cell_bins.specs.Near.{IsSmall}
use Rattle.ghost_shell.proofs.WalkLemmas.{row_places}
use Rattle.half_list.specs.Lists.{row_of}
use Rattle.neighbor_lists.proofs.PairLemmas.{listed}
use Rattle.neighbor_lists.proofs.SiteLemmas.{all_few, all_small, made_all, made_own, own_few, own_small, places_are, places_few, read_reach}
use Rattle.neighbor_lists.proofs.lists.BrickList.build.Goals as goal

pub own_sites-requires : goal.own_sites-requires
own_sites-requires c =
    subst (λ (n : ℕ). All (λ k. k < n) c.row-places.result.now) (ap length (sym c.as_slice.ensures))
    (row_places c.args.grid.now.counts c.args.grid.now.cell.sides c.args.atoms.now c.args.rank c.row-places.result.now (c.row-places.ensures ∙ c.requires.owned.rows c.args.rank c.requires.rank))

pub all_sites-requires : goal.all_sites-requires
all_sites-requires c =
    subst (λ (n : ℕ). All (λ k. k < n) c.row-places.result.now) (ap length (sym c.as_slice-2.ensures))
    (row_places c.args.grid.now.counts c.args.grid.now.cell.sides c.args.atoms.now c.args.rank c.row-places.result.now (c.row-places.ensures ∙ c.requires.owned.rows c.args.rank c.requires.rank))

pub build-requires-clause-own_few : goal.build-requires-clause-own_few
build-requires-clause-own_few c =
    let counts = c.args.grid.now.counts in
    let s = c.args.grid.now.cell.sides in
    let atoms = c.args.atoms.now in
    let is = made_own counts s atoms c.as_slice.result.now c.args.rank c.row-places.result.now c.in_ok-own.own c.as_slice.ensures (c.row-places.ensures ∙ c.requires.owned.rows c.args.rank c.requires.rank) c.in_ok-own.ensures in
    omega (arith, ap length is, own_few counts s atoms c.args.rank, c.requires.few)

pub build-requires-clause-own_small : goal.build-requires-clause-own_small
build-requires-clause-own_small c =
    let counts = c.args.grid.now.counts in
    let s = c.args.grid.now.cell.sides in
    let atoms = c.args.atoms.now in
    let is = made_own counts s atoms c.as_slice.result.now c.args.rank c.row-places.result.now c.in_ok-own.own c.as_slice.ensures (c.row-places.ensures ∙ c.requires.owned.rows c.args.rank c.requires.rank) c.in_ok-own.ensures in
    subst (λ (l : List Site). All (λ b. IsSmall b.x) l) (sym is) (own_small counts s atoms c.args.rank c.args.grid.now.cell.sound c.requires.inside)

pub build-requires-clause-few : goal.build-requires-clause-few
build-requires-clause-few c =
    let counts = c.args.grid.now.counts in
    let s = c.args.grid.now.cell.sides in
    let atoms = c.args.atoms.now in
    let found = c.in_ok-ghosts.ghosts.ghosts.items in
    let is = made_all counts s atoms c.as_slice-2.result.now c.args.rank c.row-places.result.now c.in_ok-all.all c.ghosts.result.now found c.as_slice-2.ensures (c.row-places.ensures ∙ c.requires.owned.rows c.args.rank c.requires.rank) c.ghosts.ensures c.in_ok-all.ensures in
    omega (arith, ap length is, all_few counts s c.args.rank c.args.reach atoms found c.requires.few (read_reach counts s c.args.rank c.args.reach atoms found c.ranges.reach c.in_ok-ghosts.ensures.ghosts))

pub build-requires-clause-small : goal.build-requires-clause-small
build-requires-clause-small c =
    let counts = c.args.grid.now.counts in
    let s = c.args.grid.now.cell.sides in
    let atoms = c.args.atoms.now in
    let found = c.in_ok-ghosts.ghosts.ghosts.items in
    let is = made_all counts s atoms c.as_slice-2.result.now c.args.rank c.row-places.result.now c.in_ok-all.all c.ghosts.result.now found c.as_slice-2.ensures (c.row-places.ensures ∙ c.requires.owned.rows c.args.rank c.requires.rank) c.ghosts.ensures c.in_ok-all.ensures in
    subst (λ (l : List Site). All (λ b. IsSmall b.x) l) (sym is) (all_small counts s c.args.rank c.args.reach atoms found c.args.grid.now.cell.sound c.requires.inside (read_reach counts s c.args.rank c.args.reach atoms found c.ranges.reach c.in_ok-ghosts.ensures.ghosts))

pub invariant_of-result : goal.invariant_of-result
invariant_of-result c =
    let counts = c.args.grid.now.counts in
    let s = c.args.grid.now.cell.sides in
    let atoms = c.args.atoms.now in
    let owned = c.row-places.ensures ∙ c.requires.owned.rows c.args.rank c.requires.rank in
    let is = made_own counts s atoms c.as_slice.result.now c.args.rank c.row-places.result.now c.in_ok-own.own c.as_slice.ensures owned c.in_ok-own.ensures in
    let size = places_few counts s atoms c.args.rank c.row-places.result.now c.requires.few owned in
    record {
      few = omega (arith, size.0, ap length c.in_ok-own-2.ensures.items);
      each = c.in_ok-rows.ensures.count ∙ ap length is ∙ size.1 ∙ sym (ap length c.in_ok-own-2.ensures.items);
    }

pub returns-clause-pairs : goal.returns-clause-pairs
returns-clause-pairs c =
    let counts = c.args.grid.now.counts in
    let s = c.args.grid.now.cell.sides in
    let atoms = c.args.atoms.now in
    let found = c.in_ok-ghosts.ghosts.ghosts.items in
    let owned = c.row-places.ensures ∙ c.requires.owned.rows c.args.rank c.requires.rank in
    listed counts s atoms c.args.rank c.args.reach _ found c.in_ok-own.own c.in_ok-all.all c.in_ok-own-2.own.items (row_of c.in_ok-rows.rows) c.requires.reach.0 (to_z-of_z w64 c.args.reach c.ranges.reach)
    (made_own counts s atoms c.as_slice.result.now c.args.rank c.row-places.result.now c.in_ok-own.own c.as_slice.ensures owned c.in_ok-own.ensures)
    (made_all counts s atoms c.as_slice-2.result.now c.args.rank c.row-places.result.now c.in_ok-all.all c.ghosts.result.now found c.as_slice-2.ensures owned c.ghosts.ensures c.in_ok-all.ensures)
    (c.in_ok-own-2.ensures.items ∙ places_are counts s atoms c.args.rank c.row-places.result.now owned)
    (read_reach counts s c.args.rank c.args.reach atoms found c.ranges.reach c.in_ok-ghosts.ensures.ghosts) c.in_ok-rows.ensures.rows
