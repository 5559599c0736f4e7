use Rattle.std.proofs.Common.{◌≡◌, ◌<◌, ◌∙◌, ℕ, List, ap, sym, subst, map, rules, arith}
use Rattle.std.specs.List.{All}
use Rattle.box_geo.specs.declared.atoms.Atom.{Atom}
use Rattle.rank_grid.specs.Bricks.{AreCounts, owner, ranks}
use Rattle.rank_grid.specs.Owned.{owner_at, places_back, row_of, rows_of}
use Rattle.rank_grid.proofs.OwnedLemmas.{owners_below, row_by_owners}
use Rattle.sums.proofs.Sorting.{starts_rise, starts_within}
use Rattle.rank_grid.proofs.grid.Grid.migrate.Goals as goal

pub sorted-requires-clause-below : goal.sorted-requires-clause-below
sorted-requires-clause-below c =
    let h : AreCounts c.args.self.now.counts = search rules in
    let of_atom = λ (a : Atom). owner c.args.self.now.counts c.args.self.now.cell.sides a.x in
    let is : c.deref.result.now ≡ map of_atom c.args.atoms.now = c.deref.ensures.value ∙ c.in_ok-owners.ensures ∙ ap (map of_atom) c.as_slice.ensures in
    let below = owners_below c.args.self.now.counts c.args.self.now.cell.sides c.args.atoms.now h c.requires.inside in
    let all : All (λ o. o < ranks c.args.self.now.counts) c.deref.result.now = subst (λ (l : List ℕ). All (λ o. o < ranks c.args.self.now.counts) l) (sym is) below in
    λ k d lt. omega (arith, all k d lt, c.ranks.ensures.is)

pub invariant_of-result : goal.invariant_of-result
invariant_of-result c =
    let owners : List ℕ = c.deref.result.now in
    let m : ℕ = c.ranks.result in
    let starts : List ℕ = c.in_ok-starts.starts.items in
    let places : List ℕ = c.in_ok-starts.places.items in
    let h = c.in_ok-starts.ensures in
    record {
      some = omega (arith, h.long);
      order = λ k lt. starts_rise (owner_at owners) m (places_back owners) starts places h k (omega (arith, h.long, lt));
      within = λ k lt. omega (arith, starts_within (owner_at owners) m (places_back owners) starts places h k (omega (arith, h.long, lt)));
    }

pub returns : goal.returns
unfolding row_of rows_of
returns c =
    let of_atom = λ (a : Atom). owner c.args.self.now.counts c.args.self.now.cell.sides a.x in
    let owners : List ℕ = c.deref.result.now in
    let is : owners ≡ map of_atom c.args.atoms.now = c.deref.ensures.value ∙ c.in_ok-owners.ensures ∙ ap (map of_atom) c.as_slice.ensures in
    record {
      each = omega (arith, c.in_ok-starts.ensures.long, c.ranks.ensures.is);
      rows = λ rank lt. row_by_owners c.args.self.now.counts c.args.self.now.cell.sides c.args.atoms.now owners c.in_ok-starts.starts.items c.in_ok-starts.places.items c.ranks.result rank is c.in_ok-starts.ensures (omega (arith, lt, c.ranks.ensures.is));
    }
