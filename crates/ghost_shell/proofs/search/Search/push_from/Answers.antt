use Rattle.std.proofs.Common.{◌++◌, ◌==◌, ◌∙◌, ap, sym, subst, refl, ℤ, List, rules}
use Rattle.std.proofs.lemmas.List.{append-nil}
use Rattle.box_geo.specs.Sides.{IsSound}
use Rattle.rank_grid.specs.Bricks.{AreCounts, high_side, low_side}
use Rattle.ghost_shell.specs.declared.atom.Ghost.{Ghost}
use Rattle.ghost_shell.specs.Lengths.{AreNearLengths}
use Rattle.ghost_shell.proofs.WalkLemmas.{atoms_near, found_by_row, none_from, row_places}
use Rattle.ghost_shell.proofs.search.Search.push_from.Goals as goal

pub returns-then-not-are_some : goal.returns-then-not-are_some
returns-then-not-are_some c =
    let h : AreCounts c.args.grid.now.counts = search rules in
    let counts : List _ = c.args.grid.now.counts in
    let s = c.args.grid.now.cell.sides in
    let halo = c.args.self.now.halo in
    let all = c.args.self.now.lengths in
    let near = c.in_ok-lengths.lengths in
    let kept : AreNearLengths c.args.self.now.halo (low_side c.args.grid.now.counts c.args.grid.now.cell.sides c.args.other) (high_side c.args.grid.now.counts c.args.grid.now.cell.sides c.args.other) c.args.self.now.lengths c.in_ok-lengths.lengths =
    subst (λ (p : List ℤ). AreNearLengths halo p (high_side counts s c.args.other) all near) c.brick.ensures.low
    (subst (λ (p : List ℤ). AreNearLengths halo c.brick.result.0 p all near) c.brick.ensures.high c.in_ok-lengths.ensures) in
    sym (append-nil c.args.ghosts.now.items)
    ∙ ap (λ (l : List Ghost). c.args.ghosts.now.items ++ l)
    (sym (none_from counts s c.args.atoms.now halo c.args.self.now.rank c.args.other all near h c.requires.inside c.requires.lengths kept (sym c.are_some.ensures ∙ c.if-not-are_some.true)))

pub push_brick-requires-clause-places : goal.push_brick-requires-clause-places
push_brick-requires-clause-places c =
    row_places c.args.grid.now.counts c.args.grid.now.cell.sides c.args.atoms.now c.args.other c.row.result.now (c.row.ensures ∙ c.requires.owned.rows c.args.other c.requires.other)

pub push_brick-requires-clause-inside : goal.push_brick-requires-clause-inside
push_brick-requires-clause-inside c =
    let s : IsSound c.args.grid.now.cell.sides = search rules in
    atoms_near c.args.grid.now.cell.sides c.args.atoms.now s c.requires.inside

pub returns : goal.returns
returns c =
    let h : AreCounts c.args.grid.now.counts = search rules in
    let counts : List _ = c.args.grid.now.counts in
    let s = c.args.grid.now.cell.sides in
    let halo = c.args.self.now.halo in
    let all = c.args.self.now.lengths in
    let near = c.in_ok-lengths.lengths in
    let kept : AreNearLengths c.args.self.now.halo (low_side c.args.grid.now.counts c.args.grid.now.cell.sides c.args.other) (high_side c.args.grid.now.counts c.args.grid.now.cell.sides c.args.other) c.args.self.now.lengths c.in_ok-lengths.lengths =
    subst (λ (p : List ℤ). AreNearLengths halo p (high_side counts s c.args.other) all near) c.brick.ensures.low
    (subst (λ (p : List ℤ). AreNearLengths halo c.brick.result.0 p all near) c.brick.ensures.high c.in_ok-lengths.ensures) in
    c.in_ok-push_brick.ensures
    ∙ ap (λ (l : List Ghost). c.args.ghosts.now.items ++ l)
    (found_by_row counts s c.args.atoms.now halo c.args.self.now.rank c.args.other (c.args.other == c.args.self.now.rank) all near c.row.result.now h c.requires.inside c.requires.lengths kept refl
    (c.row.ensures ∙ c.requires.owned.rows c.args.other c.requires.other))
