use Rattle.std.proofs.Common.{◌++◌, ◌∙◌, ap, ℤ, pos, List, [], ◌∷◌}
use Rattle.ghost_shell.specs.declared.atom.Ghost.{Ghost}
use Rattle.ghost_shell.specs.Walks.{ghost_by}
use Rattle.ghost_shell.proofs.SignLemmas.{read_three}
use Rattle.ghost_shell.proofs.WalkLemmas.{list_more, short_at, stops_on_line}
use Rattle.ghost_shell.proofs.visit.Visit.push_line.Goals as goal

pub returns-then-not-is_near : goal.returns-then-not-is_near
returns-then-not-is_near c =
    let v = c.args.self.now in
    stops_on_line v.halo v.own (c.args.place, c.args.atom.now) c.args.i.now c.args.j.now v.lengths.z.items c.args.ghosts.now.items c.is_near.result c.is_near.ensures c.if-not-is_near.true

pub loop-k-preserved : goal.loop-k-preserved
loop-k-preserved c =
    let v = c.args.self.now in
    let by : List ℤ → List Ghost = ghost_by v.halo v.own (c.args.place, c.args.atom.now) in
    let ks : List ℤ = c.as_slice-k-items.result.now in
    list_more (λ k. by (c.args.i.now ∷ c.args.j.now ∷ k ∷ [])) ks c.loop-k.k-index (pos 0) c.loop-k.ghosts.items c.push_image.new.ghosts.items _ c.loop-k-test.true
    (c.in_ok-push_image.ensures
    ∙ ap (λ (shift : List ℤ). c.loop-k.ghosts.items ++ by shift)
    (read_three _ _ _ c.requires.i c.requires.j (short_at ks v.lengths.z.items c.loop-k.k-index (pos 0) c.as_slice-k-items.ensures.value v.lengths.z_short c.loop-k-test.true)))
    c.loop-k.invariant
