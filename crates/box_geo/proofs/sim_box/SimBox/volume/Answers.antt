use Rattle.std.proofs.Common.{pos, FitsSigned, w64, arith, rules, ap, ◌∙◌}
use Rattle.std.proofs.lemmas.Int.{to_z-of_z}
use Rattle.box_geo.specs.Sides.{IsSound}
use Rattle.box_geo.proofs.NearLemmas.{volume_bounds, volume_of-space, volume_of-plane}
use Rattle.box_geo.proofs.sim_box.SimBox.volume.Goals as goal

pub returns-then-dim-eq3-clause-is : goal.returns-then-dim-eq3-clause-is
returns-then-dim-eq3-clause-is c =
    let f : FitsSigned w64 c.rounded.result = search rules in
    simp to_z-of_z (c.rounded.ensures ∙ ap pos (volume_of-space c.args.self.now.sides _ _ _ c.if-dim-eq3.true c.length.ensures.is c.length-then-dim-eq3.ensures.is c.length-then-dim-eq3-2.ensures.is))

pub returns-else-dim-eq3-clause-is : goal.returns-else-dim-eq3-clause-is
returns-else-dim-eq3-clause-is c =
    let f : FitsSigned w64 c.rounded-else-dim-eq3.result = search rules in
    simp to_z-of_z (c.rounded-else-dim-eq3.ensures ∙ ap pos (volume_of-plane c.args.self.now.sides _ _ c.if-dim-eq3.false c.length-else-dim-eq3.ensures.is c.length-else-dim-eq3-2.ensures.is))

pub returns-then-dim-eq3-clause-positive : goal.returns-then-dim-eq3-clause-positive
returns-then-dim-eq3-clause-positive c = let s : IsSound c.args.self.now.sides = search rules in (volume_bounds c.args.self.now.sides s).0

pub returns-then-dim-eq3-clause-bound : goal.returns-then-dim-eq3-clause-bound
returns-then-dim-eq3-clause-bound c = let s : IsSound c.args.self.now.sides = search rules in omega (arith, (volume_bounds c.args.self.now.sides s).1)

pub returns-else-dim-eq3-clause-positive : goal.returns-else-dim-eq3-clause-positive
returns-else-dim-eq3-clause-positive c = let s : IsSound c.args.self.now.sides = search rules in (volume_bounds c.args.self.now.sides s).0

pub returns-else-dim-eq3-clause-bound : goal.returns-else-dim-eq3-clause-bound
returns-else-dim-eq3-clause-bound c = let s : IsSound c.args.self.now.sides = search rules in omega (arith, (volume_bounds c.args.self.now.sides s).1)
