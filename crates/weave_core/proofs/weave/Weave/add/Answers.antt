use Rattle.std.proofs.Common.{sym, arith}
use Rattle.weave_core.proofs.Hands.{next_add-inside}
use Rattle.weave_core.proofs.weave.Weave.add.Goals as goal

pub index-requires : goal.index-requires
index-requires c = omega (arith, (next_add-inside c.self.inside.plan _ _ c.self.invariant.0 (sym c.in-Some.ensures.add)).inside, c.self.inside.words.ok.0)

pub index_mut-requires : goal.index_mut-requires
index_mut-requires c = omega (arith, (next_add-inside c.self.inside.plan _ _ c.self.invariant.0 (sym c.in-Some.ensures.add)).inside, c.self.inside.words.ok.0)
