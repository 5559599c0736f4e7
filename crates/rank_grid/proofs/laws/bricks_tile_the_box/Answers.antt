use Rattle.rank_grid.proofs.RankLemmas.{owner-below, owner-holds, owner-only, brick-inside}
use Rattle.rank_grid.proofs.laws.bricks_tile_the_box.Goals as goal

pub returns-clause-rank : goal.returns-clause-rank
returns-clause-rank c = λ counts s p h long inside. owner-below counts s p h inside

pub returns-clause-owner : goal.returns-clause-owner
returns-clause-owner c = λ counts s p h long inside. owner-holds counts s p h inside

pub returns-clause-only : goal.returns-clause-only
returns-clause-only c = λ counts s rank p h long inside lt held. owner-only counts s rank p h held

pub returns-clause-inside : goal.returns-clause-inside
returns-clause-inside c = λ counts s rank p h long lt held. brick-inside counts s rank p h long lt held
