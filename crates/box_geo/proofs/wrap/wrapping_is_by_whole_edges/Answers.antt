use Rattle.box_geo.proofs.WrapLemmas.{wrap-made, wrap-only, wrap-inside, wrap-lost, one_way}
use Rattle.box_geo.proofs.wrap.wrapping_is_by_whole_edges.Goals as goal

pub returns-clause-is : goal.returns-clause-is
returns-clause-is c = λ s p w some. (wrap-made s p w some, wrap-only s p w some)

pub returns-clause-inside : goal.returns-clause-inside
returns-clause-inside c = wrap-inside

pub returns-clause-only : goal.returns-clause-only
returns-clause-only c = one_way

pub returns-clause-lost : goal.returns-clause-lost
returns-clause-lost c = wrap-lost
