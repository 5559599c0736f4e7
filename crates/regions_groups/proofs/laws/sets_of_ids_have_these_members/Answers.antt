use Rattle.std.proofs.Common.{◌∙◌, true, false}
use Rattle.box_geo.specs.Ids.{is_among}
use Rattle.regions_groups.proofs.OrderLemmas.{among_merged, rises_merged, told_difference, told_either, told_intersection}
use Rattle.regions_groups.proofs.laws.sets_of_ids_have_these_members.Goals as goal

pub returns-clause-either : goal.returns-clause-either
returns-clause-either c ids others id one two =
    among_merged true true true ids others id one two ∙ told_either (is_among ids id) (is_among others id)

pub returns-clause-first : goal.returns-clause-first
returns-clause-first c ids others id one two =
    among_merged true false false ids others id one two ∙ told_difference (is_among ids id) (is_among others id)

pub returns-clause-both : goal.returns-clause-both
returns-clause-both c ids others id one two =
    among_merged false true false ids others id one two ∙ told_intersection (is_among ids id) (is_among others id)

pub returns-clause-union_rises : goal.returns-clause-union_rises
returns-clause-union_rises c ids others one two = rises_merged true true true ids others one two

pub returns-clause-difference_rises : goal.returns-clause-difference_rises
returns-clause-difference_rises c ids others one two = rises_merged true false false ids others one two

pub returns-clause-intersection_rises : goal.returns-clause-intersection_rises
returns-clause-intersection_rises c ids others one two = rises_merged false true false ids others one two
