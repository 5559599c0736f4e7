use Rattle.work_team.proofs.team.+fn-help-join_mut+arg2+fn-help-join_mut+arg3+help.Given as goal

abbrev pub decreases-join_mut+arg2 : goal.decreases-join_mut+arg2
decreases-join_mut+arg2 g l = l.half

abbrev pub decreases-join_mut+arg3 : goal.decreases-join_mut+arg3
decreases-join_mut+arg3 g l = l.rest

abbrev pub decreases-help : goal.decreases-help
decreases-help g l = l.workers
