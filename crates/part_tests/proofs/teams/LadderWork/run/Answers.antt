use Rattle.std.proofs.Common.{pos, rules, arith}
use Rattle.part_tests.proofs.Ladders.{ladder_played}
use Rattle.part_tests.proofs.teams.LadderWork.run.Goals as goal

pub add-requires-clause-word : goal.add-requires-clause-word
add-requires-clause-word g c = (c.requires.small 1 (0, pos 0) (omega arith)).inside

pub add-requires-2-clause-word : goal.add-requires-2-clause-word
add-requires-2-clause-word g c = (c.requires.small 0 (0, pos 0) (omega arith)).inside

pub returns-clause-played : goal.returns-clause-played
returns-clause-played g c =
    let piece = c.args.piece in
    ladder_played piece _ _ (search rules)
