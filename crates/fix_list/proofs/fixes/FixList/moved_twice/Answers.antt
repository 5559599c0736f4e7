use Rattle.std.proofs.Common.{arith, length, ◌≤◌}
use Rattle.std.proofs.lemmas.Grind.{common_steps}
use Rattle.fix_list.proofs.LeastLemmas.{found-twice, found-least, movers-le}
use Rattle.fix_list.proofs.fixes.FixList.moved_twice.Goals as goal

pub returns-clause-twice : goal.returns-clause-twice
returns-clause-twice c = found-twice c.args.self.now c.loop-named.least (grind (arith, common_steps))

pub returns-clause-least : goal.returns-clause-least
returns-clause-least c = λ id t. found-least c.args.self.now c.loop-named.least id (grind (arith, common_steps)) t

pub returns-then-len-lt2-clause-least : goal.returns-then-len-lt2-clause-least
returns-then-len-lt2-clause-least c = λ id t.
    let few : length c.args.self.now ≤ 1 = grind (arith, common_steps) in
    omega (arith, movers-le c.args.self.now id, few)
