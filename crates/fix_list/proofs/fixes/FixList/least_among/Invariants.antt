use Rattle.std.proofs.Common.{◌≡◌, drop}
use Rattle.fix_list.specs.Least.{least_among}
use Rattle.fix_list.proofs.fixes.FixList.least_among.Given as goal

abbrev pub invariant-loop-id : goal.invariant-loop-id
invariant-loop-id l = least_among l.self (drop l.id-index l.ids) l.least ≡ least_among l.self l.ids l.initial.least
