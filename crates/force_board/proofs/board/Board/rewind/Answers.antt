use Rattle.std.proofs.Common.{◌≡◌, rules}
use Rattle.weave_core.specs.declared.limits.TheConstants.{SHARES}
use Rattle.force_board.proofs.Allowed.{unclaims, unkeys}
use Rattle.force_board.proofs.board.Board.rewind.Goals as goal

pub swap-requires : goal.swap-requires
swap-requires c = (search rules, search rules, unclaims _ _ _ c.args.self.now.key _ _ _ c.requires.all)

pub swap-requires-2 : goal.swap-requires-2
swap-requires-2 c =
    let all : c.swap.new.seat.me.0.shares ≡ SHARES = search rules in
    (search rules, search rules, unkeys _ _ _ c.args.self.now.key _ _ _ all)
