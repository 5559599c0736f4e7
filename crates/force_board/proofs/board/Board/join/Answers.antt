use Rattle.std.proofs.Common.{rules}
use Rattle.force_board.proofs.Allowed.{joins}
use Rattle.force_board.proofs.board.Board.join.Goals as goal

pub join_seat-requires : goal.join_seat-requires
join_seat-requires c = (search rules, search rules, search rules, search rules, joins _ _ _ c.args.self.now.key _ _ _ _)
