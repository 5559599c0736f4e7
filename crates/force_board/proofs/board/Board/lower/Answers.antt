use Rattle.std.proofs.Common.{rules}
use Rattle.force_board.proofs.Allowed.{lowers}
use Rattle.force_board.proofs.board.Board.lower.Goals as goal

pub fetch_min-requires : goal.fetch_min-requires
fetch_min-requires c = (search rules, search rules, lowers _ _ _ c.args.self.now.key _ _ _ _ c.requires.seat.shared)
