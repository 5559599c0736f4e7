use Rattle.std.proofs.Common.{rules}
use Rattle.force_board.proofs.Allowed.{counts}
use Rattle.force_board.proofs.board.Board.claims.Goals as goal

pub load-requires : goal.load-requires
load-requires c = (search rules, search rules, counts _ _ _ c.args.self.now.key _ _ _ c.requires.all)
