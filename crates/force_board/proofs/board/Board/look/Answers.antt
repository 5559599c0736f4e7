use Rattle.std.proofs.Common.{rules}
use Rattle.force_board.proofs.Allowed.{looks_at}
use Rattle.force_board.proofs.board.Board.look.Goals as goal

pub load-requires : goal.load-requires
load-requires g c = (search rules, search rules, looks_at _ _ _ c.args.self.now.key _ c.requires.number _ _ _ c.args.self.now.few)
