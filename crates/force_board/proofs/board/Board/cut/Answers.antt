use Rattle.std.proofs.Common.{rules, arith}
use Rattle.force_board.proofs.Allowed.{splits}
use Rattle.force_board.proofs.board.Board.cut.Goals as goal

pub split_seat-requires : goal.split_seat-requires
split_seat-requires g c = (search rules, search rules, splits _ _ _ c.args.self.now.key _ _ _ (omega (arith, c.requires.room, c.requires.number)))
