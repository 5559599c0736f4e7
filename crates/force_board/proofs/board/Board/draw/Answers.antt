use Rattle.std.proofs.Common.{rules}
use Rattle.force_board.proofs.Allowed.{claims_at}
use Rattle.force_board.proofs.board.Board.draw.Goals as goal

pub fetch_add-requires : goal.fetch_add-requires
fetch_add-requires g c = (search rules, search rules, claims_at _ _ _ c.args.self.now.key _ c.requires.number _ _ _ c.args.self.now.few c.requires.room)
