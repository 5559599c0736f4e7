use Rattle.std.proofs.Common.{ap, ◌∙◌, rules, of_z, w64}
use Rattle.std.proofs.lemmas.Int.{to_z-of_z}
use Rattle.force_board.proofs.Allowed.{adds}
use Rattle.force_board.proofs.board.Board.add.Goals as goal

pub fetch_add-requires : goal.fetch_add-requires
fetch_add-requires c = (
  search rules,
  search rules,
  adds _ _ _ c.args.self.now.key _ _ _ c.args.word _ c.args.value c.requires.word c.requires.seat.shared c.ranges.value
      (c.cast_unsigned-operand.ensures ∙ ap (of_z w64) (to_z-of_z w64 c.args.value c.ranges.value)),
)
