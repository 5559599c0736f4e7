-- A board and the seats at it.
use Rattle.std.specs.Prelude.{◌≡◌, ℕ, ◌<◌, []}
use Rattle.atomic_table.specs.declared.shared.Seat.{Seat}
use Rattle.weave_core.specs.declared.part.Part.{Part}
use Rattle.force_board.specs.declared.board.Board.{Board}

-- how many pieces a board has, and how many force words
abbrev pub pieces_of : Board → ℕ
pieces_of board = board.pieces

abbrev pub words_of : Board → ℕ
words_of board = board.count

-- what a seat has done and holds
abbrev pub part : Seat ℕ Part → Part
part seat = seat.me.0

-- the seat is one of this board, and it has a share
pub record IsSeatOf (board : Board) (seat : Seat ℕ Part) : Type 0 where
  pub table : seat.table_id ≡ board.table.shared.table_id
  pub empty : seat.me.1 ≡ []
  pub shared : 0 < seat.me.0.shares
