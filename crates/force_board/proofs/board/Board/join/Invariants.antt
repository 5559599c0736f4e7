use Rattle.force_board.proofs.board.Board.join.Given as goal

abbrev pub ghosts-look : goal.ghosts-look
ghosts-look a = record { number = a.self.now.pieces }
