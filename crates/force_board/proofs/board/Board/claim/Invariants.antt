use Rattle.force_board.proofs.board.Board.claim.Given as goal

abbrev pub ghosts-draw : goal.ghosts-draw
ghosts-draw a = record { number = a.self.now.pieces }
