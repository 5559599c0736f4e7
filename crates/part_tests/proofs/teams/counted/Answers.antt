use Rattle.std.proofs.Common.{◌<◌, ◌≤◌, FitsSigned, sym, ap, ◌∙◌, subst, arith}
use mir.Syntax.{w64}
use Rattle.weave_core.specs.declared.part.Part.{Part}
use Rattle.weave_core.specs.declared.limits.TheConstants.{MAX_PIECES}
use Rattle.weave_core.specs.Parts.{total_at}
use Rattle.force_board.specs.Seats.{pieces_of, words_of, part}
use Rattle.part_tests.proofs.Ladders.{clear_at_first, few_adds, second_stays}
use Rattle.part_tests.proofs.teams.counted.Goals as goal

pub collect-first-requires-clause-fits : goal.collect-first-requires-clause-fits
collect-first-requires-clause-fits g c =
    let board = c.in_ok-board.board in
    let reads = c.do_all-tally.ensures.reads (clear_at_first (words_of board) (part c.in_ok-board.seat) c.in_ok-board.ensures.part) in
    let few : pieces_of board ≤ MAX_PIECES = omega (arith, c.in_ok-board.ensures.pieces, c.requires.pieces) in
    let inside : 0 < words_of board = omega (arith, c.in_ok-board.ensures.words) in
    subst (λ (v : Part). FitsSigned w64 (total_at 0 v.adds)) (sym c.claims-claims.ensures.same) (reads.fits 0 inside (few_adds board few 0))

pub collect-second-requires-clause-fits : goal.collect-second-requires-clause-fits
collect-second-requires-clause-fits g c =
    let board = c.in_ok-board.board in
    let reads = c.do_all-tally.ensures.reads (clear_at_first (words_of board) (part c.in_ok-board.seat) c.in_ok-board.ensures.part) in
    let few : pieces_of board ≤ MAX_PIECES = omega (arith, c.in_ok-board.ensures.pieces, c.requires.pieces) in
    let inside : 1 < words_of board = omega (arith, c.in_ok-board.ensures.words) in
    let same = second_stays (part c.claims-claims.new.seat) (part c.collect-first.new.seat) c.collect-first.ensures.left ∙ ap (λ (v : Part). total_at 1 v.adds) c.claims-claims.ensures.same in
    subst (FitsSigned w64) (sym same) (reads.fits 1 inside (few_adds board few 1))
