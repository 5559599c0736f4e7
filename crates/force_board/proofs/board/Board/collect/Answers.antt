use Rattle.std.proofs.Common.{◌≡◌, ap, ◌∙◌, rules}
use Rattle.weave_core.specs.declared.part.Part.{Part}
use Rattle.weave_core.specs.Parts.{total_at, collected}
use Rattle.force_board.proofs.Allowed.{collects, collected_gone}
use Rattle.force_board.proofs.board.Board.collect.Goals as goal

pub swap-found-requires : goal.swap-found-requires
swap-found-requires c = (search rules, search rules, collects _ _ _ c.args.self.now.key _ _ _ c.args.word c.requires.word c.requires.all)

pub returns-clause-gone : goal.returns-clause-gone
returns-clause-gone c =
    let left : c.swap-found.new.seat.me.0 ≡ collected c.args.seat.now.me.0 c.args.word = search rules in
    ap (λ (v : Part). total_at c.args.word v.adds) left ∙ collected_gone c.args.seat.now.me.0 c.args.word
