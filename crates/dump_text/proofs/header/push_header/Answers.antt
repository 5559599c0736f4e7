use Rattle.std.proofs.Common.{◌∙◌, ◌++◌, List, ℕ, ap}
use Rattle.std.specs.Fmt.{decimal}
use Rattle.dump_text.specs.Frame.{boundaries_text, bounds_text, box_lines, columns_text, header_text, line_text, lines_text}
use Rattle.dump_text.proofs.HeaderLemmas.{header_is}
use Rattle.dump_text.proofs.header.push_header.Goals as goal

pub returns : goal.returns
unfolding header_text
returns c =
    let s = c.args.cell.now.sides in
    let columns = columns_text c.args.columns.now in
    c.in_ok-push_columns.ensures
    ∙ ap (λ (t : List ℕ). t ++ line_text columns) (c.in_ok-push_box.ensures
    ∙ ap (λ (t : List ℕ). t ++ lines_text (box_lines s)) c.in_ok-push_counts.ensures)
    ∙ header_is c.args.text.now (decimal c.args.step) (decimal c.args.count) (boundaries_text s) (bounds_text s.x) (bounds_text s.y) (bounds_text s.z) columns
