use Rattle.dump_text.proofs.FrameLemmas.{frame_is}
use Rattle.dump_text.proofs.frames.frame.Goals as goal

pub returns : goal.returns
returns c =
    frame_is c.args.cell.now.sides c.args.masses.now c.args.atoms.now c.args.ids.now c.as_slice-columns.result.now c.args.spec.now c.args.step c.count_members-count.result
    c.new-text.result c.push_header.new.text c.push_rows.new.text
    c.new-text.ensures c.as_slice-columns.ensures c.count_members-count.ensures c.in_ok-push_header.ensures c.in_ok-push_rows.ensures
