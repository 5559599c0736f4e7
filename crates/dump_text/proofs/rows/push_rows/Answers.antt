use Rattle.std.proofs.Common.{◌∙◌}
use Rattle.dump_text.proofs.RowLemmas.{rows_end, rows_more}
use Rattle.dump_text.proofs.WalkLemmas.{rises_behind, rises_left}
use Rattle.dump_text.proofs.rows.push_rows.Goals as goal

pub loop-atom-preserved : goal.loop-atom-preserved
loop-atom-preserved c =
    let atoms = c.args.atoms.now in
    let i = c.loop-atom.atom-index in
    let ids = c.loop-atom.rest.now in
    let rest = c.ids_from-rest.result.now in
    let old = c.loop-atom.invariant in
    record {
      pushed =
          rows_more c.args.cell.now.sides c.args.masses.now c.args.columns.now atoms i _ ids rest c.loop-atom.text c.push_member.new.text c.loop-atom-test.true old.rising_atoms old.rising_ids c.ids_from-rest.ensures c.in_ok-push_member.ensures
          ∙ old.pushed;
      rising_ids = rises_left atoms i _ ids rest c.ids_from-rest.ensures old.rising_ids;
      rising_atoms = rises_behind atoms i old.rising_atoms;
    }

pub returns : goal.returns
returns c =
    rows_end c.args.cell.now.sides c.args.masses.now c.args.columns.now c.args.atoms.now c.loop-atom.atom-index c.loop-atom.rest.now c.loop-atom.text _ c.loop-atom-test.false c.loop-atom.invariant.pushed
