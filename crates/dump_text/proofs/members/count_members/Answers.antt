use Rattle.std.proofs.Common.{◌≡◌, ◌∙◌, ◌+◌, drop, length, sym, arith}
use Rattle.dump_text.specs.Frame.{members}
use Rattle.dump_text.proofs.WalkLemmas.{counted_none, counted_one, rises_behind, rises_left}
use Rattle.dump_text.proofs.members.count_members.Goals as goal
use Rattle.dump_text.proofs.members.count_members.Goals.{then-begins_with, else-begins_with}

pub loop-atom-preserved : goal.loop-atom-preserved
loop-atom-preserved c =
    let atoms = c.args.atoms.now in
    let i = c.loop-atom.atom-index in
    let ids = c.loop-atom.rest.now in
    let rest = c.ids_from-rest.result.now in
    let old = c.loop-atom.invariant in
    elim c.if-begins_with.branch [
      | then-begins_with w ↦
          let more : length (members ids (drop i atoms)) ≡ length (members rest (drop (i + 1) atoms)) + 1 =
          counted_one atoms i _ ids rest c.loop-atom-test.true old.rising_atoms old.rising_ids c.ids_from-rest.ensures (sym c.begins_with.ensures ∙ w.if-begins_with.true) in
          record {
            counted = omega arith;
            few = omega arith;
            rising_ids = rises_left atoms i _ ids rest c.ids_from-rest.ensures old.rising_ids;
            rising_atoms = rises_behind atoms i old.rising_atoms;
          }
      | else-begins_with w ↦
          let more : length (members ids (drop i atoms)) ≡ length (members rest (drop (i + 1) atoms)) =
          counted_none atoms i _ ids rest c.loop-atom-test.true old.rising_atoms old.rising_ids c.ids_from-rest.ensures (sym c.begins_with.ensures ∙ w.if-begins_with.false) in
          record {
            counted = omega arith;
            few = omega arith;
            rising_ids = rises_left atoms i _ ids rest c.ids_from-rest.ensures old.rising_ids;
            rising_atoms = rises_behind atoms i old.rising_atoms;
          }
    ]
