use Rattle.std.proofs.Common.{◌≡◌, ◌<◌, length, codes, arith}
use Rattle.std.proofs.lemmas.Bool.Decides.{nat_tests}
use Rattle.data_text.specs.DataText.{velocity_lines, velocity_row}
use Rattle.data_text.proofs.SectionLemmas.{section_is, section_none}
use Rattle.data_text.proofs.sections.push_velocities.Goals as goal

pub returns-then-is_empty : goal.returns-then-is_empty
unfolding velocity_lines
returns-then-is_empty c =
    let none : length c.args.atoms.now ≡ 0 = grind (arith, nat_tests, c.is_empty.ensures, c.if-is_empty.true) in
    let no_row : length c.args.atoms.now ≡ 0 = omega (arith, none) in
    section_none (codes "Velocities") velocity_row c.args.atoms.now c.args.text.now no_row

pub returns : goal.returns
unfolding velocity_lines
returns c =
    let some : 0 < length c.args.atoms.now = grind (arith, nat_tests, c.is_empty.ensures, c.if-is_empty.false) in
    let some_row : 0 < length c.args.atoms.now = omega (arith, some) in
    section_is (codes "Velocities") velocity_row c.args.atoms.now c.args.text.now c.push_title.new.text c.push_velocity_rows.new.text some_row c.in_ok-push_title.ensures c.in_ok-push_velocity_rows.ensures
