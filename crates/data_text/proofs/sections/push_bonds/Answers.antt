use Rattle.std.proofs.Common.{◌≡◌, ◌<◌, length, codes, arith}
use Rattle.std.specs.List.{enumerate_from}
use Rattle.std.proofs.lemmas.List.FromFn.{length-enumerate_from}
use Rattle.std.proofs.lemmas.Bool.Decides.{nat_tests}
use Rattle.data_text.specs.DataText.{bond_lines, bond_row}
use Rattle.data_text.proofs.SectionLemmas.{section_is, section_none}
use Rattle.data_text.proofs.sections.push_bonds.Goals as goal

pub returns-then-is_empty : goal.returns-then-is_empty
unfolding bond_lines
returns-then-is_empty c =
    let none : length c.args.bonds.now ≡ 0 = grind (arith, nat_tests, c.is_empty.ensures, c.if-is_empty.true) in
    let no_row : length (enumerate_from 1 c.args.bonds.now) ≡ 0 = omega (arith, none, length-enumerate_from 1 c.args.bonds.now) in
    section_none (codes "Bonds") bond_row (enumerate_from 1 c.args.bonds.now) c.args.text.now no_row

pub returns : goal.returns
unfolding bond_lines
returns c =
    let some : 0 < length c.args.bonds.now = grind (arith, nat_tests, c.is_empty.ensures, c.if-is_empty.false) in
    let some_row : 0 < length (enumerate_from 1 c.args.bonds.now) = omega (arith, some, length-enumerate_from 1 c.args.bonds.now) in
    section_is (codes "Bonds") bond_row (enumerate_from 1 c.args.bonds.now) c.args.text.now c.push_title.new.text c.push_bond_rows.new.text some_row c.in_ok-push_title.ensures c.in_ok-push_bond_rows.ensures
