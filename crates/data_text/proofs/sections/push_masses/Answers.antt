use Rattle.std.proofs.Common.{◌∙◌, codes, map, sym}
use Rattle.std.specs.List.{enumerate_from}
use Rattle.data_text.specs.DataText.{are_set, mass_lines, mass_row, mass_rows}
use Rattle.data_text.proofs.SectionLemmas.{section_if, section_unless}
use Rattle.data_text.proofs.sections.push_masses.Goals as goal

pub returns-then-not-are_set : goal.returns-then-not-are_set
unfolding mass_lines mass_rows
returns-then-not-are_set c =
    let masses = c.args.masses.now in
    section_unless (are_set masses) (codes "Masses") (map mass_row (enumerate_from 1 masses)) c.args.text.now (sym c.are_set.ensures ∙ c.if-not-are_set.true)

pub returns : goal.returns
unfolding mass_lines mass_rows
returns c =
    let masses = c.args.masses.now in
    section_if (are_set masses) (codes "Masses") (map mass_row (enumerate_from 1 masses)) c.args.text.now c.push_set_masses.new.text (sym c.are_set.ensures ∙ c.if-not-are_set.false) c.in_ok-push_set_masses.ensures
