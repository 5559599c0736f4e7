use Rattle.std.proofs.Common.{◌∙◌, ap}
use Rattle.data_file.specs.Fields.{id_field, kind_field}
use Rattle.data_file.specs.Rows.{angle_parts}
use Rattle.data_file.proofs.BothLemmas.{both_same}
use Rattle.data_file.proofs.bond_rows.angle_parts.Goals as goal

pub returns : goal.returns
unfolding angle_parts
returns c =
    c.both.ensures ∙ both_same _ _ _ _ (c.kind_field.ensures ∙ ap (kind_field c.args.kinds) c.word_at-4.ensures)
    (c.both-atoms.ensures ∙ both_same _ _ _ _
    (c.both-first.ensures ∙ both_same _ _ _ _ (c.id_field.ensures ∙ ap id_field c.word_at.ensures) (c.id_field-2.ensures ∙ ap id_field c.word_at-2.ensures))
    (c.id_field-3.ensures ∙ ap id_field c.word_at-3.ensures))
