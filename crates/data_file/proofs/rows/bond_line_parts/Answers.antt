use Rattle.std.proofs.Common.{◌∙◌, pos, ap}
use Rattle.box_geo.specs.declared.limits.TheConstants.{MAX_REST_LENGTH, MAX_STIFFNESS}
use Rattle.data_file.specs.Fields.{decimal_field, kind_field}
use Rattle.data_file.specs.Rows.{bond_line_parts}
use Rattle.data_file.proofs.BothLemmas.{both_same}
use Rattle.data_file.proofs.rows.bond_line_parts.Goals as goal

pub returns : goal.returns
unfolding bond_line_parts
returns c =
    c.both-2.ensures ∙ both_same _ _ _ _ (c.kind_field-kind.ensures ∙ ap (kind_field c.args.kinds) c.word_at.ensures)
    (c.both.ensures ∙ both_same _ _ _ _
    (c.decimal_field-stiffness.ensures.is ∙ ap (decimal_field (pos 0) MAX_STIFFNESS) c.word_at-2.ensures)
    (c.decimal_field-length.ensures.is ∙ ap (decimal_field (pos 0) MAX_REST_LENGTH) c.word_at-3.ensures))
