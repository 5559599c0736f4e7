use Rattle.std.proofs.Common.{◌∙◌, ◌+◌, ℕ, neg_ℤ, ap}
use Rattle.box_geo.specs.declared.limits.TheConstants.{MAX_POSITION}
use Rattle.data_file.specs.Fields.{id_field, kind_field, vector_field}
use Rattle.data_file.specs.Rows.{atom_parts}
use Rattle.data_file.specs.Words.{word, words_of}
use Rattle.data_file.proofs.BothLemmas.{both_same}
use Rattle.data_file.proofs.atom_rows.atom_parts.Goals as goal

pub returns-clause-is : goal.returns-clause-is
unfolding atom_parts
returns-clause-is c =
    c.both-3.ensures ∙ both_same _ _ _ _
    (c.both.ensures ∙ both_same _ _ _ _
    (c.both-id.ensures ∙ both_same _ _ _ _ (c.id_field.ensures ∙ ap id_field c.word_at.ensures) c.molecule_field.ensures)
    (c.kind_field-kind.ensures ∙ ap (kind_field c.args.kinds) (c.word_at-2.ensures ∙ ap (λ (n : ℕ). word (1 + n) (words_of c.args.line.now)) c.molecules-behind.ensures.is)))
    (c.both-2.ensures ∙ both_same _ _ _ _
    (c.vector_field-x.ensures.is ∙ ap (λ (n : ℕ). vector_field (neg_ℤ MAX_POSITION) MAX_POSITION (2 + n) (words_of c.args.line.now)) c.molecules-behind.ensures.is)
    c.image_fields.ensures.is)
