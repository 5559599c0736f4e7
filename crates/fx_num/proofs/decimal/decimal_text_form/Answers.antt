use Rattle.fx_num.proofs.DecimalLemmas.{form_from_decimal_of, decimal_of-form, same_parts, form-not_number, not_number-no_form}
use Rattle.fx_num.proofs.decimal.decimal_text_form.Goals as goal

pub returns-clause-form : goal.returns-clause-form
returns-clause-form c = λ text d. (form_from_decimal_of text d, decimal_of-form text d)

pub returns-clause-one_reading : goal.returns-clause-one_reading
returns-clause-one_reading c = same_parts

pub returns-clause-refusal : goal.returns-clause-refusal
returns-clause-refusal c = λ text. (form-not_number text, not_number-no_form text)
