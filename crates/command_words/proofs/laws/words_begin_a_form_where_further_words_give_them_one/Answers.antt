use Rattle.command_words.proofs.BadWordLemmas.{no_form_follows}
use Rattle.command_words.proofs.CompletionLemmas.{a_form_follows}
use Rattle.command_words.proofs.laws.words_begin_a_form_where_further_words_give_them_one.Goals as goal

pub returns-clause-some : goal.returns-clause-some
returns-clause-some c = a_form_follows

pub returns-clause-none : goal.returns-clause-none
returns-clause-none c = no_form_follows
