use Rattle.command_words.proofs.BadWordLemmas.{bad_words_are_the_first, bad_words_stand_behind_the_first, first_bad_words_are_told}
use Rattle.command_words.proofs.RefusalLemmas.{bad_words_of_commands}
use Rattle.command_words.proofs.laws.bad_words_are_told_at_the_first_word_that_begins_no_form.Goals as goal

pub returns-clause-first : goal.returns-clause-first
returns-clause-first c = bad_words_are_the_first

pub returns-clause-behind : goal.returns-clause-behind
returns-clause-behind c = bad_words_stand_behind_the_first

pub returns-clause-read : goal.returns-clause-read
returns-clause-read c = bad_words_of_commands

pub returns-clause-told : goal.returns-clause-told
returns-clause-told c = first_bad_words_are_told
