use Rattle.list_tests.proofs.pair_terms.few_guesses_are_wrong.Given as goal

abbrev pub ghosts-wrong_guesses : goal.ghosts-wrong_guesses
ghosts-wrong_guesses g a = record { name = a.blank.name; parts = a.blank.parts }
