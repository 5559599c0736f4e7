use Rattle.list_tests.proofs.pair_terms.two_types.Given as goal

abbrev pub ghosts-has_terms : goal.ghosts-has_terms
ghosts-has_terms g a = record { name = a.blank.name; parts = a.blank.parts }
