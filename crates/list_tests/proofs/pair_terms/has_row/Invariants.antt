use Rattle.list_tests.proofs.pair_terms.has_row.Given as goal

abbrev pub ghosts-has_term_by_halves : goal.ghosts-has_term_by_halves
ghosts-has_term_by_halves g a = record { name = a.blank.name; parts = a.blank.parts }
