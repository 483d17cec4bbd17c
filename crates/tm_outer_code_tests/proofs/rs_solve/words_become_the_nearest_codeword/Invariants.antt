use Rattle.tm_outer_code_tests.proofs.rs_solve.words_become_the_nearest_codeword.Given as goal

abbrev pub ghosts-test_rows : goal.ghosts-test_rows
ghosts-test_rows a b = record { name = b.blank.name; parts = b.blank.parts }
