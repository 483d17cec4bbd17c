use Rattle.tm_outer_code_tests.proofs.rs_locator.syndromes_have_their_locator.Given as goal

abbrev pub ghosts-test_rows : goal.ghosts-test_rows
ghosts-test_rows a b = record { name = b.blank.name; parts = b.blank.parts }
