use Rattle.tm_rs.proofs.uncounted.decode_erased_uncounted.Given as goal

abbrev pub ghosts-decode_erased_with : goal.ghosts-decode_erased_with
ghosts-decode_erased_with a = record { name = a.blank.name; parts = a.blank.parts }
