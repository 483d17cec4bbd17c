use Rattle.tm_rs.proofs.uncounted.decode_uncounted.Given as goal

abbrev pub ghosts-decode_with : goal.ghosts-decode_with
ghosts-decode_with a = record { name = a.blank.name; parts = a.blank.parts }
