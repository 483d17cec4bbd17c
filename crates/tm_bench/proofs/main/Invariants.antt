use Rattle.tm_bench.proofs.main.Given as goal

abbrev pub ghosts-decode_words : goal.ghosts-decode_words
ghosts-decode_words a = record { name = a.blank.name; parts = a.blank.parts }
