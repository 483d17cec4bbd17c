-- The columns of a codeblock as words that are decoded in place.
use Rattle.std.specs.Prelude.{ℕ, List, map, take}
use Rattle.tm_config.specs.Configuration.{Configuration, word_length}
use Rattle.tm_gf256.specs.Poly.{numbers}
use Rattle.tm_workers.specs.declared.words.Word.{Word}

-- the symbols of a word that count
abbrev pub symbols_of : Configuration → Word → List ℕ
symbols_of c w = numbers (take (word_length c) w.symbols)

-- those of each word
abbrev pub all_symbols : Configuration → List Word → List (List ℕ)
all_symbols c words = map (symbols_of c) words
