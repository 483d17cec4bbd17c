use Rattle.std.proofs.Common.{◌≡◌, drop, map}
use Rattle.tm_words.specs.Options.{number_of_word}
use Rattle.tm_words.proofs.options.number_of_word.Given as goal

abbrev pub invariant-loop-word : goal.invariant-loop-word
invariant-loop-word l =
    number_of_word (map (λ word. (word.0.now, word.1)) (drop l.word-index l.words)) l.text
    ≡ number_of_word (map (λ word. (word.0.now, word.1)) l.words) l.text
