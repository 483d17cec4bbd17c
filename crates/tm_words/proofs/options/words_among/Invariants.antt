use Rattle.std.proofs.Common.{◌≡◌, drop, map}
use Rattle.tm_words.specs.Options.{words_among}
use Rattle.tm_words.proofs.options.words_among.Given as goal

abbrev pub invariant-loop-option : goal.invariant-loop-option
invariant-loop-option l =
    words_among (map (λ option. (option.0.now, map (λ word. (word.0.now, word.1)) option.1.now))
    (drop l.option-index l.options)) l.name
    ≡ words_among (map (λ option. (option.0.now, map (λ word. (word.0.now, word.1)) option.1.now)) l.options) l.name
