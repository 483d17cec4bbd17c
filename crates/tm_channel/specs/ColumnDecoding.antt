-- What a function does that decodes the columns of codeblocks.
use Rattle.std.specs.Prelude.{◌≡◌, ◌≢◌, ℕ, ◌<◌, List, length}
use denote.Param.Members.{Shared}
use denote.Ref.{Bor, MutBor}
use Rattle.tm_config.specs.Configuration.{Configuration, correctable, word_length}
use Rattle.tm_config.specs.declared.values.OuterCode.TheVariants.{Uncoded}
use Rattle.tm_rs_code.specs.Code.{Code}
use Rattle.tm_workers.specs.Batch.{EachBecomes, words_bound}
use Rattle.tm_workers.specs.Words.{Decodes}
use Rattle.tm_workers.specs.declared.words.Word.{Word}

-- a configuration with an outer code has so many columns in a batch
abbrev pub AreColumns : Configuration → ℕ → Type 0
AreColumns c count = (c.code ≢ Uncoded) × (count < words_bound)

-- each word becomes what it is decoded to by the outer code of a configuration
abbrev pub AreColumnsDecoded : Configuration → List Word → List Word → Type 0
AreColumnsDecoded c words words' = (code : Code) × (code.e ≡ correctable c.code)
    × (code.n ≡ word_length c) × EachBecomes (Decodes code c.repair) words words'

-- it may be called with the columns of codeblocks of any configuration, and decodes them
abbrev pub IsColumnDecoder : {F : Type 0}
    → Shared F (Bor Configuration × (MutBor (List Word) × Unit {0})) (Unit {0}
    × (MutBor (List Word) × Unit {0})) → F → Type 0
IsColumnDecoder g f = (config : Bor Configuration) (words : MutBor (List Word))
    → AreColumns config.now (length words.now) → g.pre f (config, (words, tt))
    × ((left : MutBor (List Word)) → g.post f (config, (words, tt)) (tt, (left, tt))
    → AreColumnsDecoded config.now words.now left.now)
