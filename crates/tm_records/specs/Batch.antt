-- What contracts see of a batch of records, and what its room holds.
use Rattle.std.specs.Prelude.{◌≡◌, ℕ, ◌*◌, ◌<◌, ◌≤◌, List, [], ◌∷◌, map, take, drop, unwrap_or}
use Rattle.tm_gf256.specs.Poly.{numbers}
use Rattle.tm_rs_code.specs.Erasures.{NearestErased}
use Rattle.tm_rs_code.specs.Code.{longest_word}
use Rattle.tm_rs.specs.Answers.{found_erased}
use Rattle.tm_rs.specs.declared.answers.ErasedAnswer.TheVariants.{Beyond}
use Rattle.tm_workers.specs.declared.words.ErasedWord.{ErasedWord}
use Rattle.tm_records.specs.declared.coding.Coding.{Coding}
use Rattle.tm_records.specs.Records.{first_erased, first_word, record_size, most_records}

-- how a batch's words are decoded and by how many workers, its octets that were taken so far, and
-- what was found nearest to the words of its records when they were decoded
pub record Batch : Type 0 where
  pub coding : Coding
  pub workers : ℕ
  pub octets : List ℕ
  pub nearest : List NearestErased

-- a new batch, into which no octets were put
abbrev pub opened : Coding → ℕ → Batch
opened c workers = record { coding = c; workers = workers; octets = []; nearest = [] }

-- there is room for 256 records of `size` octets: `taken` octets are taken, and `decoded` records
-- were decoded
pub record HasRoom (c : Coding) (size octets words taken decoded : ℕ) : Type 0 where
  pub is_size : size ≡ record_size c
  pub some : 0 < size
  pub most : size ≤ 2 * longest_word
  pub room : octets ≡ most_records * size
  pub count : words ≡ most_records
  pub few_octets : taken ≤ octets
  pub few_words : decoded ≤ words

-- the word holds the first record of these octets
pub record IsRead (c : Coding) (octets : List ℕ) (w : ErasedWord) : Type 0 where
  pub symbols : numbers (take c.params.n w.symbols) ≡ first_word c octets
  pub erased : take c.params.n w.erased ≡ first_erased c octets

-- the words hold the first records, one after the other
abbrev pub AreRead : Coding → List ℕ → List ErasedWord → Type 0
AreRead c octets [] = Unit {0}
AreRead c octets (w ∷ words) = IsRead c octets w × AreRead c (drop (record_size c) octets) words

-- what a word says that was decoded
abbrev pub nearest_in : Coding → ErasedWord → NearestErased
nearest_in c w = found_erased (unwrap_or w.answer Beyond) (numbers (take c.params.n w.symbols))

abbrev pub all_nearest : Coding → List ErasedWord → List NearestErased
all_nearest c words = map (nearest_in c) words
