-- What is given of records, batch by batch.
use Rattle.std.specs.Prelude.{◌≡◌, ℕ, ◌*◌, ◌<◌, ◌≤◌, Bool, true, List, [], ◌∷◌, ◌++◌, length, map}
use Rattle.std.specs.List.{list_any}
use Rattle.tm_driver.specs.Lines.{left_over_text, outcome_by}
use Rattle.tm_driver.specs.Writing.{Text, Out, Note}
use Rattle.tm_driver.specs.declared.ending.Outcome.{Outcome}
use Rattle.tm_driver.specs.declared.ending.Outcome.TheVariants.{Done, Bad}
use Rattle.tm_gf256.specs.declared.basis.Basis.{Basis}
use Rattle.tm_rs_code.specs.Code.{longest_word}
use Rattle.tm_rs_code.specs.Erasures.{NearestErased}
use Rattle.tm_records.specs.Batch.{Batch}
use Rattle.tm_records.specs.Erased.{is_beyond, nearest_text}
use Rattle.tm_records.specs.Records.{AreFirstNearest, AreNearest, left_over, record_size, most_records}
use Rattle.tm_records.specs.declared.coding.Coding.{Coding}
use Rattle.tm_records.specs.declared.erased_command.Erasing.{Erasing}

-- a text for the line of each record
abbrev pub record_texts : Basis → List NearestErased → List Text
record_texts basis nearest = map (λ found. Out (nearest_text basis found)) nearest

-- Of these octets the batch holds those after some whole batches. The lines of the records in these
-- were given, and it is known whether a word was uncorrectable.
pub record Holds (c : Coding) (batch : Batch) (beyond : Bool) (octets : List ℕ)
    (texts : List Text) : Type 0 where
  pub coding : batch.coding ≡ c
  pub nearest : List NearestErased
  pub each : AreFirstNearest c octets nearest
  pub batches : ℕ
  pub whole : length nearest ≡ most_records * batches
  pub prefix : List ℕ
  pub parts : octets ≡ prefix ++ batch.octets
  pub long : length prefix ≡ length nearest * record_size c
  pub are : texts ≡ record_texts c.basis nearest
  pub known : beyond ≡ list_any is_beyond nearest

abbrev pub Erases : {R : Type 0} → (new now : Erasing R) → List ℕ → List Text → Type 0
Erases new now octets texts = Holds new.records.coding now.records now.beyond octets texts

-- the batch is not full
abbrev pub HasSpace : Batch → Type 0
HasSpace batch = length batch.octets < most_records * record_size batch.coding

-- what comes of an input that else comes to this, where a word may be uncorrectable
abbrev pub outcome_with : Outcome → Bool → Outcome
outcome_with Done true = Bad
outcome_with outcome beyond = outcome

-- the lines of all whole records, and then on the notes how many octets are left over
pub record AreTexts (c : Coding) (octets : List ℕ) (texts : List Text) : Type 0 where
  pub nearest : List NearestErased
  pub are_nearest : AreNearest c octets nearest
  pub are : texts ≡ record_texts c.basis nearest ++ Note (left_over_text (left_over c octets)) ∷ []

-- these were given, and what they come to
abbrev pub ErasesAll : (c : Coding) → List ℕ → List Text → Outcome → Type 0
ErasesAll c octets texts outcome = (all : AreTexts c octets texts) × (c.params.n ≤ longest_word)
    × (outcome ≡ outcome_with (outcome_by (left_over c octets)) (list_any is_beyond all.nearest))
