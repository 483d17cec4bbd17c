-- What a stage was fed, what it gave of it to be written, and how that ended. A stage stands, since
-- it was new, for the octets that it was given and the texts that it has given, and stores neither.
use Rattle.std.specs.Prelude.{◌≡◌, ◌⊎◌, ℕ, ◌+◌, ◌≤◌, List, ◌++◌, length, take}
use Rattle.tm_base.specs.Limits.{most_limit}
use Rattle.tm_base.specs.Takers.{HandedOver}
use Rattle.tm_driver.specs.Writing.{Text}
use Rattle.tm_driver.specs.declared.ending.Ending.{Ending}
use Rattle.tm_driver.specs.declared.ending.Ending.TheVariants.{Done, Bad, BadWindow, LeftOver, SourceFault, SinkFault, PastLimit}
use Rattle.tm_driver.specs.declared.ending.Outcome.{Outcome}
use Rattle.tm_driver.specs.declared.ending.Outcome.TheVariants as outcome

-- fed these octets, no more than a command reads with those before, a stage gives more texts;
-- `After` says for what it stands then
pub record Takes {S T : Type 0} (took : T → Text → T → Type 0)
    (Stands After : S → S → List ℕ → List Text → Type 0) (before now : S) (taker taker_now : T)
    (octets : List ℕ) : Type 0 where
  pub texts : List Text
  pub handed : HandedOver took taker texts taker_now
  pub stands : (new : S) (given : List ℕ) (done : List Text)
      → length given + length octets ≤ most_limit → Stands new before given done
      → After new now (given ++ octets) (done ++ texts)

-- at the end it gives the last texts, with this outcome
pub record TakesEnd {S T : Type 0} (took : T → Text → T → Type 0)
    (Stands : S → S → List ℕ → List Text → Type 0)
    (Finished : S → S → List ℕ → List Text → Outcome → Type 0) (before now : S)
    (taker taker_now : T) (outcome : Outcome) : Type 0 where
  pub texts : List Text
  pub handed : HandedOver took taker texts taker_now
  pub finished : (new : S) (given : List ℕ) (done : List Text) → length given ≤ most_limit
      → Stands new before given done → Finished new now given (done ++ texts) outcome

-- What was written for the octets that were read, whole or up to a fault of a sink, by how that
-- ended: what is due for those up to the limit, or all of them, the end included.
abbrev pub StagedTo : {S : Type 0} → (stands stopped : S → List ℕ → List Text → Type 0)
    → (finished : S → List ℕ → List Text → Outcome → Type 0) → (limit : ℕ) → (now : S) → Ending
    → List ℕ → List Text → Type 0
StagedTo stands stopped finished limit now Done octets texts =
    finished now octets texts outcome.Done × (length octets ≤ limit)
StagedTo stands stopped finished limit now Bad octets texts =
    finished now octets texts outcome.Bad × (length octets ≤ limit)
StagedTo stands stopped finished limit now LeftOver octets texts =
    finished now octets texts outcome.LeftOver × (length octets ≤ limit)
StagedTo stands stopped finished limit now BadWindow octets texts =
    stopped now (take limit octets) texts
StagedTo stands stopped finished limit now SourceFault octets texts =
    stands now octets texts × (length octets ≤ limit)
StagedTo stands stopped finished limit now SinkFault octets texts =
    stands now (take limit octets) texts ⊎ stopped now (take limit octets) texts
    ⊎ ((by : Outcome) × finished now (take limit octets) texts by)
StagedTo stands stopped finished limit now PastLimit octets texts =
    stands now (take limit octets) texts × (length octets ≡ limit + 1)

-- a stage was given the end, and had given these texts before it, and then the last ones
pub record EndsWith {S : Type 0} (stands : S → List ℕ → List Text → Type 0)
    (finished : S → List ℕ → List Text → Outcome → Type 0) (now : S)
    (fed last : List Text) : Type 0 where
  pub octets : List ℕ
  pub before : S
  pub stood : stands before octets fed
  pub outcome : Outcome
  pub ends : finished now octets (fed ++ last) outcome

-- A sink failed in the texts that a stage gave last, and those before them were written. The end of
-- the input had not been reported, or the stage gave the last texts at the end.
pub record Halts {S : Type 0} (stands stopped : S → List ℕ → List Text → Type 0)
    (finished : S → List ℕ → List Text → Outcome → Type 0) (now : S) (ended unended : Type 0)
    (Fails : (fed last : List Text) → Type 0) : Type 0 where
  pub fed : List Text
  pub last : List Text
  pub fails : Fails fed last
  pub when : (unended × (octets : List ℕ) × (stands now octets (fed ++ last)
      ⊎ stopped now octets (fed ++ last)))
      ⊎ (ended × EndsWith stands finished now fed last)
