-- What each ending shows of a command, from what it gave to be written.
use Rattle.std.proofs.Common.{inl, inr, ℕ, ◌≤◌, false, List, [], ◌++◌, length, take, subst, arith, length-take}
use Rattle.std.proofs.lemmas.List.{append-nil}
use Rattle.tm_driver.specs.Meaning.{Ends, Meaning, Output, Taken, WroteEarly, WrotePrefixes}
use Rattle.tm_driver.specs.Staged.{StagedTo}
use Rattle.tm_driver.specs.Statuses.{is_sink_fault}
use Rattle.tm_driver.specs.Turns.{but_last_turn}
use Rattle.tm_driver.specs.Writing.{Text, StopsIn, WroteTexts, output_of}
use Rattle.tm_driver.specs.declared.ending.Ending.{Ending}
use Rattle.tm_driver.specs.declared.ending.Ending.TheVariants.{Done, Bad, BadWindow, LeftOver, SourceFault, SinkFault, PastLimit}
use Rattle.tm_driver.specs.declared.ending.Outcome.{Outcome}
use Rattle.tm_driver.specs.declared.ending.Outcome.TheVariants as outcome
use Rattle.tm_driver.proofs.Writing.{both-prefix, stops-longer, stops-prefixes}

-- prefixes of the output of these octets were written, in order
abbrev WroteInOrder : Meaning → List ℕ → Taken → Type 0
WroteInOrder meaning octets taken = (output : Output) × meaning.is_output octets output × WrotePrefixes output taken
    × meaning.is_in_order octets output taken

-- what an outcome shows of a whole input
abbrev pub OutcomeShows : Meaning → List ℕ → Outcome → Type 0
OutcomeShows meaning octets outcome.Done = (meaning.is_partial octets → ⊥) × (meaning.is_bad octets → ⊥)
OutcomeShows meaning octets outcome.Bad = meaning.is_bad octets
OutcomeShows meaning octets outcome.LeftOver = meaning.is_partial octets

-- what is due for octets has this output, and is followed by the rest of all texts, whatever octets follow
pub record Early (meaning : Meaning) (AreAll : List ℕ → List Text → Type 0) (octets : List ℕ)
    (texts : List Text) : Type 0 where
  pub due : meaning.is_due octets (output_of texts)
  pub rest : (more : List ℕ) → (last : List Text) × AreAll (octets ++ more) (texts ++ last)

-- From the texts that a command writes of whole octets, and what it shows within the limit of those that were fed, of
-- the whole, and where it stopped.
module _ {S : Type 0} (stands stopped : S → List ℕ → List Text → Type 0)
    (finished : S → List ℕ → List Text → Outcome → Type 0) (meaning : Meaning) (limit : ℕ)
    (AreAll : List ℕ → List Text → Type 0)
    (output : (o : List ℕ) (all : List Text) → AreAll o all → meaning.is_output o (output_of all))
    (order : (o : List ℕ) (all : List Text) (taken : Taken) → AreAll o all → StopsIn all taken
    → meaning.is_in_order o (output_of all) taken)
    (now : S)
    (early : (o : List ℕ) (texts : List Text) → length o ≤ limit → stands now o texts → Early meaning AreAll o texts)
    (stops : (o : List ℕ) (texts : List Text) → length o ≤ limit → stopped now o texts → AreAll o texts
    × meaning.stops_at_bad × meaning.is_bad o × (meaning.is_bad (but_last_turn o) → ⊥))
    (whole : (o : List ℕ) (texts : List Text) (by : Outcome) → length o ≤ limit → finished now o texts by
    → AreAll o texts × OutcomeShows meaning o by) where
  up-to : (octets : List ℕ) → length (take limit octets) ≤ limit
  up-to octets = omega (arith, length-take limit octets)

  -- a sink failed in some of the first of all texts
  in-order : (o : List ℕ) (texts last : List Text) (taken : Taken) → AreAll o (texts ++ last) → StopsIn texts taken
      → WroteInOrder meaning o taken
  in-order o texts last taken all stopped_in =
      let longer = stops-longer texts last taken stopped_in in (
        output_of (texts ++ last),
        output o (texts ++ last) all,
        stops-prefixes (texts ++ last) taken longer,
        order o (texts ++ last) taken all longer,
      )

  in-order_all : (o : List ℕ) (texts : List Text) (taken : Taken) → AreAll o texts → StopsIn texts taken
      → WroteInOrder meaning o taken
  in-order_all o texts taken all stopped_in =
      (output_of texts, output o texts all, stops-prefixes texts taken stopped_in, order o texts taken all stopped_in)

  was-early : (o : List ℕ) (texts : List Text) (taken : Taken) → length o ≤ limit → stands now o texts
      → WroteTexts false texts taken → WroteEarly meaning o taken
  was-early o texts taken within stood wrote =
      let is = early o texts within stood in (
        (output_of texts, is.due, wrote),
        λ more.
            let last = is.rest more in (
              output_of (texts ++ last.0),
              output (o ++ more) (texts ++ last.0) last.1,
              both-prefix texts last.0 taken wrote,
            ),
      )

  pub ends-staged : (ending : Ending) (octets : List ℕ) (texts : List Text) (taken : Taken)
      → StagedTo stands stopped finished limit now ending octets texts
      → WroteTexts (is_sink_fault ending) texts taken → Ends ending meaning limit octets taken
  ends-staged Done octets texts taken d wrote =
      let w = whole octets texts outcome.Done d.1 d.0 in
      ((output_of texts, output octets texts w.0, wrote), d.1, w.1.0, w.1.1)
  ends-staged Bad octets texts taken d wrote =
      let w = whole octets texts outcome.Bad d.1 d.0 in
      ((output_of texts, output octets texts w.0, wrote), d.1, w.1)
  ends-staged LeftOver octets texts taken d wrote =
      let w = whole octets texts outcome.LeftOver d.1 d.0 in
      ((output_of texts, output octets texts w.0, wrote), d.1, w.1)
  ends-staged BadWindow octets texts taken d wrote =
      let o = take limit octets in
      let s = stops o texts (up-to octets) d in
      (s.1, (output_of texts, output o texts s.0, wrote), s.2, s.3)
  ends-staged SourceFault octets texts taken d wrote = (was-early octets texts taken d.1 d.0 wrote, d.1)
  ends-staged SinkFault octets texts taken (inl stood) wrote =
      let o = take limit octets in
      let last = (early o texts (up-to octets) stood).rest [] in
      in-order o texts last.0 taken (subst (λ (l : List ℕ). AreAll l (texts ++ last.0)) (append-nil o) last.1) wrote
  ends-staged SinkFault octets texts taken (inr (inl s)) wrote =
      let o = take limit octets in
      in-order_all o texts taken (stops o texts (up-to octets) s).0 wrote
  ends-staged SinkFault octets texts taken (inr (inr f)) wrote =
      let o = take limit octets in
      in-order_all o texts taken (whole o texts f.0 (up-to octets) f.1).0 wrote
  ends-staged PastLimit octets texts taken d wrote =
      (was-early (take limit octets) texts taken (up-to octets) d.0 wrote, d.1)

-- what holds of the texts of a stage, whatever came of it, holds however it ended
pub staged-texts : {S : Type 0} (stands stopped : S → List ℕ → List Text → Type 0)
    (finished : S → List ℕ → List Text → Outcome → Type 0) (limit : ℕ) (now : S) (P : List Text → Type 0)
    → ((o : List ℕ) (texts : List Text) → stands now o texts → P texts)
    → ((o : List ℕ) (texts : List Text) → stopped now o texts → P texts)
    → ((o : List ℕ) (texts : List Text) (by : Outcome) → finished now o texts by → P texts)
    → (ending : Ending) (octets : List ℕ) (texts : List Text)
    → StagedTo stands stopped finished limit now ending octets texts → P texts
staged-texts stands stopped finished limit now P s t f Done octets texts d = f octets texts outcome.Done d.0
staged-texts stands stopped finished limit now P s t f Bad octets texts d = f octets texts outcome.Bad d.0
staged-texts stands stopped finished limit now P s t f LeftOver octets texts d = f octets texts outcome.LeftOver d.0
staged-texts stands stopped finished limit now P s t f BadWindow octets texts d = t (take limit octets) texts d
staged-texts stands stopped finished limit now P s t f SourceFault octets texts d = s octets texts d.0
staged-texts stands stopped finished limit now P s t f SinkFault octets texts (inl d) = s (take limit octets) texts d
staged-texts stands stopped finished limit now P s t f SinkFault octets texts (inr (inl d)) =
    t (take limit octets) texts d
staged-texts stands stopped finished limit now P s t f SinkFault octets texts (inr (inr d)) =
    f (take limit octets) texts d.0 d.1
staged-texts stands stopped finished limit now P s t f PastLimit octets texts d = s (take limit octets) texts d.0
