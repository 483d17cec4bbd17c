-- What `decode` and `report` show at each ending.
use Rattle.std.proofs.Common.{◌≡◌, ℕ, ◌≤◌, List, [], ◌∷◌, ◌++◌, length, take, refl, sym, ap, ◌∙◌, subst, append_assoc, arith, Option}
use Rattle.tm_base.specs.Handed.{Handed, items_of}
use Rattle.tm_base.specs.Limits.{most_limit}
use Rattle.tm_config.specs.Accepted.{IsAccepted}
use Rattle.tm_config.specs.Configuration.{Configuration}
use Rattle.tm_channel.specs.declared.totals.Totals.{Totals}
use Rattle.tm_channel.specs.Items.{ItemValue}
use Rattle.tm_channel.specs.Handing.{AreReceived, AreReceivedDue}
use Rattle.tm_channel.specs.OctetReceiving.{OctetReceiving}
use Rattle.tm_driver.specs.Meaning.{Output, Ends, Taken, WroteEarly, WroteOutput, WrotePrefixes, taken_by}
use Rattle.tm_driver.specs.Staged.{StagedTo}
use Rattle.tm_driver.specs.Statuses.{is_sink_fault}
use Rattle.tm_driver.specs.Writing.{Text, Note, StopsIn, WroteTexts, notes_of, out_of, output_of}
use Rattle.tm_driver.specs.declared.ending.Ending.{Ending}
use Rattle.tm_driver.specs.declared.ending.Ending.TheVariants.{Done, Bad, BadWindow, LeftOver, SourceFault, SinkFault, PastLimit}
use Rattle.tm_driver.specs.declared.ending.Outcome.{Outcome}
use Rattle.tm_driver.specs.declared.ending.Outcome.TheVariants as outcome
use Rattle.tm_driver.proofs.SinkTexts.{wrote-nothing, wrote-no_prefix}
use Rattle.tm_driver.proofs.Staged.{Early, OutcomeShows, ends-staged}
use Rattle.tm_cli.specs.Decode.{IsDecoded, HasBad, decode_meaning, report_meaning}
use Rattle.tm_cli.specs.Receiving.{Decodes, DecodesAll}
use Rattle.tm_cli.specs.Report.{bad, items_end_text}
use Rattle.tm_cli.specs.Taken.{all_texts, texts_from}
use Rattle.tm_cli.specs.declared.counts.Counts.{Counts}
use Rattle.tm_cli.proofs.Received.{due-texts}
use Rattle.tm_cli.proofs.GivenTexts.{all-are, due-are, in-order, texts-append}

-- ---- what is handed over of a whole input

-- octets have a list of what is handed over
abbrev pub HasList : Type 0
HasList =
    (c : Configuration) (octets : List ℕ) → IsAccepted c → (handed : List (Handed ItemValue))
    × ((totals : Totals) × AreReceived c octets handed totals)

-- and only one
abbrev pub OneList : Type 0
OneList =
    (c : Configuration) (octets : List ℕ) (handed others : List (Handed ItemValue)) (totals sums : Totals)
    → IsAccepted c
    → AreReceived c octets handed totals → AreReceived c octets others sums → handed ≡ others

-- what is due stands first, whatever octets follow
abbrev pub DueFirst : Type 0
DueFirst =
    (c : Configuration) (octets more : List ℕ) (due all : List (Handed ItemValue)) (totals : Totals) → IsAccepted c
    → AreReceivedDue c octets due → AreReceived c (octets ++ more) all totals → (rest : List (Handed ItemValue))
    × (all ≡ due ++ rest)

-- any list says whether there is a bad one
pub is_bad : (c : Configuration) (totals : Totals) (octets : List ℕ) (handed : List (Handed ItemValue))
    → AreReceived c octets handed totals → (bad (items_of handed) ≡ 0 → ⊥) → HasBad c octets
is_bad c totals octets handed all some = (handed, (totals, all), some)

pub not_bad : OneList → (c : Configuration) (totals : Totals) (octets : List ℕ) (handed : List (Handed ItemValue))
    → IsAccepted c → AreReceived c octets handed totals → bad (items_of handed) ≡ 0 → HasBad c octets → ⊥
not_bad one c totals octets handed accepted all none has =
    has.2 (ap (λ l. bad (items_of l)) (one c octets has.0 handed has.1.0 totals accepted has.1.1 all) ∙ none)

-- ---- how `decode` ends

module _ (exists : HasList) (one : OneList) (first : DueFirst) (c : Configuration) (accepted : IsAccepted c) where
  abbrev AreAll : List ℕ → List Text → Type 0
  AreAll octets texts = (handed : List (Handed ItemValue)) × (totals : Totals) × AreReceived c octets handed totals
      × (texts ≡ all_texts handed totals)

  output : (octets : List ℕ) (all : List Text) → AreAll octets all
      → IsDecoded c octets (out_of all) (notes_of all)
  output octets all a =
      let are = all-are a.0 a.1 all a.3 in
      record { handed = a.0; totals = a.1; are_received = a.2; are_frames = are.0; is_report = are.1 }

  order : (octets : List ℕ) (all : List Text) (taken : Taken) → AreAll octets all → StopsIn all taken
      → (decode_meaning c).is_in_order octets (output_of all) taken
  order octets all taken a stops = (a.0, a.1, a.2, in-order a.0 a.1 all taken a.3 stops)

  early : (receiver : OctetReceiving) (counts : Counts) (octets : List ℕ) (texts : List Text)
      → length octets ≤ c.limit → Decodes c receiver counts octets texts
      → Early (decode_meaning c) AreAll octets texts
  early receiver counts octets texts within d =
      let most = accepted.limit in
      let small : length octets ≤ most_limit = omega (arith, most, within) in
      let due = d.due.handed in
      let is_due = (d.due.stands small).1 in
      let texts_are = d.are ∙ due-texts c receiver counts octets small d.due in
      let are = due-are due texts texts_are in
      record {
        due = record { handed = due; are_due = is_due; are_frames = are.0; are_lines = are.1 };
        rest = λ more.
            let h = exists c (octets ++ more) accepted in
            let rest = first c octets more due h.0 h.1.0 accepted is_due h.1.1 in
            let end = Note (items_end_text (items_of h.0) h.1.0) ∷ [] in
            let later = texts_from (length (items_of due)) rest.0 in (
              later ++ end,
              (
                h.0,
                h.1.0,
                h.1.1,
                ap (λ (l : List Text). l ++ (later ++ end)) texts_are
                    ∙ sym (append_assoc (texts_from 0 due) later end)
                    ∙ ap (λ (l : List Text). l ++ end) (sym (texts-append due rest.0)
                    ∙ ap (texts_from 0) (sym rest.1)),
              ),
            );
      }

  whole : (octets : List ℕ) (texts : List Text) (by : Outcome) → DecodesAll c octets texts by
      → AreAll octets texts × OutcomeShows (decode_meaning c) octets by
  whole octets texts outcome.Done d = (
    (d.handed, d.totals, d.are_received, d.are),
    (λ none. none, not_bad one c d.totals octets d.handed accepted d.are_received d.is_outcome),
  )
  whole octets texts outcome.Bad d = (
    (d.handed, d.totals, d.are_received, d.are),
    is_bad c d.totals octets d.handed d.are_received d.is_outcome,
  )
  whole octets texts outcome.LeftOver d = absurd d.is_outcome

  pub decode-ends : {S : Type 0} (receiver : S → OctetReceiving) (counts : S → Counts) (limit : ℕ) → limit ≡ c.limit
      → (now : S) (ending : Ending) (octets : List ℕ) (texts : List Text) (taken : Taken)
      → StagedTo (λ (t : S) o x. Decodes c (receiver t) (counts t) o x) (λ (t : S) (o : List ℕ) (x : List Text). ⊥)
      (λ (t : S) o x by. DecodesAll c o x by) limit now ending octets texts
      → WroteTexts (is_sink_fault ending) texts taken → Ends ending (decode_meaning c) c.limit octets taken
  decode-ends {S} receiver counts limit within now ending octets texts taken d =
      let Stands : S → List ℕ → List Text → Type 0 = λ t o x. Decodes c (receiver t) (counts t) o x in
      let Stopped : S → List ℕ → List Text → Type 0 = λ t o x. ⊥ in
      let Finished : S → List ℕ → List Text → Outcome → Type 0 = λ t o x by. DecodesAll c o x by in
      ends-staged Stands Stopped Finished (decode_meaning c) c.limit AreAll output order now
      (λ o x within p. early (receiver now) (counts now) o x within p) (λ o x _ none. absurd none)
      (λ o x by _ f. whole o x by f) ending octets texts taken
      (subst (λ (n : ℕ). StagedTo Stands Stopped Finished n now ending octets texts) within d)

-- ---- how `report` ends, which is `decode` without the frames

module _ (c : Configuration) (taken : Taken) (noted : Option (List ℕ)) where
  abbrev Alone : Taken
  Alone = taken_by taken.notes taken.notes_now noted noted

  report-whole : (octets : List ℕ) → WroteOutput (decode_meaning c) octets taken
      → WroteOutput (report_meaning c) octets Alone
  report-whole octets p = (
    record { out = p.0.notes; notes = [] },
    (p.0.out, p.1, refl),
    record { out = p.2.notes; notes = wrote-nothing noted },
  )

  report-prefixes : (output : Output) → WrotePrefixes output taken
      → WrotePrefixes (record { out = output.notes; notes = [] }) Alone
  report-prefixes output wrote = record { out = wrote.notes; notes = wrote-no_prefix noted [] }

  report-early : (octets : List ℕ) → WroteEarly (decode_meaning c) octets taken
      → WroteEarly (report_meaning c) octets Alone
  report-early octets p = (
    (
      record { out = p.0.0.notes; notes = [] },
      (p.0.0.out, p.0.1, refl),
      record { out = p.0.2.notes; notes = wrote-nothing noted },
    ),
    λ more.
        let q = p.1 more in
        (record { out = q.0.notes; notes = [] }, (q.0.out, q.1, refl), report-prefixes q.0 q.2),
  )

  pub report-ends : (e : Ending) (limit : ℕ) (octets : List ℕ) → Ends e (decode_meaning c) limit octets taken
      → Ends e (report_meaning c) limit octets Alone
  report-ends Done limit octets p = (report-whole octets p.0, p.1, p.2, p.3)
  report-ends Bad limit octets p = (report-whole octets p.0, p.1, p.2)
  report-ends BadWindow limit octets p = absurd p.0
  report-ends LeftOver limit octets p = absurd p.2
  report-ends SourceFault limit octets p = (report-early octets p.0, p.1)
  report-ends SinkFault limit octets p = (
    record { out = p.0.notes; notes = [] },
    (p.0.out, p.1, refl),
    report-prefixes p.0 p.2,
    wrote-nothing noted,
  )
  report-ends PastLimit limit octets p = (report-early (take limit octets) p.0, p.1)
