-- What a trace shows at each ending.
use Rattle.std.proofs.Common.{◌≡◌, ℕ, ◌≤◌, List, [], ◌∷◌, ◌++◌, length, refl, sym, ap, ◌∙◌, subst, arith, Option}
use Rattle.std.proofs.lemmas.List.{append-nil}
use Rattle.tm_base.specs.Handed.{Handed, items_of}
use Rattle.tm_config.specs.Configuration.{Configuration}
use Rattle.tm_config.specs.Accepted.{IsAccepted}
use Rattle.tm_viterbi.specs.WindowBlock.{WindowBlock}
use Rattle.tm_inner.specs.Inner.{inner_bits}
use Rattle.tm_inner.specs.InnerDecoding.{InnerDecoding}
use Rattle.tm_inner.specs.Handing.{AreHanded, AreHandedDue}
use Rattle.tm_inner.proofs.DecoderReads.{handed-due}
use Rattle.tm_driver.specs.Meaning.{Ends, Taken, taken_by}
use Rattle.tm_driver.specs.Staged.{StagedTo}
use Rattle.tm_driver.specs.Statuses.{is_sink_fault}
use Rattle.tm_driver.specs.declared.ending.Ending.{Ending}
use Rattle.tm_driver.specs.Writing.{Text, Out, AreOut, StopsIn, WroteTexts, notes_of, output_of}
use Rattle.tm_driver.specs.declared.ending.Outcome.{Outcome}
use Rattle.tm_driver.specs.declared.ending.Outcome.TheVariants.{Done, Bad, LeftOver}
use Rattle.tm_driver.proofs.Staged.{Early, OutcomeShows, ends-staged, staged-texts}
use Rattle.tm_driver.proofs.Writing.{are_out-more, notes_of-append, stops-alone, wrote-alone}
use Rattle.tm_path_commands.specs.declared.tally.Tally.{Tally}
use Rattle.tm_path_commands.specs.Lines.{no_blocks, trace_end_text}
use Rattle.tm_path_commands.specs.Trace.{IsTrace, blocks_text, tally_all, trace_meaning, trace_text}
use Rattle.tm_path_commands.specs.Tracing.{Traces, TracesAll, counted_by, lines_by}
use Rattle.tm_path_commands.proofs.TraceLines.{blocks-counted, few-tally, lines-are, lines-silent, trace-rest}
use Rattle.tm_path_commands.proofs.FewHanded.{DueFirst, few-due, few-handed}

-- all texts of octets are their trace
abbrev pub AreTexts : Configuration → List ℕ → List Text → Type 0
AreTexts c octets all = (handed : List (Handed WindowBlock)) × (left : ℕ) × AreHanded c octets handed left
    × AreOut all (trace_text handed (length (inner_bits c octets (items_of handed))) left)

pub trace-output : (c : Configuration) (octets : List ℕ) (all : List Text) → AreTexts c octets all
    → IsTrace c octets (output_of all)
trace-output c octets all are =
    record { handed = are.0; left = are.1; are_handed = are.2; out = are.3.out; notes = are.3.notes }

pub trace-order : (c : Configuration) (octets : List ℕ) (all : List Text) (taken : Taken) → AreTexts c octets all
    → StopsIn all taken → (trace_meaning c).is_in_order octets (output_of all) taken
trace-order c octets all taken are stops = stops-alone all taken are.3.notes stops

-- few windows of few octets are counted as they are
counted : (c : Configuration) (octets : List ℕ) (handed : List (Handed WindowBlock)) (left : ℕ) → IsAccepted c
    → length octets ≤ c.limit → AreHanded c octets handed left
    → AreOut (lines_by no_blocks handed) (blocks_text no_blocks handed)
    × (counted_by no_blocks handed ≡ tally_all no_blocks handed)
counted c octets handed left accepted within are =
    let most = accepted.limit in
    lines-are no_blocks handed
    (few-tally octets handed (omega arith) (few-handed c octets handed left accepted are))

pub trace-early : DueFirst → (c : Configuration) (decoder : InnerDecoding) (tally : Tally) (octets : List ℕ)
    (texts : List Text) → length octets ≤ c.limit → Traces c decoder tally octets texts
    → Early (trace_meaning c) (AreTexts c) octets texts
trace-early law c decoder tally octets texts within t =
    let due = subst (λ (k : Configuration). AreHandedDue k octets t.handed) t.config
    (handed-due decoder octets t.handed t.stands) in
    let most = t.accepted.limit in
    let lines = lines-are no_blocks t.handed
    (few-tally octets t.handed (omega arith) (few-due law c octets t.handed t.accepted due)) in
    let are : AreOut texts (blocks_text no_blocks t.handed) =
    subst (λ (l : List Text). AreOut l (blocks_text no_blocks t.handed)) (sym t.lines) lines.0 in
    record {
      due = record { handed = t.handed; are_due = due; out = are.out; notes = are.notes };
      rest = λ more.
          let whole = octets ++ more in
          let all = law c octets more t.handed t.accepted due in
          let bits = length (inner_bits c whole (items_of (t.handed ++ all.0))) in
          let end = trace-rest t.handed all.0 bits all.1 in (
            Out end.0 ∷ [],
            (
              t.handed ++ all.0,
              all.1,
              all.2,
              subst (AreOut (texts ++ Out end.0 ∷ [])) (sym end.1)
                  (are_out-more texts (Out end.0 ∷ []) (blocks_text no_blocks t.handed) end.0 are
                  (record { out = append-nil end.0; notes = refl })),
            ),
          );
    }

pub trace-whole : (c : Configuration) (octets : List ℕ) (texts : List Text) (by : Outcome) → length octets ≤ c.limit
    → (by ≡ Done) × TracesAll c octets texts
    → AreTexts c octets texts × OutcomeShows (trace_meaning c) octets by
trace-whole c octets texts Bad within whole = let both = whole.0 in cc both
trace-whole c octets texts LeftOver within whole = let both = whole.0 in cc both
trace-whole c octets texts Done within whole =
    let t = whole.1 in
    let bits = length (inner_bits c octets (items_of t.handed)) in
    let lines = counted c octets t.handed t.left t.accepted within t.are_handed in
    let end : List ℕ = trace_end_text (counted_by no_blocks t.handed).blocks bits t.left in
    let count : (counted_by no_blocks t.handed).blocks ≡ length (items_of t.handed) =
    ap (λ (n : Tally). n.blocks) lines.1 ∙ blocks-counted t.handed in (
      (
        t.handed,
        t.left,
        t.are_handed,
        subst (λ (l : List Text). AreOut l (trace_text t.handed bits t.left)) (sym t.lines)
            (subst (λ (n : ℕ). AreOut (lines_by no_blocks t.handed ++ Out (trace_end_text
            (counted_by no_blocks t.handed).blocks bits t.left) ∷ [])
            (blocks_text no_blocks t.handed ++ trace_end_text n bits t.left)) count
            (are_out-more (lines_by no_blocks t.handed) (Out end ∷ []) (blocks_text no_blocks t.handed) end lines.0
            (record { out = append-nil end; notes = refl }))),
      ),
      (λ none. none, λ none. none),
    )

-- nothing is for the notes
silent : (c : Configuration) (d : InnerDecoding) (tally : Tally) (octets : List ℕ) (texts : List Text)
    → Traces c d tally octets texts → notes_of texts ≡ []
silent c d tally octets texts t = ap notes_of t.lines ∙ lines-silent no_blocks t.handed

silent-all : (c : Configuration) (octets : List ℕ) (texts : List Text) → TracesAll c octets texts
    → notes_of texts ≡ []
silent-all c octets texts t =
    ap notes_of t.lines ∙ notes_of-append (lines_by no_blocks t.handed) _
    ∙ ap (λ l. l ++ []) (lines-silent no_blocks t.handed)

-- how a trace ends
pub trace-ends : DueFirst → {S : Type 0} (inner : S → InnerDecoding) (tally : S → Tally) (c k : Configuration)
    (limit : ℕ) → k ≡ c → limit ≡ c.limit → (now : S) (ending : Ending) (octets : List ℕ) (texts : List Text)
    (taken : Taken) (noted : Option (List ℕ))
    → StagedTo (λ (t : S) o x. Traces k (inner t) (tally t) o x) (λ (t : S) (o : List ℕ) (x : List Text). ⊥)
    (λ (t : S) o x by. (by ≡ Done) × TracesAll k o x) limit now ending octets texts
    → WroteTexts (is_sink_fault ending) texts taken
    → Ends ending (trace_meaning c) c.limit octets (taken_by taken.out taken.out_now noted noted)
trace-ends law {S} inner tally c k limit same within now ending octets texts taken noted staged wrote =
    let Stands : Configuration → S → List ℕ → List Text → Type 0 = λ k t o x. Traces k (inner t) (tally t) o x in
    let Stopped : S → List ℕ → List Text → Type 0 = λ t o x. ⊥ in
    let Finished : Configuration → S → List ℕ → List Text → Outcome → Type 0 =
    λ k t o x by. (by ≡ Done) × TracesAll k o x in
    let d = subst (λ (n : ℕ). StagedTo (Stands c) Stopped (Finished c) n now ending octets texts) within
    (subst (λ (k : Configuration). StagedTo (Stands k) Stopped (Finished k) limit now ending octets texts) same
    staged) in
    let quiet = staged-texts (Stands c) Stopped (Finished c) c.limit now (λ x. notes_of x ≡ [])
    (λ o x t. silent c (inner now) (tally now) o x t) (λ o x none. absurd none)
    (λ o x by f. silent-all c o x f.1) ending octets texts d in
    ends-staged (Stands c) Stopped (Finished c) (trace_meaning c) c.limit (AreTexts c) (trace-output c)
    (trace-order c) now (λ o x within t. trace-early law c (inner now) (tally now) o x within t)
    (λ o x within none. absurd none) (λ o x by within f. trace-whole c o x by within f) ending octets texts
    (taken_by taken.out taken.out_now noted noted) d
    (wrote-alone (is_sink_fault ending) texts taken noted quiet wrote)
