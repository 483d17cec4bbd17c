-- What `encode` writes, and what that shows at each ending.
use Rattle.std.proofs.Common.{◌≡◌, inl, inr, ℕ, Bool, true, false, cond, ◌<◌, ◌==◌, List, [], ◌∷◌, ◌++◌, length, ◌*◌, ◌/◌, ◌%◌, refl, sym, ◌∙◌, ap, subst, arith, append_assoc, length-drop}
use Rattle.std.proofs.lemmas.Bool.Decides.{nat_tests}
use Rattle.std.proofs.lemmas.List.{append-nil, append_cancel_left}
use Rattle.std.proofs.lemmas.Nat.{div-add-mod'}
use Rattle.std.specs.Io.KnownBytes.{append_known}
use Rattle.tm_base.specs.Pieces.{further}
use Rattle.tm_base.specs.Written.{Wrote}
use Rattle.tm_base.proofs.Known.{append_known-nil}
use Rattle.tm_config.specs.Accepted.{IsAccepted}
use Rattle.tm_config.specs.Configuration.{Configuration}
use Rattle.tm_codeblock.specs.Frames.{after_frames}
use Rattle.tm_channel.specs.Sending.{Makes, SenderStandsFor}
use Rattle.tm_channel.specs.Sent.{sent}
use Rattle.tm_channel.proofs.Sending.{sent-goes_on, sent-none}
use Rattle.tm_driver.specs.Courses.{SinkCall, SourceCall, SinkCourse, StopsAtSink}
use Rattle.tm_driver.specs.Lines.{left_over_text, outcome_by}
use Rattle.tm_driver.specs.Meaning.{Ends, Taken}
use Rattle.tm_driver.specs.Staged.{Halts, StagedTo, Takes}
use Rattle.tm_driver.specs.Statuses.{is_sink_fault}
use Rattle.tm_driver.specs.Writing.{Text, Out, Note, AreOut, FailsAmong, FailsIn, StopsIn, WroteTexts, notes_of, out_of, output_of}
use Rattle.tm_driver.specs.declared.ending.Ending.{Ending}
use Rattle.tm_driver.specs.declared.ending.Outcome.{Outcome}
use Rattle.tm_driver.specs.declared.ending.Outcome.TheVariants.{Done, Bad, LeftOver}
use Rattle.tm_driver.proofs.Staged.{Early, OutcomeShows, ends-staged}
use Rattle.tm_driver.proofs.Writing.{are_out-more, notes_of-append, out_of-append, stops-alone, stops-last}
use Rattle.tm_cli.specs.Encode.{encode_meaning, left_over}
use Rattle.tm_cli.specs.Encoding.{Encodes, EncodesAll}
use Rattle.tm_cli.specs.declared.encode_command.Encoding.{Encoding}

-- how many octets follow the last whole frame
length-after : (size : ℕ) (octets : List ℕ) → length (after_frames size octets) ≡ length octets % size
length-after size octets =
    omega (arith, length-drop (length octets / size * size) octets, div-add-mod' (length octets) size)

-- one text of octets
is-out : (octets : List ℕ) → AreOut (Out octets ∷ []) octets
is-out octets = record { out = append-nil octets; notes = refl }

-- ---- a sender that is given octets

pub encodes-none : (new : Encoding) → SenderStandsFor new.sender [] → Encodes new new [] []
encodes-none new stood = record {
  config = refl;
  stands = stood;
  are = record { out = sym (sent-none new.sender.config); notes = refl };
}

pub encodes-more : {T : Type 0} (took : T → Text → T → Type 0) (before now : Encoding) (taker taker_now : T)
    (octets symbols : List ℕ) → 0 < before.sender.config.frame_length → Makes before.sender now.sender octets symbols
    → took taker (Out symbols) taker_now → Takes took Encodes Encodes before now taker taker_now octets
encodes-more took before now taker taker_now octets symbols some m one = record {
  texts = Out symbols ∷ [];
  handed = (taker_now, one, refl);
  stands = λ new given done few e.
      let c = before.sender.config in
      let longer : sent c given ++ symbols ≡ sent c (given ++ octets) =
      ap (λ l. sent c given ++ l) (sym (m.due given e.stands)) ∙ sym (sent-goes_on c some given octets) in
      record {
        config = m.config ∙ e.config;
        stands = m.stands given e.stands;
        are = subst (AreOut (done ++ Out symbols ∷ []))
            (subst (λ (k : Configuration). sent k given ++ symbols ≡ sent k (given ++ octets)) e.config longer)
            (are_out-more done (Out symbols ∷ []) (sent new.sender.config given) symbols e.are (is-out symbols));
      };
}

-- and then the end
pub encodes-all : (new now : Encoding) (given : List ℕ) (done : List Text) (rest : ℕ) (by : Outcome)
    → rest ≡ length (after_frames now.sender.config.frame_length given) → by ≡ outcome_by rest
    → Encodes new now given done
    → EncodesAll new.sender.config given (done ++ Note (left_over_text rest) ∷ [])
    × (by ≡ outcome_by (left_over new.sender.config given))
encodes-all new now given done rest by rest_is by_is e =
    let is : rest ≡ left_over new.sender.config given =
    rest_is ∙ ap (λ (c : Configuration). length (after_frames c.frame_length given)) e.config
    ∙ length-after new.sender.config.frame_length given in (
      record { symbols = done; are = e.are; all = ap (λ n. done ++ Note (left_over_text n) ∷ []) is },
      by_is ∙ ap outcome_by is,
    )

module _ (c : Configuration) where
  -- ---- what was written

  out-is : (octets : List ℕ) (all : List Text) → EncodesAll c octets all → out_of all ≡ sent c octets
  out-is octets all a =
      ap out_of a.all ∙ out_of-append a.symbols (Note (left_over_text (left_over c octets)) ∷ [])
      ∙ append-nil (out_of a.symbols) ∙ a.are.out

  notes-are : (octets : List ℕ) (all : List Text) → EncodesAll c octets all
      → notes_of all ≡ left_over_text (left_over c octets)
  notes-are octets all a =
      let rest = left_over_text (left_over c octets) in
      ap notes_of a.all ∙ notes_of-append a.symbols (Note rest ∷ []) ∙ ap (λ l. l ++ (rest ++ [])) a.are.notes
      ∙ append-nil rest

  output : (octets : List ℕ) (all : List Text) → EncodesAll c octets all
      → (encode_meaning c).is_output octets (output_of all)
  output octets all a = λ i. record { out = out-is octets all a i; notes = notes-are octets all a i }

  order : (octets : List ℕ) (all : List Text) (taken : Taken) → EncodesAll c octets all → StopsIn all taken
      → (encode_meaning c).is_in_order octets (output_of all) taken
  order octets all taken a stops =
      let rest = Note (left_over_text (left_over c octets)) in
      elim (stops-last a.symbols rest taken (subst (λ (l : List Text). StopsIn l taken) a.all stops)) [
        | inl s ↦ inl (stops-alone a.symbols taken a.are.notes s)
        | inr part ↦ inr (
            subst (Wrote taken.out taken.out_now) (a.are.out ∙ sym (out-is octets all a)) part.0
            )
      ]

  early : 0 < c.frame_length → (octets : List ℕ) (texts : List Text) → AreOut texts (sent c octets)
      → Early (encode_meaning c) (EncodesAll c) octets texts
  early some octets texts are = record {
    due = λ i. record { out = are.out i; notes = are.notes i };
    rest = λ more.
        let later = further (sent c) octets more in
        let end = Note (left_over_text (left_over c (octets ++ more))) ∷ [] in (
          Out later ∷ end,
          record {
            symbols = texts ++ Out later ∷ [];
            are = subst (AreOut (texts ++ Out later ∷ [])) (sym (sent-goes_on c some octets more))
                (are_out-more texts (Out later ∷ []) (sent c octets) later are (is-out later));
            all = sym (append_assoc texts (Out later ∷ []) end);
          },
        );
  }

  -- what came of the input shows whether octets are left over
  shows : (octets : List ℕ) (rest : ℕ) (is_zero : Bool) → left_over c octets ≡ rest → (rest == 0) ≡ is_zero
      → (by : Outcome) → by ≡ cond is_zero Done LeftOver → OutcomeShows (encode_meaning c) octets by
  shows octets rest true is zero Done by_is = (λ partial. partial (is ∙ grind (arith, nat_tests)), λ bad. bad)
  shows octets rest true is zero Bad by_is = absurd (cc)
  shows octets rest true is zero LeftOver by_is = absurd (cc)
  shows octets rest false is zero Done by_is = absurd (cc)
  shows octets rest false is zero Bad by_is = absurd (cc)
  shows octets rest false is zero LeftOver by_is = λ none. let n : rest ≡ 0 = sym is ∙ none in grind (arith, nat_tests)

  -- how it ends
  pub encode-ends : IsAccepted c → (new : Encoding) → new.sender.config ≡ c → (limit : ℕ) → limit ≡ c.limit
      → (now : Encoding) (ending : Ending) (octets : List ℕ) (texts : List Text) (taken : Taken)
      → StagedTo (Encodes new) (λ (t : Encoding) (o : List ℕ) (x : List Text). ⊥)
      (λ (t : Encoding) o x by. EncodesAll new.sender.config o x × (by ≡ outcome_by (left_over new.sender.config o)))
      limit now ending octets texts
      → WroteTexts (is_sink_fault ending) texts taken → Ends ending (encode_meaning c) c.limit octets taken
  encode-ends accepted new same limit within now ending octets texts taken staged =
      let Stopped : Encoding → List ℕ → List Text → Type 0 = λ t o x. ⊥ in
      let Finished : Configuration → Encoding → List ℕ → List Text → Outcome → Type 0 =
      λ k t o x by. EncodesAll k o x × (by ≡ outcome_by (left_over k o)) in
      ends-staged (Encodes new) Stopped (Finished c) (encode_meaning c) c.limit (EncodesAll c) output order now
      (λ o x _ e. early (omega (arith, accepted.some_data)) o x
      (subst (λ (k : Configuration). AreOut x (sent k o)) same e.are))
      (λ o x _ none. absurd none)
      (λ o x by _ f. (f.0, shows o (left_over c o) (left_over c o == 0) refl refl by f.1)) ending octets texts taken
      (subst (λ (n : ℕ). StagedTo (Encodes new) Stopped (Finished c) n now ending octets texts) within
      (subst (λ (k : Configuration). StagedTo (Encodes new) Stopped (Finished k) limit now ending octets texts) same
      staged))

-- ---- where a sink failed

-- no list is empty that has elements
first-none : {A : Type 0} (xs ys : List A) → xs ++ ys ≡ [] → xs ≡ []
first-none [] ys none = refl
first-none (x ∷ xs) ys none = absurd cc

some-first : (xs ys : List ℕ) → 0 < length xs → xs ++ ys ≡ [] → ⊥
some-first xs ys some none = omega (arith, some, ap length (first-none xs ys none))

-- in symbols, and the notes stay as they were
in-symbols : (first rest : List Text) (next : Text) (out notes : SinkCall) → notes_of (first ++ next ∷ rest) ≡ []
    → FailsIn first next out notes → SinkCourse true out × (notes.now ≡ notes.before)
in-symbols first rest (Out text) out notes none fails =
    let nothing = first-none (notes_of first) (notes_of rest) (sym (notes_of-append first (Out text ∷ rest)) ∙ none) in
    let taken = fails.1.written ∙ ap (append_known notes.before.taken) nothing ∙ append_known-nil notes.before.taken in
    ((fails.0.rose, fails.0.later), λ i. record { taken = taken i; faults = fails.1.same i })
in-symbols first rest (Note text) out notes none fails =
    let both = sym (notes_of-append first (Note text ∷ rest)) ∙ none in
    absurd (some-first text (notes_of rest) fails.1.some
    (subst (λ l. l ++ (text ++ notes_of rest) ≡ []) (first-none (notes_of first) (text ++ notes_of rest) both) both))

-- or in the notes at the end
in-rest : (fed middle rest : List Text) (next : Text) (out notes : SinkCall)
    → out_of (middle ++ next ∷ rest) ≡ [] → FailsIn (fed ++ middle) next out notes
    → SinkCourse true notes × (out.now.faults ≡ out.before.faults)
in-rest fed middle rest (Out text) out notes none fails =
    let both = sym (out_of-append middle (Out text ∷ rest)) ∙ none in
    absurd (some-first text (out_of rest) fails.0.some
    (subst (λ l. l ++ (text ++ out_of rest) ≡ []) (first-none (out_of middle) (text ++ out_of rest) both) both))
in-rest fed middle rest (Note text) out notes none fails = ((fails.1.rose, fails.1.later), fails.0.same)

pub stops-at : (new now : Encoding) (source : SourceCall) (out notes : SinkCall)
    → Halts (Encodes new) (λ (t : Encoding) (o : List ℕ) (x : List Text). ⊥)
    (λ (t : Encoding) o x by. EncodesAll new.sender.config o x × (by ≡ outcome_by (left_over new.sender.config o)))
    now (source.now.ended ≡ true) (source.now.ended ≡ source.before.ended) (λ fed last. FailsAmong fed last out notes)
    → StopsAtSink source out notes
stops-at new now source out notes h = elim h.when [
  | inl p ↦ elim p.2 [
    | inl e ↦
        let f = h.fails in
        let all : h.fed ++ h.last ≡ (h.fed ++ f.middle) ++ f.next ∷ f.rest =
        ap (λ l. h.fed ++ l) f.split ∙ sym (append_assoc h.fed f.middle (f.next ∷ f.rest)) in
        let went = in-symbols (h.fed ++ f.middle) f.rest f.next out notes (sym (ap notes_of all) ∙ e.are.notes) f.fails
        in inl (went.0, p.0, went.1)
    | inr none ↦ absurd none
  ]
  | inr p ↦
      let f = h.fails in
      let e = p.1 in
      let c = new.sender.config in
      let nothing : out_of h.last ≡ [] =
      append_cancel_left (sent c e.octets) (out_of h.last) []
      (ap (λ l. l ++ out_of h.last) (sym e.stood.are.out) ∙ sym (out_of-append h.fed h.last)
      ∙ out-is c e.octets (h.fed ++ h.last) e.ends.0 ∙ sym (append-nil (sent c e.octets))) in
      let went = in-rest h.fed f.middle f.rest f.next out notes (sym (ap out_of f.split) ∙ nothing) f.fails in
      inr (went.0, p.0, went.1)
]
