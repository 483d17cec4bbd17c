-- The lines of records, batch by batch, and how `erased` ends.
use Rattle.std.proofs.Common.{◌≡◌, inl, inr, ℕ, zero, suc, ◌+◌, ◌*◌, ◌/◌, ◌%◌, ◌<◌, ◌≤◌, ◌||◌, Bool, true, false, List, [], ◌∷◌, ◌++◌, length, take, drop, Some, map, refl, sym, ap, ◌∙◌, subst, arith, append_assoc, length-append}
use Rattle.std.specs.Prelude.{slice_get}
use Rattle.std.specs.List.{list_any}
use Rattle.std.proofs.lemmas.Bool.Decides.{nat_tests}
use Rattle.std.proofs.Math.Nat.{mul-add-div_right, mul-add-mod_self_right}
use Rattle.std.proofs.Math.Path.{transport}
use Rattle.std.proofs.lemmas.Option.{slice_get_within, get_or_from_slice_get}
use Rattle.std.proofs.lemmas.List.{append-nil, drop_at, map-append, take_more}
use Rattle.std.proofs.lemmas.List.Folds.{list_any-append}
use Rattle.std.proofs.lemmas.Nat.{div-mul-add, div_below, le-div}
use Rattle.tm_base.specs.Written.{Wrote}
use Rattle.tm_config.specs.Configuration.{Configuration}
use Rattle.tm_driver.specs.Lines.{left_over_text, outcome_by}
use Rattle.tm_driver.specs.Meaning.{Ends, Taken}
use Rattle.tm_driver.specs.Staged.{StagedTo}
use Rattle.tm_driver.specs.Statuses.{is_sink_fault}
use Rattle.tm_driver.specs.Writing.{Text, Out, Note, AreOut, StopsIn, WroteTexts, notes_of, out_of, output_of}
use Rattle.tm_driver.specs.declared.ending.Ending.{Ending}
use Rattle.tm_driver.specs.declared.ending.Outcome.{Outcome}
use Rattle.tm_driver.specs.declared.ending.Outcome.TheVariants.{LeftOver}
use Rattle.tm_driver.proofs.Staged.{Early, OutcomeShows, ends-staged}
use Rattle.tm_driver.proofs.Writing.{notes_of-append, out_of-append, stops-alone, stops-last}
use Rattle.tm_gf256.specs.declared.basis.Basis.{Basis}
use Rattle.tm_gf256.specs.Octet.{sent_octet}
use Rattle.tm_rs_code.specs.Erasures.{NearestErased}
use Rattle.tm_rs.specs.Answers.{found_erased}
use Rattle.tm_rs.specs.declared.answers.ErasedAnswer.{ErasedAnswer}
use Rattle.tm_rs.specs.declared.answers.ErasedAnswer.TheVariants.{Fixed as FixedBoth, Beyond as BeyondBoth}
use Rattle.tm_records.specs.Batch.{Batch}
use Rattle.tm_records.specs.declared.coding.Coding.{Coding}
use Rattle.tm_records.specs.declared.erased_command.Erasing.{Erasing}
use Rattle.tm_records.specs.Erased.{coding_of, erased_meaning, erased_text, nearest_text, nearest_lines, is_beyond, record_rest}
use Rattle.tm_records.specs.Erasing.{AreTexts, ErasesAll, Holds, HasSpace, outcome_with, record_texts}
use Rattle.tm_records.specs.Records.{AreFirstNearest, AreNearest, AreNearestDue, left_over, record_count, record_size}
use Rattle.tm_records.proofs.NearestRecords.{first-append, first-longer, has_rest, nearest_only}

-- ---- lines

pub line-is : (answer : ErasedAnswer) (basis : Basis) (codeword octets : List ℕ)
    → octets ≡ map (sent_octet basis) codeword → erased_text answer octets ≡ nearest_text basis
    (found_erased answer codeword)
line-is (FixedBoth wrong differing) basis codeword octets is = ap (erased_text (FixedBoth wrong differing)) is
line-is BeyondBoth basis codeword octets is = refl

take-one_more : {A : Type 0} (xs : List A) (i : ℕ) (x : A) → slice_get xs i ≡ Some x
    → take (i + 1) xs ≡ take i xs ++ x ∷ []
take-one_more xs i x is =
    take_more xs i x (slice_get_within xs i x is) ∙ ap (λ v. take i xs ++ v ∷ []) (get_or_from_slice_get xs i x x is)

texts-append : (basis : Basis) (a b : List NearestErased)
    → record_texts basis (a ++ b) ≡ record_texts basis a ++ record_texts basis b
texts-append basis a b = map-append (λ found. Out (nearest_text basis found)) a b

pub texts-more : (basis : Basis) (nearest : List NearestErased) (i : ℕ) (x : NearestErased)
    → slice_get nearest i ≡ Some x
    → record_texts basis (take (i + 1) nearest) ≡ record_texts basis (take i nearest) ++ Out (nearest_text basis x) ∷ []
texts-more basis nearest i x is =
    ap (record_texts basis) (take-one_more nearest i x is) ∙ texts-append basis (take i nearest) (x ∷ [])

texts-are : (basis : Basis) (nearest : List NearestErased)
    → AreOut (record_texts basis nearest) (nearest_lines basis nearest)
texts-are basis [] = record { out = refl; notes = refl }
texts-are basis (x ∷ nearest) =
    let rest = texts-are basis nearest in
    record { out = ap (λ l. nearest_text basis x ++ l) rest.out; notes = rest.notes }

pub beyond-more : (nearest : List NearestErased) (i : ℕ) (x : NearestErased) → slice_get nearest i ≡ Some x
    → list_any is_beyond (take (i + 1) nearest) ≡ (list_any is_beyond (take i nearest) || is_beyond x)
beyond-more nearest i x is =
    ap (list_any is_beyond) (take-one_more nearest i x is) ∙ list_any-append is_beyond (take i nearest) (x ∷ [])
    ∙ grind (arith, nat_tests)

-- ---- batches

module _ (c : Coding) (octets prefix held : List ℕ) (count : ℕ) (is : octets ≡ prefix ++ held)
    (long : length prefix ≡ count * record_size c) where
  length-is : length octets ≡ count * record_size c + length held
  length-is = ap length is ∙ length-append prefix held ∙ ap (λ n. n + length held) long

  pub after-prefix : drop (count * record_size c) octets ≡ held
  after-prefix = ap (drop (count * record_size c)) is ∙ drop_at prefix held (count * record_size c) long

  pub count-is : 0 < record_size c → record_count c octets ≡ count + record_count c held
  count-is some = ap (λ n. n / record_size c) length-is ∙ mul-add-div_right some count (length held)

  pub rest-is : left_over c octets ≡ left_over c held
  rest-is = ap (λ n. n % record_size c) length-is ∙ mul-add-mod_self_right count (record_size c) (length held)

module _ (c : Coding) (batch : Batch) (beyond : Bool) (octets : List ℕ) (texts : List Text)
    (h : Holds c batch beyond octets texts) where
  -- how many octets they are, the last whole record's end, and what follows it
  fits : length h.nearest * record_size c ≤ length octets
  fits = omega (arith, length-is c octets h.prefix batch.octets (length h.nearest) h.parts h.long)

  count-held : 0 < record_size c → record_count c octets ≡ length h.nearest + record_count c batch.octets
  count-held = count-is c octets h.prefix batch.octets (length h.nearest) h.parts h.long

  some-size : HasSpace batch → 0 < record_size c
  some-size space = subst (λ (k : Coding). 0 < record_size k) h.coding (omega (arith, space))

  -- what is nearest to the records of whole batches and of the batch after them, and their texts
  module _ (more : List NearestErased) (are : AreNearest batch.coding batch.octets more) where
    nearest-held : 0 < record_size c → AreNearest c octets (h.nearest ++ more)
    nearest-held some =
        let own = subst (λ (k : Coding). AreNearest k batch.octets more) h.coding are in
        record {
          each = first-append c octets h.nearest more h.each (subst (λ (l : List ℕ). AreFirstNearest c l more)
              (sym (after-prefix c octets h.prefix batch.octets (length h.nearest) h.parts h.long)) own.each);
          all = length-append h.nearest more ∙ ap (λ n. length h.nearest + n) own.all ∙ sym (count-held some);
        }

    texts-held : texts ++ record_texts batch.coding.basis more ≡ record_texts c.basis (h.nearest ++ more)
    texts-held = (λ i. h.are i ++ record_texts (h.coding i).basis more) ∙ sym (texts-append c.basis h.nearest more)

    beyond-held : (beyond || list_any is_beyond more) ≡ list_any is_beyond (h.nearest ++ more)
    beyond-held = ap (λ b. b || list_any is_beyond more) h.known ∙ sym (list_any-append is_beyond h.nearest more)

-- the batch takes more octets
pub held-more : (c : Coding) (batch after : Batch) (beyond : Bool) (octets piece : List ℕ) (texts : List Text)
    → after.coding ≡ batch.coding → after.octets ≡ batch.octets ++ piece → Holds c batch beyond octets texts
    → Holds c after beyond (octets ++ piece) texts
held-more c batch after beyond octets piece texts coding grows h = record {
  coding = coding ∙ h.coding;
  nearest = h.nearest;
  each = first-longer c octets piece h.nearest (fits c batch beyond octets texts h) h.each;
  batches = h.batches;
  whole = h.whole;
  prefix = h.prefix;
  parts = ap (λ l. l ++ piece) h.parts ∙ append_assoc h.prefix batch.octets piece ∙ ap (λ l. h.prefix ++ l) (sym grows);
  long = h.long;
  are = h.are;
  known = h.known;
}

div-whole : (s : ℕ) → 0 < s → 256 * s / s ≡ 256
div-whole s some = ap (λ n. n / s) (omega arith) ∙ div-mul-add 256 s 0 some

-- a full batch was given and emptied
pub held-full : (c : Coding) (batch after : Batch) (beyond : Bool) (octets : List ℕ) (texts : List Text)
    (more : List NearestErased) → after.coding ≡ batch.coding → after.octets ≡ []
    → length batch.octets ≡ 256 * record_size batch.coding → 0 < record_size batch.coding
    → AreNearest batch.coding batch.octets more → Holds c batch beyond octets texts
    → Holds c after (beyond || list_any is_beyond more) octets (texts ++ record_texts batch.coding.basis more)
held-full c batch after beyond octets texts more coding empty full some are h =
    let some_own : 0 < record_size c = subst (λ (k : Coding). 0 < record_size k) h.coding some in
    let own : length batch.octets ≡ 256 * record_size c = full ∙ ap (λ (k : Coding). 256 * record_size k) h.coding in
    let count : length more ≡ 256 =
    are.all ∙ ap (λ (k : Coding). record_count k batch.octets) h.coding ∙ ap (λ n. n / record_size c) own
    ∙ div-whole (record_size c) some_own in
    let grown : length h.nearest * record_size c + 256 * record_size c ≡ (length h.nearest + 256) * record_size c =
    omega arith in
    record {
      coding = coding ∙ h.coding;
      nearest = h.nearest ++ more;
      each = (nearest-held c batch beyond octets texts h more are some_own).each;
      batches = h.batches + 1;
      whole = length-append h.nearest more ∙ omega (arith, h.whole, count);
      prefix = octets;
      parts = sym (ap (λ l. octets ++ l) empty ∙ append-nil octets);
      long = length-is c octets h.prefix batch.octets (length h.nearest) h.parts h.long
          ∙ ap (λ n. length h.nearest * record_size c + n) own ∙ grown
          ∙ ap (λ n. n * record_size c) (sym (length-append h.nearest more ∙ ap (λ n. length h.nearest + n) count));
      are = texts-held c batch beyond octets texts h more are;
      known = beyond-held c batch beyond octets texts h more are;
    }

-- nothing was given yet
pub holds-none : (batch : Batch) → batch.octets ≡ [] → Holds batch.coding batch false [] []
holds-none batch none = record {
  coding = refl;
  nearest = [];
  each = tt;
  batches = 0;
  whole = omega arith;
  prefix = [];
  parts = sym none;
  long = omega arith;
  are = refl;
  known = refl;
}

-- ---- at the end

-- the records of whole batches are those that are due
due-are : (c : Coding) (batch : Batch) (beyond : Bool) (octets : List ℕ) (texts : List Text) → HasSpace batch
    → (h : Holds c batch beyond octets texts) → AreNearestDue c octets h.nearest
due-are c batch beyond octets texts space h =
    let some = some-size c batch beyond octets texts h space in
    record {
      each = h.each;
      all = omega (
        arith,
        h.whole,
        count-held c batch beyond octets texts h some,
        div_below (length batch.octets) (record_size c) 256 some
            (subst (λ (k : Coding). length batch.octets < 256 * record_size k) h.coding space),
      );
    }

-- the last records were given, after what was held before, and what is left over
pub erases-all : (c : Coding) (batch after : Batch) (beyond now : Bool) (octets : List ℕ) (texts : List Text)
    (more : List NearestErased) (rest : ℕ) (by outcome : Outcome)
    → HasSpace batch → after.coding ≡ batch.coding → after.octets ≡ batch.octets
    → AreNearest batch.coding batch.octets more → batch.coding.params.n ≤ 255
    → now ≡ (beyond || list_any is_beyond more) → rest ≡ left_over after.coding after.octets → by ≡ outcome_by rest
    → outcome ≡ outcome_with by now → Holds c batch beyond octets texts
    → ErasesAll c octets (texts ++ (record_texts batch.coding.basis more ++ Note (left_over_text rest) ∷ [])) outcome
erases-all c batch after beyond now octets texts more rest by outcome space coding same are short beyond_is is by_is
    ends h =
    let some = some-size c batch beyond octets texts h space in
    let known : rest ≡ left_over c octets =
    is ∙ (λ i. left_over (coding i) (same i)) ∙ ap (λ (k : Coding). left_over k batch.octets) h.coding
    ∙ sym (rest-is c octets h.prefix batch.octets (length h.nearest) h.parts h.long) in
    let lines = record_texts batch.coding.basis more in (
      record {
        nearest = h.nearest ++ more;
        are_nearest = nearest-held c batch beyond octets texts h more are some;
        are = sym (append_assoc texts lines (Note (left_over_text rest) ∷ []))
            ∙ (λ i. texts-held c batch beyond octets texts h more are i ++ Note (left_over_text (known i)) ∷ []);
      },
      subst (λ (k : Coding). k.params.n ≤ 255) h.coding short,
      ends ∙ (λ i. outcome_with ((by_is ∙ ap outcome_by known) i)
          ((beyond_is ∙ beyond-held c batch beyond octets texts h more are) i)),
    )

-- ---- what is shown

module _ (c : Configuration) where
  outcome-shows : (octets : List ℕ) (nearest : List NearestErased) (rest : ℕ) (beyond : Bool) (outcome : Outcome)
      → AreNearest (coding_of c) octets nearest → (coding_of c).params.n ≤ 255
      → rest ≡ record_rest c octets → beyond ≡ list_any is_beyond nearest
      → outcome ≡ outcome_with (outcome_by rest) beyond → OutcomeShows (erased_meaning c) octets outcome
  outcome-shows octets nearest rest beyond outcome are short is known ends =
      subst (OutcomeShows (erased_meaning c) octets) (sym ends) (by rest beyond is known)
    where
      by : (rest : ℕ) (beyond : Bool) → rest ≡ record_rest c octets → beyond ≡ list_any is_beyond nearest
          → OutcomeShows (erased_meaning c) octets (outcome_with (outcome_by rest) beyond)
      by zero true is known = (sym is, (nearest, are, sym known))
      by zero false is known = (
        λ partial. partial (sym is),
        λ bad. let same = nearest_only (coding_of c) octets bad.1.0 nearest short bad.1.1 are in
            let no : false ≡ true = known ∙ ap (list_any is_beyond) (sym same) ∙ bad.1.2 in cc no,
      )
      by (suc n) beyond is known =
          let left : outcome_by (suc n) ≡ LeftOver = grind (arith, nat_tests) in
          subst (λ o. OutcomeShows (erased_meaning c) octets (outcome_with o beyond)) (sym left)
          (λ none. let no : suc n ≡ 0 = is ∙ none in cc no)

  output : (octets : List ℕ) (all : List Text) → AreTexts (coding_of c) octets all
      → (erased_meaning c).is_output octets (output_of all)
  output octets all a =
      let texts = record_texts c.basis a.nearest in
      let rest = left_over_text (record_rest c octets) in
      let are = texts-are c.basis a.nearest in (
        record {
          nearest = a.nearest;
          are_nearest = a.are_nearest;
          are_lines = ap out_of a.are ∙ out_of-append texts (Note rest ∷ []) ∙ append-nil (out_of texts) ∙ are.out;
        },
        ap notes_of a.are ∙ notes_of-append texts (Note rest ∷ []) ∙ ap (λ l. l ++ (rest ++ [])) are.notes
            ∙ append-nil rest,
      )

  order : (octets : List ℕ) (all : List Text) (taken : Taken) → AreTexts (coding_of c) octets all → StopsIn all taken
      → (erased_meaning c).is_in_order octets (output_of all) taken
  order octets all taken a stops =
      let texts = record_texts c.basis a.nearest in
      let rest = Note (left_over_text (record_rest c octets)) in
      elim (stops-last texts rest taken (subst (λ (l : List Text). StopsIn l taken) a.are stops)) [
        | inl s ↦ inl (stops-alone texts taken (texts-are c.basis a.nearest).notes s)
        | inr part ↦ inr (
            subst (Wrote taken.out taken.out_now)
            (sym (ap out_of a.are ∙ out_of-append texts (rest ∷ []) ∙ append-nil (out_of texts))) part.0
            )
      ]

  early : (batch : Batch) (beyond : Bool) (octets : List ℕ) (texts : List Text) → HasSpace batch
      → Holds (coding_of c) batch beyond octets texts
      → Early (erased_meaning c) (AreTexts (coding_of c)) octets texts
  early batch beyond octets texts space h =
      let k = coding_of c in
      let are = texts-are c.basis h.nearest in
      let long = fits k batch beyond octets texts h in
      record {
        due = (
          record {
            nearest = h.nearest;
            are_nearest = due-are k batch beyond octets texts space h;
            are_lines = ap out_of h.are ∙ are.out;
          },
          ap notes_of h.are ∙ are.notes,
        );
        rest = λ more.
            let found = has_rest k (octets ++ more) h.nearest (first-longer k octets more h.nearest long h.each)
            (le-div (length h.nearest) (length (octets ++ more)) (record_size k)
            (some-size k batch beyond octets texts h space) (omega (arith, long, length-append octets more))) in
            let later = record_texts c.basis found.0 in
            let end = Note (left_over_text (record_rest c (octets ++ more))) ∷ [] in (
              later ++ end,
              record {
                nearest = h.nearest ++ found.0;
                are_nearest = found.1;
                are = ap (λ (l : List Text). l ++ (later ++ end)) h.are
                    ∙ sym (append_assoc (record_texts c.basis h.nearest) later end)
                    ∙ ap (λ (l : List Text). l ++ end) (sym (texts-append c.basis h.nearest found.0));
              },
            );
      }

  whole : (octets : List ℕ) (texts : List Text) (by : Outcome) → ErasesAll (coding_of c) octets texts by
      → AreTexts (coding_of c) octets texts × OutcomeShows (erased_meaning c) octets by
  whole octets texts by f = (
    f.0,
    outcome-shows octets f.0.nearest (record_rest c octets) (list_any is_beyond f.0.nearest) by f.0.are_nearest f.1
        refl refl f.2,
  )

  -- how it ends
  pub erased-ends : {R : Type 0} (k : Coding) → k ≡ coding_of c → (limit : ℕ) → limit ≡ c.limit → (now : Erasing R)
      (ending : Ending) (octets : List ℕ) (texts : List Text) (taken : Taken)
      → StagedTo (λ (t : Erasing R) o x. HasSpace t.records × Holds k t.records t.beyond o x)
      (λ (t : Erasing R) (o : List ℕ) (x : List Text). ⊥) (λ (t : Erasing R) o x by. ErasesAll k o x by) limit now
      ending octets texts
      → WroteTexts (is_sink_fault ending) texts taken → Ends ending (erased_meaning c) c.limit octets taken
  erased-ends {R} k same limit within now ending octets texts taken staged =
      ends-staged (λ (t : Erasing R) o x. HasSpace t.records × Holds (coding_of c) t.records t.beyond o x)
      (λ t o x. ⊥) (λ t o x by. ErasesAll (coding_of c) o x by) (erased_meaning c) c.limit
      (AreTexts (coding_of c)) output order now (λ o x _ s. early now.records now.beyond o x s.0 s.1)
      (λ o x _ none. absurd none) (λ o x by _ f. whole o x by f) ending octets texts taken
      (transport (λ i. StagedTo (λ (t : Erasing R) o x. HasSpace t.records × Holds (same i) t.records t.beyond o x)
      (λ t o x. ⊥) (λ t o x by. ErasesAll (same i) o x by) (within i) now ending octets texts) staged)
