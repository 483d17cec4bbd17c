-- What `check` shows at each ending.
use Rattle.std.proofs.Common.{◌≡◌, ◌⊎◌, inl, inr, ℕ, ◌+◌, Bool, true, false, List, [], ◌∷◌, ◌++◌, length, Option, Some, None, refl, sym, ap, ◌∙◌, subst, arith, append_assoc}
use Rattle.std.proofs.lemmas.List.{append-nil}
use Rattle.tm_config.specs.Configuration.{Configuration}
use Rattle.tm_conv.specs.declared.rates.Rate.{Rate}
use Rattle.tm_cert_file.specs.declared.seen.Reason.{Reason}
use Rattle.tm_cert_file.specs.declared.seen.Seen.{Seen}
use Rattle.tm_cert_file.specs.declared.seen.Seen.TheVariants.{More, Failed}
use Rattle.tm_cert_file.specs.Window.{Window}
use Rattle.tm_cert_file.specs.Before.{Rules}
use Rattle.tm_cert_file.specs.File.{IsRead, IsCut, IsBroken, all_kept, is_cut, kept_octets}
use Rattle.tm_driver.specs.Meaning.{Ends, Taken}
use Rattle.tm_driver.specs.Staged.{StagedTo}
use Rattle.tm_driver.specs.Statuses.{is_sink_fault}
use Rattle.tm_driver.specs.Turns.{but_last_turn}
use Rattle.tm_driver.specs.Writing.{Text, Out, Note, StopsIn, TookPart, WroteTexts, notes_of, out_of, output_of}
use Rattle.tm_driver.specs.declared.ending.Ending.{Ending}
use Rattle.tm_driver.specs.declared.ending.Outcome.{Outcome}
use Rattle.tm_driver.specs.declared.ending.Outcome.TheVariants.{Done, Bad, LeftOver}
use Rattle.tm_driver.proofs.Staged.{Early, OutcomeShows, ends-staged}
use Rattle.tm_driver.proofs.Writing.{notes_of-append, out_of-append}
use Rattle.tm_path_commands.specs.Check.{ReadAt, IsChecked, IsCheckedDue, AreInOrder, bits_kept, check_meaning, windows_text, end_text, next_kept, next_line}
use Rattle.tm_path_commands.specs.Checking.{Checks, ChecksAll, EndsChecking, StopsChecking, window_texts}
use Rattle.tm_path_commands.specs.Lines.{window_text}
use Rattle.tm_path_commands.specs.declared.check_command.Checking.{Checking}
use Rattle.tm_path_commands.proofs.CheckedWindows.{ReadOne, read-so_far, texts-are, texts-more}

-- ---- where a sink fails in the texts of windows and of the end

-- the texts before the one in which it fails are those of first windows, and of the octets of the next
record FailsAt (rate : Rate) (number t : ℕ) (windows : List Window) (end : List ℕ) (first : List Text)
    (next : Text) : Type 0 where
  prefix : List Window
  rest : List Window
  split : windows ≡ prefix ++ rest
  at : ℕ
  is_at : at ≡ t + bits_kept prefix
  index : ℕ
  is_index : index ≡ number + length prefix
  notes : notes_of first ≡ windows_text number prefix
  place : (out_of first ≡ all_kept rate t prefix) × (next ≡ Out (next_kept rate at rest))
      ⊎ (out_of first ≡ all_kept rate t prefix ++ next_kept rate at rest) × (next ≡ Note (next_line index end rest))

-- octets before those that are known
after : (first out a b : List ℕ) → out ≡ a ++ b → first ++ out ≡ (first ++ a) ++ b
after first out a b is = ap (λ l. first ++ l) is ∙ sym (append_assoc first a b)

fails-at : (rate : Rate) (number t : ℕ) (windows : List Window) (end : List ℕ) (first rest : List Text) (next : Text)
    → window_texts rate number t windows ++ Note end ∷ [] ≡ first ++ next ∷ rest
    → FailsAt rate number t windows end first next
fails-at rate number t [] end [] rest next same = record {
  prefix = [];
  rest = [];
  split = refl;
  at = t;
  is_at = omega arith;
  index = number;
  is_index = omega arith;
  notes = refl;
  place = inr (refl, cc);
}
fails-at rate number t [] end (x ∷ []) rest next same = absurd cc
fails-at rate number t [] end (x ∷ y ∷ first) rest next same = absurd cc
fails-at rate number t (w ∷ windows) end [] rest next same = record {
  prefix = [];
  rest = w ∷ windows;
  split = refl;
  at = t;
  is_at = omega arith;
  index = number;
  is_index = omega arith;
  notes = refl;
  place = inl (refl, cc);
}
fails-at rate number t (w ∷ windows) end (x ∷ []) rest next same =
    let is : x ≡ Out (kept_octets rate t w) = cc in
    record {
      prefix = [];
      rest = w ∷ windows;
      split = refl;
      at = t;
      is_at = omega arith;
      index = number;
      is_index = omega arith;
      notes = ap (λ (text : Text). notes_of (text ∷ [])) is;
      place = inr (ap (λ (text : Text). out_of (text ∷ [])) is ∙ append-nil (kept_octets rate t w), cc);
    }
fails-at rate number t (w ∷ windows) end (x ∷ y ∷ first) rest next same =
    let kept = kept_octets rate t w in
    let line = window_text number w.steps w.kept w.metric in
    let is_kept : x ≡ Out kept = cc in
    let is_line : y ≡ Note line = cc in
    let f = fails-at rate (number + 1) (t + w.kept) windows end first rest next (cc) in
    let outs : out_of (x ∷ y ∷ first) ≡ kept ++ out_of first = (λ i. out_of (is_kept i ∷ is_line i ∷ first)) in
    record {
      prefix = w ∷ f.prefix;
      rest = f.rest;
      split = ap (λ (l : List Window). w ∷ l) f.split;
      at = f.at;
      is_at = omega (arith, f.is_at);
      index = f.index;
      is_index = omega (arith, f.is_index);
      notes = (λ i. notes_of (is_kept i ∷ is_line i ∷ first)) ∙ ap (λ l. line ++ l) f.notes;
      place =
          elim f.place [
            | inl p ↦ inl (outs ∙ ap (λ l. kept ++ l) p.0, p.1)
            | inr p ↦ inr (
              outs ∙ after kept (out_of first) (all_kept rate (t + w.kept) f.prefix) (next_kept rate f.at f.rest) p.0,
              p.1,
            )
          ];
    }

-- a sink fails in order
in-order : (rules : Rules) (windows : List Window) (end : List ℕ) (texts : List Text) (taken : Taken)
    → texts ≡ window_texts rules.rate 0 0 windows ++ Note end ∷ [] → StopsIn texts taken
    → AreInOrder rules windows end taken
in-order rules windows end texts taken are stops =
    let f = fails-at rules.rate 0 0 windows end stops.first stops.rest stops.next (sym are ∙ stops.split) in
    let at : f.at ≡ bits_kept f.prefix = omega (arith, f.is_at) in
    let index : f.index ≡ length f.prefix = omega (arith, f.is_index) in
    record {
      prefix = f.prefix;
      rest = f.rest;
      split = f.split;
      stops =
          elim f.place [
            | inl p ↦
                let part = subst (λ (text : Text). TookPart stops.first text taken) p.1 stops.part in
                inl ((part.0.0, cc), cc)
            | inr p ↦
                let part = subst (λ (text : Text). TookPart stops.first text taken) p.1 stops.part in
                inr (cc, (part.1.0, cc))
          ];
    }

-- ---- what is read

-- what is known of how octets are read
pub record ReadOnce : Type 0 where
  pub exists : (rules : Rules) (octets : List ℕ) → (windows : List Window) × (seen : Seen)
      × IsRead rules octets windows seen
  pub one : ReadOne
  pub longer : (rules : Rules) (octets more : List ℕ) (windows all : List Window) (seen last : Seen)
      → IsRead rules octets windows seen → IsRead rules (octets ++ more) all last → (rest : List Window)
      × (all ≡ windows ++ rest)

-- by the inner code of a configuration
at-rules : (P : Rules → Type 0) (k : Rules) (rate : Option Rate) (c : Configuration)
    → ReadAt (λ rules. k ≡ rules) rate c → P k → ReadAt P rate c
at-rules P k None c is p = absurd is
at-rules P k (Some rate) c is p = subst P is p

of-rules : (P : Rules → Type 0) (k : Rules) (rate : Option Rate) (c : Configuration)
    → ReadAt (λ rules. k ≡ rules) rate c → ReadAt P rate c → P k
of-rules P k None c is p = absurd is
of-rules P k (Some rate) c is p = subst P (sym is) p

-- ---- how it ends

module _ (once : ReadOnce) (c : Configuration) (new : Checking)
    (is : ReadAt (λ rules. new.reader.rules ≡ rules) c.inner c) where
  abbrev rules : Rules
  rules = new.reader.rules

  abbrev AreAll : List ℕ → List Text → Type 0
  AreAll octets texts = (seen : Seen) × (cut : Bool) × ChecksAll rules seen cut octets texts

  output : (octets : List ℕ) (all : List Text) → AreAll octets all
      → (check_meaning c).is_output octets (output_of all)
  output octets all a =
      let t = a.2 in
      let texts = window_texts rules.rate 0 0 t.windows in
      let end = Note (end_text a.0 a.1 t.windows) ∷ [] in
      let are = texts-are rules.rate 0 0 t.windows in
      at-rules (λ k. IsChecked k octets (out_of all) (notes_of all)) rules c.inner c is (record {
        windows = t.windows;
        seen = a.0;
        read = t.read;
        is_out = ap out_of t.are ∙ out_of-append texts end ∙ append-nil (out_of texts) ∙ are.0;
        are_notes = ap notes_of t.are ∙ notes_of-append texts end
            ∙ (λ i. are.1 i ++ append-nil (end_text a.0 (sym t.ends i) t.windows) i);
      })

  order : (octets : List ℕ) (all : List Text) (taken : Taken) → AreAll octets all → StopsIn all taken
      → (check_meaning c).is_in_order octets (output_of all) taken
  order octets all taken a stops =
      let t = a.2 in
      at-rules (λ k. (windows : List Window) × (seen : Seen) × (read : IsRead k octets windows seen)
      × AreInOrder k windows (end_text seen (is_cut read.before.next read.rest) windows) taken) rules c.inner c is (
        t.windows,
        a.0,
        t.read,
        in-order rules t.windows (end_text a.0 (is_cut t.read.before.next t.read.rest) t.windows) all taken
            (t.are ∙ (λ i. window_texts rules.rate 0 0 t.windows ++ Note (end_text a.0 (sym t.ends i) t.windows) ∷ []))
            stops,
      )

  early : (now : Checking) (octets : List ℕ) (texts : List Text) → Checks new now octets texts
      → Early (check_meaning c) AreAll octets texts
  early now octets texts p =
      let windows = p.1.windows in
      let read = read-so_far new now octets texts More p.1 p.0 (λ no. cc no) in
      let are = texts-are rules.rate 0 0 windows in
      record {
        due = at-rules (λ k. IsCheckedDue k octets (out_of texts) (notes_of texts)) rules c.inner c is (record {
          windows = windows;
          read = read;
          is_out = ap out_of p.1.are ∙ are.0;
          are_notes = ap notes_of p.1.are ∙ are.1;
        });
        rest = λ more.
            let found = once.exists rules (octets ++ more) in
            let rest = once.longer rules octets more windows found.0 More found.1 read found.2 in
            let cut = is_cut found.2.before.next found.2.rest in
            let end = Note (end_text found.1 cut found.0) ∷ [] in
            let later = window_texts rules.rate (length windows) (bits_kept windows) rest.0 in (
              later ++ end,
              (
                found.1,
                cut,
                record {
                  windows = found.0;
                  read = found.2;
                  ends = refl;
                  are = ap (λ (l : List Text). l ++ (later ++ end)) p.1.are
                      ∙ sym (append_assoc (window_texts rules.rate 0 0 windows) later end)
                      ∙ ap (λ (l : List Text). l ++ end) (sym (texts-more rules.rate windows rest.0)
                      ∙ ap (window_texts rules.rate 0 0) (sym rest.1));
                },
              ),
            );
      }

  stops : (octets : List ℕ) (texts : List Text) (now : Checking) → StopsChecking new now octets texts
      → AreAll octets texts × Unit {0} × (check_meaning c).is_bad octets
      × ((check_meaning c).is_bad (but_last_turn octets) → ⊥)
  stops octets texts now s =
      let t = s.0.2 in
      let Broken : List ℕ → Rules → Type 0 = λ o k. (windows : List Window) × (reason : Reason)
      × IsBroken k o windows reason in (
        (Failed s.0.0, s.0.1, t),
        tt,
        at-rules (Broken octets) rules c.inner c is (t.windows, s.0.0, t.read),
        λ bad.
            let b = of-rules (Broken (but_last_turn octets)) rules c.inner c is bad in
            s.1 b.0 b.1 b.2,
      )

  whole : (now : Checking) (octets : List ℕ) (texts : List Text) (by : Outcome) → EndsChecking new now octets texts by
      → AreAll octets texts × OutcomeShows (check_meaning c) octets by
  whole now octets texts Bad t = absurd t
  whole now octets texts LeftOver t = (
    (More, true, t),
    at-rules (λ k. (windows : List Window) × IsCut k octets windows) rules c.inner c is (t.windows, (t.read, t.ends)),
  )
  whole now octets texts Done t = (
    (More, false, t),
    (
      λ partial.
          let p = of-rules (λ k. (windows : List Window) × IsCut k octets windows) rules c.inner c is partial in
          let same = once.one rules octets t.windows p.0 More More t.read p.1.0 in
          let no : false ≡ true = sym t.ends ∙ (λ i. is_cut (same.2 i).next (same.3 i)) ∙ p.1.1 in
          cc no,
      λ bad.
          let b = of-rules (λ k. (windows : List Window) × (reason : Reason) × IsBroken k octets windows reason) rules
          c.inner c is bad in
          let no : More ≡ Failed b.1 = (once.one rules octets t.windows b.0 More (Failed b.1) t.read b.2).1 in
          cc no,
    ),
  )

  pub check-ends : (limit : ℕ) → limit ≡ c.limit → (now : Checking) (ending : Ending) (octets : List ℕ)
      (texts : List Text) (taken : Taken)
      → StagedTo (Checks new) (StopsChecking new) (EndsChecking new) limit now ending octets texts
      → WroteTexts (is_sink_fault ending) texts taken → Ends ending (check_meaning c) c.limit octets taken
  check-ends limit within now ending octets texts taken d =
      ends-staged (Checks new) (StopsChecking new) (EndsChecking new) (check_meaning c) c.limit AreAll output order now
      (λ o x _ p. early now o x p) (λ o x _ s. stops o x now s) (λ o x by _ f. whole now o x by f) ending octets texts
      taken (subst (λ (n : ℕ). StagedTo (Checks new) (StopsChecking new) (EndsChecking new) n now ending octets texts)
      within d)

-- it doesn't end as if something in it were bad
pub check-not_bad : (new now : Checking) (limit : ℕ) (ending : Ending) (octets : List ℕ) (texts : List Text)
    → StagedTo (Checks new) (StopsChecking new) (EndsChecking new) limit now ending octets texts
    → ending ≡ Ending.Bad → ⊥
check-not_bad new now limit ending octets texts d is =
    (subst (λ (e : Ending). StagedTo (Checks new) (StopsChecking new) (EndsChecking new) limit now e octets texts) is d).0
