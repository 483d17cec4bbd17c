-- What `bits` shows at each ending.
use Rattle.std.proofs.Common.{◌≡◌, inl, inr, ℕ, ◌-◌, Bool, List, [], ◌∷◌, ◌++◌, length, take, refl, sym, ap, ◌∙◌, subst, arith, append_assoc}
use Rattle.std.proofs.lemmas.List.{append-nil, take_all}
use Rattle.tm_base.specs.Bits.{bits_of, octets_of}
use Rattle.tm_base.specs.Handed.{items_of}
use Rattle.tm_base.specs.Written.{Wrote, WrotePrefix}
use Rattle.tm_base.proofs.Packing.{octets_of-bits_of-append}
use Rattle.tm_config.specs.Configuration.{Configuration}
use Rattle.tm_inner.specs.Handing.{AreHandedDue}
use Rattle.tm_inner.specs.Inner.{plain_count}
use Rattle.tm_inner.specs.InnerDecoding.{InnerDecoding}
use Rattle.tm_inner.proofs.DecoderReads.{handed-due}
use Rattle.tm_driver.specs.Meaning.{Ends, Taken}
use Rattle.tm_driver.specs.Staged.{StagedTo}
use Rattle.tm_driver.specs.Statuses.{is_sink_fault}
use Rattle.tm_driver.specs.Writing.{Text, Out, Note, StopsIn, TookPart, WroteTexts, notes_of, out_of, output_of}
use Rattle.tm_driver.specs.declared.ending.Ending.{Ending}
use Rattle.tm_driver.specs.declared.ending.Outcome.{Outcome}
use Rattle.tm_driver.specs.declared.ending.Outcome.TheVariants.{Done, Bad, LeftOver}
use Rattle.tm_driver.proofs.SinkTexts.{wrote-as}
use Rattle.tm_driver.proofs.Staged.{Early, OutcomeShows, ends-staged}
use Rattle.tm_driver.proofs.Writing.{notes_of-append, out_of-append, stops-last, stops-prefixes, stops-split}
use Rattle.tm_path_commands.specs.Bits.{AreBitsInOrder, IsBits, bits_meaning, bits_of_handed, end_line, fill, phase_line}
use Rattle.tm_path_commands.specs.Packing.{GivesAllBits, GivesBits, IsFirstNote, plain_more}
use Rattle.tm_path_commands.proofs.BitsGathered.{all_bits, first-more, given-octets, handed-further, line-append, line-first, notes-are, nothing-both, rest-all}
use Rattle.tm_path_commands.proofs.FewHanded.{DueFirst}

-- ---- all texts

bits-output : (c : Configuration) (octets : List ℕ) (all : List Text) → GivesAllBits c octets all
    → IsBits c octets (output_of all)
bits-output c octets all w =
    let end = Note (end_line c octets w.handed w.left) ∷ [] in
    record {
      handed = w.handed;
      left = w.left;
      are_handed = w.are_handed;
      out = ap out_of w.split ∙ out_of-append w.before end ∙ append-nil (out_of w.before) ∙ w.out;
      notes = ap notes_of w.split ∙ notes_of-append w.before end
          ∙ (λ i. notes-are w.before (phase_line w.handed) w.noted i
          ++ append-nil (end_line c octets w.handed w.left) i);
    }

-- ---- where a sink stops

-- in texts of which none is a note the notes took those before them
notes-before : (first more rest : List Text) (next : Text) (taken : Taken) → notes_of (more ++ next ∷ rest) ≡ []
    → TookPart (first ++ more) next taken → Wrote taken.notes taken.notes_now (notes_of first)
notes-before first more rest next taken none part =
    let both = nothing-both (notes_of more) (notes_of (next ∷ rest))
    (sym (notes_of-append more (next ∷ rest)) ∙ none) in
    by next both.1 both.0 part
  where
    before : notes_of more ≡ [] → notes_of (first ++ more) ≡ notes_of first
    before nothing = notes_of-append first more ∙ ap (λ l. notes_of first ++ l) nothing ∙ append-nil (notes_of first)

    by : (next : Text) → notes_of (next ∷ rest) ≡ [] → notes_of more ≡ [] → TookPart (first ++ more) next taken
        → Wrote taken.notes taken.notes_now (notes_of first)
    by (Out text) after nothing part =
        wrote-as taken.notes taken.notes_now (notes_of (first ++ more)) (notes_of first) (before nothing) part.1
    by (Note text) after nothing part =
        let empty = (nothing-both text (notes_of rest) after).0 in
        wrote-as taken.notes taken.notes_now (notes_of (first ++ more) ++ take part.1.0 text) (notes_of first)
        ((λ i. before nothing i ++ take part.1.0 (empty i)) ∙ ap (λ l. notes_of first ++ l)
        (take_all part.1.0 [] (omega arith)) ∙ append-nil (notes_of first)) part.1.1

bits-order : (c : Configuration) (octets : List ℕ) (all : List Text) (taken : Taken) → GivesAllBits c octets all
    → StopsIn all taken → (bits_meaning c).is_in_order octets (output_of all) taken
bits-order c octets all taken w stops = (w.handed, w.left, w.are_handed, order)
  where
    line : List ℕ
    line = phase_line w.handed

    end : Text
    end = Note (end_line c octets w.handed w.left)

    n : IsFirstNote w.before line
    n = w.noted

    out : out_of w.before ≡ out_of all
    out = sym (append-nil (out_of w.before)) ∙ sym (out_of-append w.before (end ∷ [])) ∙ sym (ap out_of w.split)

    -- before the line of the phase is whole the output took nothing
    in-line : StopsIn n.first taken → Wrote taken.out taken.out_now [] × WrotePrefix taken.notes taken.notes_now line
    in-line f =
        let p = stops-prefixes n.first taken f in
        let none = subst (WrotePrefix taken.out taken.out_now) n.silent p.out in (
          subst (Wrote taken.out taken.out_now) (take_all none.0 [] (omega arith)) none.1,
          subst (WrotePrefix taken.notes taken.notes_now) n.noted p.notes,
        )

    order : AreBitsInOrder line (output_of all) taken
    order = elim (stops-last w.before end taken (subst (λ (l : List Text). StopsIn l taken) w.split stops)) as
        (λ _. AreBitsInOrder line (output_of all) taken) [
          | inl s ↦ elim (stops-split n.first n.rest taken (subst (λ (l : List Text). StopsIn l taken) n.split s)) as
              (λ _. AreBitsInOrder line (output_of all) taken) [
                | inl f ↦ inl (in-line f)
                | inr r ↦ inr (inl (subst (Wrote taken.notes taken.notes_now) n.noted
                    (notes-before n.first r.0 r.2 r.1 taken (sym (ap notes_of r.3) ∙ n.only) r.4)))
              ]
          | inr part ↦ inr (inr (subst (Wrote taken.out taken.out_now) out part.0))
        ]

-- ---- the endings

bits-early : DueFirst → (c : Configuration) (decoder : InnerDecoding) (bits : List Bool) (windows : ℕ)
    (octets : List ℕ) (texts : List Text) → GivesBits c decoder bits windows octets texts
    → Early (bits_meaning c) (GivesAllBits c) octets texts
bits-early law c decoder bits windows octets texts t =
    let due : AreHandedDue c octets t.handed = subst (λ (k : Configuration). AreHandedDue k octets t.handed) t.config
    (handed-due decoder octets t.handed t.stands) in
    let line = phase_line t.handed in
    let all = bits_of_handed c octets t.handed in record {
      due = record {
        handed = t.handed;
        are_due = due;
        out = given-octets texts line all bits t.given t.few;
        notes = notes-are texts line t.given.noted;
      };
      rest = λ more.
          let longer = octets ++ more in
          let a = law c octets more t.handed t.accepted due in
          let handed = t.handed ++ a.0 in
          let r = rest-all c longer t.handed a.0 a.1 a.2 in
          let skip = c.skip - plain_count c (length octets) in
          let later = all_bits (items_of a.0) ++ plain_more c.inner c skip more in
          let last = octets_of (bits ++ (later ++ fill)) in
          let middle = Note (phase_line a.0) ∷ Out last ∷ [] in
          let end = Note (end_line c longer handed a.1) ∷ [] in (
            middle ++ end,
            record {
              accepted = t.accepted;
              handed = handed;
              left = a.1;
              are_handed = a.2;
              before = texts ++ middle;
              split = sym (append_assoc texts middle end);
              out = out_of-append texts middle ∙ ap (λ l. out_of texts ++ l) (append-nil last)
                  ∙ sym (octets_of-bits_of-append (out_of texts) (bits ++ (later ++ fill)) t.given.are_octets)
                  ∙ ap octets_of (sym (append_assoc (bits_of (out_of texts)) bits (later ++ fill))
                  ∙ ap (λ l. l ++ (later ++ fill)) t.given.octets ∙ sym (append_assoc all later fill)
                  ∙ ap (λ l. l ++ fill) (sym (handed-further c octets more t.handed a.0 skip r refl)));
              noted = subst (IsFirstNote (texts ++ middle)) (sym (line-append t.handed a.0))
                  (first-more texts middle line (phase_line a.0) t.given.noted (record {
                    first = Note (phase_line a.0) ∷ [];
                    rest = Out last ∷ [];
                    split = refl;
                    silent = refl;
                    noted = append-nil (phase_line a.0);
                    only = refl;
                  }) (line-first c octets t.handed a.0 texts line bits due t.given r));
            },
          );
    }

bits-whole : (c : Configuration) (octets : List ℕ) (texts : List Text) (by : Outcome)
    → (by ≡ Done) × GivesAllBits c octets texts → GivesAllBits c octets texts × OutcomeShows (bits_meaning c) octets by
bits-whole c octets texts Done w = (w.1, (λ none. none, λ none. none))
bits-whole c octets texts Bad w = let both = w.0 in cc both
bits-whole c octets texts LeftOver w = let both = w.0 in cc both

-- how `bits` ends
pub bits-ends : DueFirst → {S : Type 0} (inner : S → InnerDecoding) (packer : S → List Bool) (windows : S → ℕ)
    (c k : Configuration) (limit : ℕ) → k ≡ c → limit ≡ c.limit → (now : S) (ending : Ending) (octets : List ℕ)
    (texts : List Text) (taken : Taken)
    → StagedTo (λ (t : S) o x. GivesBits k (inner t) (packer t) (windows t) o x)
    (λ (t : S) (o : List ℕ) (x : List Text). ⊥) (λ (t : S) o x by. (by ≡ Done) × GivesAllBits k o x) limit now ending
    octets texts
    → WroteTexts (is_sink_fault ending) texts taken → Ends ending (bits_meaning c) c.limit octets taken
bits-ends law {S} inner packer windows c k limit same within now ending octets texts taken staged wrote =
    let Stands : Configuration → S → List ℕ → List Text → Type 0 =
    λ k t o x. GivesBits k (inner t) (packer t) (windows t) o x in
    let Stopped : S → List ℕ → List Text → Type 0 = λ t o x. ⊥ in
    let Finished : Configuration → S → List ℕ → List Text → Outcome → Type 0 =
    λ k t o x by. (by ≡ Done) × GivesAllBits k o x in
    let d = subst (λ (n : ℕ). StagedTo (Stands c) Stopped (Finished c) n now ending octets texts) within
    (subst (λ (k : Configuration). StagedTo (Stands k) Stopped (Finished k) limit now ending octets texts) same
    staged) in
    ends-staged (Stands c) Stopped (Finished c) (bits_meaning c) c.limit (GivesAllBits c) (bits-output c) (bits-order c)
    now (λ o x within t. bits-early law c (inner now) (packer now) (windows now) o x t) (λ o x within none. absurd none)
    (λ o x by within f. bits-whole c o x by f) ending octets texts taken d wrote
