-- What the sinks of a writer took of texts.
use Rattle.std.proofs.Common.{◌≡◌, ◌⊎◌, inl, inr, ℕ, Bool, true, false, List, [], ◌∷◌, ◌++◌, take, refl, sym, ◌∙◌, ap, subst, append_assoc, arith, Option}
use Rattle.std.proofs.lemmas.List.{append-nil, take_all}
use Rattle.tm_base.specs.Takers.{HandedOver}
use Rattle.tm_base.specs.Written.{Wrote, WrotePrefix}
use Rattle.tm_base.specs.declared.outside.Sink.{Ghosts}
use Rattle.tm_base.proofs.Handing.{HandedOver-append}
use Rattle.tm_driver.specs.Courses.{SinkCall, SinkState, SinksCourse, sink_call, sink_state}
use Rattle.tm_driver.specs.Meaning.{Taken, WroteBoth, WrotePrefixes, taken_by}
use Rattle.tm_driver.specs.Texts.{BrokeText, TookText}
use Rattle.tm_driver.specs.Writing.{Text, Out, Note, AreOut, FailsAmong, FailsIn, StopsIn, TookOut, TookPart, Writes, WritesText, WroteTexts, notes_of, out_of, output_of}
use Rattle.tm_driver.specs.declared.writer.Writer.{Writer}
use Rattle.tm_driver.proofs.SinkTexts.{broke-later, part-prefix, prefix-of, took-more, took-none, wrote-as, wrote-nothing, wrote-prefix}

-- ---- texts after texts

pub out_of-append : (xs ys : List Text) → out_of (xs ++ ys) ≡ out_of xs ++ out_of ys
out_of-append [] ys = refl
out_of-append (Out x ∷ xs) ys = ap (λ l. x ++ l) (out_of-append xs ys) ∙ sym (append_assoc x (out_of xs) (out_of ys))
out_of-append (Note x ∷ xs) ys = out_of-append xs ys

pub notes_of-append : (xs ys : List Text) → notes_of (xs ++ ys) ≡ notes_of xs ++ notes_of ys
notes_of-append [] ys = refl
notes_of-append (Out x ∷ xs) ys = notes_of-append xs ys
notes_of-append (Note x ∷ xs) ys =
    ap (λ l. x ++ l) (notes_of-append xs ys) ∙ sym (append_assoc x (notes_of xs) (notes_of ys))

pub are_out-more : (xs ys : List Text) (a b : List ℕ) → AreOut xs a → AreOut ys b → AreOut (xs ++ ys) (a ++ b)
are_out-more xs ys a b first second = record {
  out = out_of-append xs ys ∙ ap (λ l. l ++ out_of ys) first.out ∙ ap (λ l. a ++ l) second.out;
  notes = notes_of-append xs ys ∙ ap (λ l. l ++ notes_of ys) first.notes ∙ second.notes;
}

-- ---- octets for the output

pub took_out-none : {T : Type 0} (took : T → Text → T → Type 0) (a : T) → TookOut took a a []
took_out-none took a = record { texts = []; handed = refl; are = record { out = refl; notes = refl } }

pub took_out-one : {T : Type 0} (took : T → Text → T → Type 0) (a b : T) (octets : List ℕ) → took a (Out octets) b
    → TookOut took a b octets
took_out-one took a b octets one = record {
  texts = Out octets ∷ [];
  handed = (b, one, refl);
  are = record { out = append-nil octets; notes = refl };
}

pub took_out-more : {T : Type 0} (took : T → Text → T → Type 0) (a b c : T) (x y : List ℕ) → TookOut took a b x
    → TookOut took b c y → TookOut took a c (x ++ y)
took_out-more took a b c x y p q = record {
  texts = p.texts ++ q.texts;
  handed = HandedOver-append took a b c p.texts q.texts p.handed q.handed;
  are = are_out-more p.texts q.texts x y p.are q.are;
}

-- ---- texts that were written, and a sink that failed in one

module _ {O N : Type 0} (o : Ghosts O) (n : Ghosts N) where
  abbrev OutCall : Writer O N → Writer O N → SinkCall
  OutCall a b = sink_call o a.out.now b.out.now

  abbrev NotesCall : Writer O N → Writer O N → SinkCall
  NotesCall a b = sink_call n a.notes.now b.notes.now

  abbrev out-at : Writer O N → SinkState
  out-at w = sink_state (o.taken w.out.now) (o.faults w.out.now)

  abbrev notes-at : Writer O N → SinkState
  notes-at w = sink_state (n.taken w.notes.now) (n.faults w.notes.now)

  record TookBoth (a b : Writer O N) (texts : List Text) : Type 0 where
    pub out : TookText (out-at a) (out-at b) (out_of texts)
    pub notes : TookText (notes-at a) (notes-at b) (notes_of texts)

  -- what the sinks went through with these texts
  abbrev Went : Bool → List Text → Writer O N → Writer O N → Type 0
  Went false texts a b = TookBoth a b texts
  Went true texts a b = FailsAmong [] texts (OutCall a b) (NotesCall a b)

  -- the writer holds the same two sinks
  pub writes-same : (texts : List Text) (a b : Writer O N) → HandedOver (Writes o n) a texts b
      → (b.out.ghost_name ≡ a.out.ghost_name) × (b.notes.ghost_name ≡ a.notes.ghost_name)
  writes-same [] a b over = (ap (λ w. w.out.ghost_name) (sym over), ap (λ w. w.notes.ghost_name) (sym over))
  writes-same (text ∷ texts) a b over =
      let later = writes-same texts over.0 b over.2 in (later.0 ∙ over.1.out, later.1 ∙ over.1.notes)

  -- after a fault nothing changes
  stays : (texts : List Text) (a b : Writer O N) → a.has_failed ≡ true → HandedOver (Writes o n) a texts b → b ≡ a
  stays [] a b failed over = sym over
  stays (text ∷ texts) a b failed over =
      let same = over.1.failed failed in
      stays texts over.0 b (ap (λ w. w.has_failed) same ∙ failed) over.2 ∙ same

  fails-after : (a m b : Writer O N) (first more : List Text) (next : Text) → TookBoth a m first
      → FailsIn more next (OutCall m b) (NotesCall m b) → FailsIn (first ++ more) next (OutCall a b) (NotesCall a b)
  fails-after a m b first more (Out text) took fails = (
    subst (λ (l : List ℕ). BrokeText (out-at a) (out-at b) (o.is_last b.out.now) l text)
        (sym (out_of-append first more)) (broke-later (out-at a) (out-at m) (out-at b) (o.is_last b.out.now)
        (out_of first) (out_of more) text took.out fails.0),
    subst (TookText (notes-at a) (notes-at b)) (sym (notes_of-append first more))
        (took-more (notes-at a) (notes-at m) (notes-at b) (notes_of first) (notes_of more) took.notes fails.1),
  )
  fails-after a m b first more (Note text) took fails = (
    subst (TookText (out-at a) (out-at b)) (sym (out_of-append first more))
        (took-more (out-at a) (out-at m) (out-at b) (out_of first) (out_of more) took.out fails.0),
    subst (λ (l : List ℕ). BrokeText (notes-at a) (notes-at b) (n.is_last b.notes.now) l text)
        (sym (notes_of-append first more)) (broke-later (notes-at a) (notes-at m) (notes-at b) (n.is_last b.notes.now)
        (notes_of first) (notes_of more) text took.notes fails.1),
  )

  went-after : (failed : Bool) (a m b : Writer O N) (first texts : List Text) → TookBoth a m first → Went failed texts
      m b → Went failed (first ++ texts) a b
  went-after false a m b first texts took went = record {
    out = subst (TookText (out-at a) (out-at b)) (sym (out_of-append first texts))
        (took-more (out-at a) (out-at m) (out-at b) (out_of first) (out_of texts) took.out went.out);
    notes = subst (TookText (notes-at a) (notes-at b)) (sym (notes_of-append first texts))
        (took-more (notes-at a) (notes-at m) (notes-at b) (notes_of first) (notes_of texts) took.notes went.notes);
  }
  went-after true a m b first texts took went = record {
    middle = first ++ went.middle;
    next = went.next;
    rest = went.rest;
    split = ap (λ l. first ++ l) went.split ∙ sym (append_assoc first went.middle (went.next ∷ went.rest));
    fails = fails-after a m b first went.middle went.next took went.fails;
  }

  same-text : (before now : SinkState) → now ≡ before → TookText before now []
  same-text before now same = subst (λ (k : SinkState). TookText before k []) (sym same) (took-none before)

  -- one text, whole
  took-one : (text : Text) (a m : Writer O N) → WritesText false text (OutCall a m) (NotesCall a m)
      → TookBoth a m (text ∷ [])
  took-one (Out text) a m p = record {
    out = subst (TookText (out-at a) (out-at m)) (sym (append-nil text)) p.0;
    notes = same-text (notes-at a) (notes-at m) p.1;
  }
  took-one (Note text) a m p = record {
    out = same-text (out-at a) (out-at m) p.1;
    notes = subst (TookText (notes-at a) (notes-at m)) (sym (append-nil text)) p.0;
  }

  -- or its sink failed in it
  broke-one : (text : Text) (a m : Writer O N) → WritesText true text (OutCall a m) (NotesCall a m)
      → FailsIn [] text (OutCall a m) (NotesCall a m)
  broke-one (Out text) a m p = (p.0, same-text (notes-at a) (notes-at m) p.1)
  broke-one (Note text) a m p = (same-text (out-at a) (out-at m) p.1, p.0)

  went : (failed : Bool) (texts : List Text) (a b : Writer O N) → a.has_failed ≡ false
      → HandedOver (Writes o n) a texts b → b.has_failed ≡ failed → Went failed texts a b
  went true [] a b going over is = absurd cc
  went false [] a b going over is = subst (λ (k : Writer O N). TookBoth a k []) over
      (record { out = took-none (out-at a); notes = took-none (notes-at a) })
  went failed (text ∷ texts) a b going over is =
      which over.0.has_failed refl (over.1.going going) (λ fine. went failed texts over.0 b fine over.2 is)
    where
      which : (f : Bool) → over.0.has_failed ≡ f → WritesText f text (OutCall a over.0) (NotesCall a over.0)
          → (over.0.has_failed ≡ false → Went failed texts over.0 b) → Went failed (text ∷ texts) a b
      which false fine step later =
          went-after failed a over.0 b (text ∷ []) texts (took-one text a over.0 step) (later fine)
      which true broken step later =
          let same = stays texts over.0 b broken over.2 in
          subst (λ (f : Bool). Went f (text ∷ texts) a b) (sym broken ∙ ap (λ w. w.has_failed) (sym same) ∙ is)
          (subst (λ (k : Writer O N). Went true (text ∷ texts) a k) (sym same) (record {
            middle = [];
            next = text;
            rest = texts;
            split = refl;
            fails = broke-one text a over.0 step;
          }))

  -- where a sink failed in the last texts, those before them were written
  pub fails-last : (fed last : List Text) (a m b : Writer O N) → a.has_failed ≡ false → HandedOver (Writes o n) a fed m
      → m.has_failed ≡ false → HandedOver (Writes o n) m last b → b.has_failed ≡ true
      → FailsAmong fed last (OutCall a b) (NotesCall a b)
  fails-last fed last a m b going over fine more broken =
      let f = went true last m b fine more broken in record {
        middle = f.middle;
        next = f.next;
        rest = f.rest;
        split = f.split;
        fails = fails-after a m b fed f.middle f.next (went false fed a m going over fine) f.fails;
      }

-- what the sinks took then, and went through
part-of-fails : (first : List Text) (next : Text) (out notes : SinkCall) → FailsIn first next out notes
    → TookPart first next (taken_by out.before.taken out.now.taken notes.before.taken notes.now.taken)
    × SinksCourse true out notes
part-of-fails first (Out text) out notes fails = (
  (fails.0.written, fails.1.written),
  inl ((fails.0.rose, fails.0.later), fails.1.same),
)
part-of-fails first (Note text) out notes fails = (
  (fails.0.written, fails.1.written),
  inr ((fails.1.rose, fails.1.later), fails.0.same),
)

pub wrote-texts : {O N : Type 0} (o : Ghosts O) (n : Ghosts N) (failed : Bool) (texts : List Text) (a b : Writer O N)
    → a.has_failed ≡ false → HandedOver (Writes o n) a texts b → b.has_failed ≡ failed
    → WroteTexts failed texts (taken_by (o.taken a.out.now) (o.taken b.out.now) (n.taken a.notes.now)
    (n.taken b.notes.now)) × SinksCourse failed (sink_call o a.out.now b.out.now) (sink_call n a.notes.now b.notes.now)
wrote-texts o n false texts a b going over is =
    let w = went o n false texts a b going over is in
    (record { out = w.out.written; notes = w.notes.written }, (w.out.same, w.notes.same))
wrote-texts o n true texts a b going over is =
    let w = went o n true texts a b going over is in
    let p = part-of-fails w.middle w.next _ _ w.fails in
    (record { first = w.middle; next = w.next; rest = w.rest; split = w.split; part = p.0 }, p.1)

-- ---- prefixes

-- of texts the sinks took the whole, and of more a prefix
pub both-prefix : (texts more : List Text) (taken : Taken) → WroteBoth (output_of texts) taken
    → WrotePrefixes (output_of (texts ++ more)) taken
both-prefix texts more taken wrote = record {
  out = subst (WrotePrefix taken.out taken.out_now) (sym (out_of-append texts more))
      (prefix-of taken.out taken.out_now (out_of texts) (out_of more)
      (wrote-prefix taken.out taken.out_now (out_of texts) wrote.out));
  notes = subst (WrotePrefix taken.notes taken.notes_now) (sym (notes_of-append texts more))
      (prefix-of taken.notes taken.notes_now (notes_of texts) (notes_of more)
      (wrote-prefix taken.notes taken.notes_now (notes_of texts) wrote.notes));
}

part-prefixes : (first rest : List Text) (next : Text) (taken : Taken) → TookPart first next taken
    → WrotePrefixes (output_of (first ++ next ∷ rest)) taken
part-prefixes first rest (Out text) taken part = record {
  out = subst (WrotePrefix taken.out taken.out_now) (sym (out_of-append first (Out text ∷ rest)))
      (part-prefix taken.out taken.out_now (out_of first) text (out_of rest) part.0);
  notes = subst (WrotePrefix taken.notes taken.notes_now) (sym (notes_of-append first (Out text ∷ rest)))
      (prefix-of taken.notes taken.notes_now (notes_of first) (notes_of rest)
      (wrote-prefix taken.notes taken.notes_now (notes_of first) part.1));
}
part-prefixes first rest (Note text) taken part = record {
  out = subst (WrotePrefix taken.out taken.out_now) (sym (out_of-append first (Note text ∷ rest)))
      (prefix-of taken.out taken.out_now (out_of first) (out_of rest)
      (wrote-prefix taken.out taken.out_now (out_of first) part.0));
  notes = subst (WrotePrefix taken.notes taken.notes_now) (sym (notes_of-append first (Note text ∷ rest)))
      (part-prefix taken.notes taken.notes_now (notes_of first) text (notes_of rest) part.1);
}

-- where one of them failed they took prefixes
pub stops-prefixes : (texts : List Text) (taken : Taken) → StopsIn texts taken → WrotePrefixes (output_of texts) taken
stops-prefixes texts taken stops =
    subst (λ (l : List Text). WrotePrefixes (output_of l) taken) (sym stops.split)
    (part-prefixes stops.first stops.rest stops.next taken stops.part)

-- and it stopped in one of more texts
pub stops-longer : (texts more : List Text) (taken : Taken) → StopsIn texts taken → StopsIn (texts ++ more) taken
stops-longer texts more taken stops = record {
  first = stops.first;
  next = stops.next;
  rest = stops.rest ++ more;
  split = ap (λ l. l ++ more) stops.split ∙ append_assoc stops.first (stops.next ∷ stops.rest) more;
  part = stops.part;
}

-- ---- where a sink fails

-- an element of two lists is of the first or of the second
split-at : {A : Type 0} (xs ys first rest : List A) (next : A) → xs ++ ys ≡ first ++ next ∷ rest
    → ((more : List A) × (xs ≡ first ++ next ∷ more))
    ⊎ ((middle : List A) × (first ≡ xs ++ middle) × (ys ≡ middle ++ next ∷ rest))
split-at [] ys first rest next same = inr (first, refl, same)
split-at (x ∷ xs) ys [] rest next same = inl (xs, cc)
split-at (x ∷ xs) ys (z ∷ first) rest next same =
    elim (split-at xs ys first rest next (cc)) [ inl p ↦ inl (p.0, cc) | inr p ↦ inr (p.0, cc, p.2) ]

-- it fails in first texts, or in those after them, once the first were written
pub stops-split : (xs ys : List Text) (taken : Taken) → StopsIn (xs ++ ys) taken → StopsIn xs taken
    ⊎ ((middle : List Text) × (next : Text) × (rest : List Text) × (ys ≡ middle ++ next ∷ rest)
    × TookPart (xs ++ middle) next taken)
stops-split xs ys taken stops =
    elim (split-at xs ys stops.first stops.rest stops.next stops.split) [
      | inl p ↦ inl (record {
        first = stops.first;
        next = stops.next;
        rest = p.0;
        split = p.1;
        part = stops.part;
      })
      | inr p ↦ inr (
        p.0,
        stops.next,
        stops.rest,
        p.2,
        subst (λ (l : List Text). TookPart l stops.next taken) p.1 stops.part,
      )
    ]

last-alone : {A : Type 0} (x next : A) (middle rest : List A) → x ∷ [] ≡ middle ++ next ∷ rest
    → (middle ≡ []) × (next ≡ x)
last-alone x next [] rest same = (refl, cc)
last-alone x next (y ∷ []) rest same = absurd cc
last-alone x next (y ∷ z ∷ middle) rest same = absurd cc

-- it fails in first texts or in the last one
pub stops-last : (texts : List Text) (last : Text) (taken : Taken) → StopsIn (texts ++ last ∷ []) taken
    → StopsIn texts taken ⊎ TookPart texts last taken
stops-last texts last taken stops =
    elim (stops-split texts (last ∷ []) taken stops) [
      | inl s ↦ inl s
      | inr p ↦
          let alone = last-alone last p.1 p.0 p.2 p.3 in
          let first : texts ++ p.0 ≡ texts = ap (λ (l : List Text). texts ++ l) alone.0 ∙ append-nil texts in
          inr (subst (λ (l : List Text). TookPart l last taken) first
          (subst (λ (t : Text). TookPart (texts ++ p.0) t taken) alone.1 p.4))
    ]

-- ---- a command without notes

nothing-both : {A : Type 0} (xs ys : List A) → xs ++ ys ≡ [] → (xs ≡ []) × (ys ≡ [])
nothing-both [] ys none = (refl, none)
nothing-both (x ∷ xs) ys none = absurd cc

none-first : (texts : List Text) (taken : Taken) (stops : StopsIn texts taken) → notes_of texts ≡ []
    → (notes_of stops.first ≡ []) × (notes_of (stops.next ∷ stops.rest) ≡ [])
none-first texts taken stops none =
    nothing-both (notes_of stops.first) (notes_of (stops.next ∷ stops.rest))
    (sym (notes_of-append stops.first (stops.next ∷ stops.rest)) ∙ sym (ap notes_of stops.split) ∙ none)

none-taken : (first rest : List Text) (next : Text) (taken : Taken) → notes_of first ≡ []
    → notes_of (next ∷ rest) ≡ [] → TookPart first next taken → Wrote taken.notes taken.notes_now []
none-taken first rest (Out text) taken none none_after part =
    wrote-as taken.notes taken.notes_now (notes_of first) [] none part.1
none-taken first rest (Note text) taken none none_after part =
    let nothing = (nothing-both text (notes_of rest) none_after).0 in
    wrote-as taken.notes taken.notes_now (notes_of first ++ take part.1.0 text) []
    (ap (λ l. l ++ take part.1.0 text) none ∙ ap (take part.1.0) nothing ∙ take_all part.1.0 [] (omega arith)) part.1.1

-- where a sink failed its notes took nothing
pub stops-alone : (texts : List Text) (taken : Taken) → notes_of texts ≡ [] → StopsIn texts taken
    → Wrote taken.notes taken.notes_now []
stops-alone texts taken none stops =
    let both = none-first texts taken stops none in
    none-taken stops.first stops.rest stops.next taken both.0 both.1 stops.part

part-alone : (first : List Text) (next : Text) (taken : Taken) (noted : Option (List ℕ)) → notes_of first ≡ []
    → TookPart first next taken → TookPart first next (taken_by taken.out taken.out_now noted noted)
part-alone first (Out text) taken noted none part =
    (part.0, wrote-as noted noted [] (notes_of first) (sym none) (wrote-nothing noted))
part-alone first (Note text) taken noted none part = (
  part.0,
  (0, wrote-as noted noted [] (notes_of first ++ []) (sym (append-nil (notes_of first) ∙ none)) (wrote-nothing noted)),
)

-- whatever a sink for notes took, it stays as it was
pub wrote-alone : (failed : Bool) (texts : List Text) (taken : Taken) (noted : Option (List ℕ)) → notes_of texts ≡ []
    → WroteTexts failed texts taken → WroteTexts failed texts (taken_by taken.out taken.out_now noted noted)
wrote-alone false texts taken noted none wrote =
    record { out = wrote.out; notes = wrote-as noted noted [] (notes_of texts) (sym none) (wrote-nothing noted) }
wrote-alone true texts taken noted none stops = record {
  first = stops.first;
  next = stops.next;
  rest = stops.rest;
  split = stops.split;
  part = part-alone stops.first stops.next taken noted (none-first texts taken stops none).0 stops.part;
}
