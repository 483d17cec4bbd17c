-- What is given and counted of the phase and of items that were handed over one after another.
use Rattle.std.proofs.Common.{◌≡◌, inl, inr, ℕ, ◌+◌, ◌*◌, ◌<◌, ◌≤◌, ◌^◌, Bool, true, false, cond, List, [], ◌∷◌, ◌++◌, length, refl, sym, ◌∙◌, ap, subst, arith, append_assoc, length-append}
use Rattle.std.proofs.lemmas.List.{append-nil}
use Rattle.tm_base.specs.Count.{raised_by}
use Rattle.tm_base.specs.Limits.{most_limit}
use Rattle.tm_base.specs.Takers.{HandedOver}
use Rattle.tm_base.specs.Handed.{Handed, Phase, Item, on_handed, items_of}
use Rattle.tm_base.proofs.HandedItems.{items_of-append}
use Rattle.tm_channel.specs.declared.totals.Totals.{Totals}
use Rattle.tm_channel.specs.Items.{ItemValue, are_fixed}
use Rattle.tm_driver.specs.Lines.{phase_text}
use Rattle.tm_driver.specs.Meaning.{Taken}
use Rattle.tm_driver.specs.Writing.{Text, Out, Note, StopsIn, TookPart, notes_of, out_of}
use Rattle.tm_driver.proofs.Writing.{notes_of-append, out_of-append}
use Rattle.tm_cli.specs.Decode.{AreInOrder, next_frame, next_line}
use Rattle.tm_cli.specs.Lines.{item_text}
use Rattle.tm_cli.specs.Report.{fixed_of, good, bad, fixed, items_text, items_end_text, report_text}
use Rattle.tm_cli.specs.Taken.{AreCounted, Counted, CountedHanded, Reported, all_texts, counts_after, handed_frames, no_counts, number_of, reported_phase, texts_by, texts_from}
use Rattle.tm_cli.specs.declared.counts.Counts.{Counts}

-- ---- texts

-- those for the output are the frames, those for the notes the lines
texts-are : (number : ℕ) (handed : List (Handed ItemValue)) → (out_of (texts_from number handed) ≡ handed_frames handed)
    × (notes_of (texts_from number handed) ≡ items_text number handed)
texts-are number [] = (refl, refl)
texts-are number (Phase skip cost ∷ handed) =
    let more = texts-are number handed in (more.0, ap (λ l. phase_text skip cost ++ l) more.1)
texts-are number (Item item ∷ handed) =
    let more = texts-are (number + 1) handed in
    (ap (λ l. item.frame ++ l) more.0, ap (λ l. item_text number item ++ l) more.1)

texts-from : (number : ℕ) (xs ys : List (Handed ItemValue))
    → texts_from number (xs ++ ys) ≡ texts_from number xs ++ texts_from (number + length (items_of xs)) ys
texts-from number [] ys = ap (λ n. texts_from n ys) (omega arith)
texts-from number (Phase skip cost ∷ xs) ys = ap (λ l. Note (phase_text skip cost) ∷ l) (texts-from number xs ys)
texts-from number (Item item ∷ xs) ys =
    ap (λ l. Out item.frame ∷ Note (item_text number item) ∷ l) (texts-from (number + 1) xs ys)
    ∙ ap (λ n. texts_from number (Item item ∷ xs) ++ texts_from n ys) (omega arith)

pub texts-append : (xs ys : List (Handed ItemValue))
    → texts_from 0 (xs ++ ys) ≡ texts_from 0 xs ++ texts_from (length (items_of xs)) ys
texts-append xs ys = texts-from 0 xs ys ∙ ap (λ n. texts_from 0 xs ++ texts_from n ys) (omega arith)

pub due-are : (handed : List (Handed ItemValue)) (texts : List Text) → texts ≡ texts_from 0 handed
    → (out_of texts ≡ handed_frames handed) × (notes_of texts ≡ items_text 0 handed)
due-are handed texts are = let of = texts-are 0 handed in (ap out_of are ∙ of.0, ap notes_of are ∙ of.1)

pub all-are : (handed : List (Handed ItemValue)) (totals : Totals) (texts : List Text)
    → texts ≡ all_texts handed totals → (out_of texts ≡ handed_frames handed)
    × (notes_of texts ≡ report_text handed totals)
all-are handed totals texts are =
    let first = texts_from 0 handed in
    let end = Note (items_end_text (items_of handed) totals) ∷ [] in
    let of = texts-are 0 handed in (
      ap out_of are ∙ out_of-append first end ∙ append-nil (out_of first) ∙ of.0,
      ap notes_of are ∙ notes_of-append first end
          ∙ (λ i. of.1 i ++ append-nil (items_end_text (items_of handed) totals) i),
    )

-- ---- counts

pub raised : (n more : ℕ) → n + more < 2 ^ 64 → raised_by more n ≡ n + more
raised n more small = omega arith

one-of : (b : Bool) → cond b 1 0 + cond b 0 1 ≡ 1
one-of true = refl
one-of false = refl

good-and-bad : (items : List ItemValue) → good items + bad items ≡ length items
good-and-bad [] = refl
good-and-bad (item ∷ items) = let more = good-and-bad items in let one = one-of (are_fixed item.answers) in omega arith

good-push : (items : List ItemValue) (item : ItemValue)
    → good (items ++ item ∷ []) ≡ good items + cond (are_fixed item.answers) 1 0
good-push [] item = omega arith
good-push (x ∷ items) item = let more = good-push items item in omega arith

bad-push : (items : List ItemValue) (item : ItemValue)
    → bad (items ++ item ∷ []) ≡ bad items + cond (are_fixed item.answers) 0 1
bad-push [] item = omega arith
bad-push (x ∷ items) item = let more = bad-push items item in omega arith

fixed-push : (items : List ItemValue) (item : ItemValue)
    → fixed (items ++ item ∷ []) ≡ fixed items + fixed_of item.answers
fixed-push [] item = omega arith
fixed-push (x ∷ items) item = let more = fixed-push items item in omega arith

-- the number of the item after those that were counted
numbered : (items : List ItemValue) (counts : Counts) → length items < 2 ^ 53 → AreCounted items counts
    → number_of counts ≡ length items
numbered items counts small are =
    let both = good-and-bad items in
    let good_is = are.good in
    let bad_is = are.bad in
    raised counts.good counts.bad (omega arith) ∙ omega arith

counted-push : (items : List ItemValue) (item : ItemValue) (was counts : Counts) → length items < 2 ^ 53
    → AreCounted items was → Counted was item counts → AreCounted (items ++ item ∷ []) counts
counted-push items item was counts small are one =
    let both = good-and-bad items in
    let good_is = are.good in
    let bad_is = are.bad in
    let fixed_few = are.few in
    let few = one.few in
    let g : ℕ = cond (are_fixed item.answers) 1 0 in
    let h : ℕ = cond (are_fixed item.answers) 0 1 in
    let single : g + h ≡ 1 = one-of (are_fixed item.answers) in
    let fixed_now : counts.fixed ≡ was.fixed + fixed_of item.answers =
    ap (λ (k : Counts). k.fixed) one.counted ∙ raised was.fixed (fixed_of item.answers) (omega arith) in
    record {
      good = ap (λ (k : Counts). k.good) one.counted ∙ raised was.good g (omega arith) ∙ ap (λ n. n + g) are.good
          ∙ sym (good-push items item);
      bad = ap (λ (k : Counts). k.bad) one.counted ∙ raised was.bad h (omega arith) ∙ ap (λ n. n + h) are.bad
          ∙ sym (bad-push items item);
      fixed = fixed_now ∙ ap (λ n. n + fixed_of item.answers) are.fixed ∙ sym (fixed-push items item);
      few = omega (arith, fixed_now, fixed_few, few, length-append items (item ∷ []));
    }

-- texts by counts are those by numbers, where the items are few, and so are the counts of these
counted-texts : (handed : List (Handed ItemValue)) (was counts : Counts) (done : List ItemValue)
    → length done + length (items_of handed) < 2 ^ 53 → AreCounted done was → HandedOver CountedHanded was handed counts
    → (texts_by was handed ≡ texts_from (length done) handed) × AreCounted (done ++ items_of handed) counts
counted-texts [] was counts done small are over =
    (refl, subst (λ (l : List ItemValue). AreCounted l counts) (sym (append-nil done)) (subst (AreCounted done) over are))
counted-texts (Phase skip cost ∷ handed) was counts done small are over =
    let more = counted-texts handed was counts done small are
    (subst (λ (k : Counts). HandedOver CountedHanded k handed counts) over.1 over.2) in
    (ap (λ l. Note (phase_text skip cost) ∷ l) more.0, more.1)
counted-texts (Item item ∷ handed) was counts done small are over =
    let size : length (done ++ item ∷ []) ≡ length done + 1 = length-append done (item ∷ []) in
    let more = counted-texts handed over.0 counts (done ++ item ∷ []) (omega (arith, size, small))
    (counted-push done item was over.0 (omega (arith, small)) are over.1) over.2 in
    let later : texts_by (counts_after was item.answers) handed ≡ texts_from (length done + 1) handed =
    ap (λ (k : Counts). texts_by k handed) (sym over.1.counted) ∙ more.0 ∙ ap (λ n. texts_from n handed) size in (
      (λ i. Out item.frame ∷ Note (item_text (numbered done was (omega (arith, small)) are i) item) ∷ later i),
      subst (λ (l : List ItemValue). AreCounted l counts) (append_assoc done (item ∷ []) (items_of handed)) more.1,
    )

-- of all items
pub counted-all : (handed : List (Handed ItemValue)) (counts : Counts) (octets : List ℕ)
    → length (items_of handed) ≤ 8 * length octets → length octets ≤ most_limit
    → HandedOver CountedHanded no_counts handed counts
    → (texts_by no_counts handed ≡ texts_from 0 handed) × AreCounted (items_of handed) counts
counted-all handed counts octets few within over =
    counted-texts handed no_counts counts [] (omega (arith, few, within))
    (record { good = refl; bad = refl; fixed = refl; few = omega arith }) over

-- texts of what was handed over, and of more
pub texts_by-append : (xs ys : List (Handed ItemValue)) (was counts : Counts) → HandedOver CountedHanded was xs counts
    → texts_by was (xs ++ ys) ≡ texts_by was xs ++ texts_by counts ys
texts_by-append [] ys was counts over = ap (λ (k : Counts). texts_by k ys) over
texts_by-append (Phase skip cost ∷ xs) ys was counts over =
    ap (λ l. Note (phase_text skip cost) ∷ l) (texts_by-append xs ys was counts
    (subst (λ (k : Counts). HandedOver CountedHanded k xs counts) over.1 over.2))
texts_by-append (Item item ∷ xs) ys was counts over =
    ap (λ l. Out item.frame ∷ Note (item_text (number_of was) item) ∷ l)
    (texts_by-append xs ys (counts_after was item.answers) counts
    (subst (λ (k : Counts). HandedOver CountedHanded k xs counts) over.1.counted over.2))

-- ---- what was given of what was handed over

-- its texts were given, and its items counted
pub record Given {T : Type 0} (took : T → Text → T → Type 0) (was counts : Counts) (before now : T)
    (handed : List (Handed ItemValue)) : Type 0 where
  pub over : HandedOver took before (texts_by was handed) now
  pub counted : HandedOver CountedHanded was handed counts

-- by what gives texts, and keeps its loan
abbrev pub Reporting : {S T K : Type 0} → (S → K) → (S → Counts) → (S → T) → (T → Text → T → Type 0) → S
    → Handed ItemValue → S → Type 0
Reporting name counts taker took = on_handed
    (λ x skip cost y. (name y ≡ name x) × reported_phase took (counts x) (counts y) (taker x) (taker y) skip cost)
    (λ x item y. (name y ≡ name x) × Reported took (counts x) (counts y) (taker x) (taker y) item)

pub reported : {S T K : Type 0} (name : S → K) (counts : S → Counts) (taker : S → T) (took : T → Text → T → Type 0)
    (handed : List (Handed ItemValue)) (a b : S) → HandedOver (Reporting name counts taker took) a handed b
    → (name b ≡ name a) × Given took (counts a) (counts b) (taker a) (taker b) handed
reported name counts taker took [] a b over =
    (ap name (sym over), record { over = ap taker over; counted = ap counts over })
reported name counts taker took (Phase skip cost ∷ handed) a b over =
    let more = reported name counts taker took handed over.0 b over.2 in (
      more.0 ∙ over.1.0,
      record {
        over = (
          taker over.0,
          over.1.1.0,
          subst (λ (k : Counts). HandedOver took (taker over.0) (texts_by k handed) (taker b)) over.1.1.1 more.1.over,
        );
        counted = (counts over.0, over.1.1.1, more.1.counted);
      },
    )
reported name counts taker took (Item item ∷ handed) a b over =
    let more = reported name counts taker took handed over.0 b over.2 in
    let one = over.1.1.given in (
      more.0 ∙ over.1.0,
      record {
        over = (
          one.0,
          one.1,
          (
            taker over.0,
            subst (took one.0 (Note (item_text (number_of (counts a)) item))) one.2.2 one.2.1,
            subst (λ (k : Counts). HandedOver took (taker over.0) (texts_by k handed) (taker b)) over.1.1.counted.counted
                more.1.over,
          ),
        );
        counted = (counts over.0, over.1.1.counted, more.1.counted);
      },
    )

-- ---- where a sink fails in the texts of what was handed over and of the end

module _ (all : List (Handed ItemValue)) (totals : Totals) (taken : Taken) where
  abbrev Fails : List Text → Text → Type 0
  Fails first next = TookPart first next taken

  -- it fails in the next frame
  fails-frame : (prefix rest : List (Handed ItemValue)) (first : List Text) (next : Text) → all ≡ prefix ++ rest
      → out_of first ≡ handed_frames prefix → notes_of first ≡ items_text 0 prefix → next ≡ Out (next_frame rest)
      → Fails first next → AreInOrder all totals taken
  fails-frame prefix rest first next split outs lines is part =
      let p = subst (Fails first) is part in
      record { prefix = prefix; rest = rest; split = split; stops = inl ((p.0.0, cc), cc) }

  -- or, once the output has taken that, in its line
  fails-line : (prefix rest : List (Handed ItemValue)) (first : List Text) (next : Text) → all ≡ prefix ++ rest
      → out_of first ≡ handed_frames prefix ++ next_frame rest → notes_of first ≡ items_text 0 prefix
      → next ≡ Note (next_line prefix rest totals) → Fails first next → AreInOrder all totals taken
  fails-line prefix rest first next split outs lines is part =
      let p = subst (Fails first) is part in
      record { prefix = prefix; rest = rest; split = split; stops = inr (cc, (p.1.0, cc)) }

  -- the first of the texts are one more that was written
  one-more : (done : List (Handed ItemValue)) (h : Handed ItemValue) (texts first : List Text) (next : Text)
      → texts ≡ texts_from (length (items_of done)) (h ∷ []) → Fails (texts_from 0 done ++ (texts ++ first)) next
      → Fails (texts_from 0 (done ++ h ∷ []) ++ first) next
  one-more done h texts first next is part =
      subst (λ (l : List Text). Fails l next) (ap (λ l. texts_from 0 done ++ (l ++ first)) is
      ∙ sym (append_assoc (texts_from 0 done) (texts_from (length (items_of done)) (h ∷ [])) first)
      ∙ ap (λ l. l ++ first) (sym (texts-append done (h ∷ [])))) part

  -- after those that were written
  in-order-after : (done handed : List (Handed ItemValue)) (first rest : List Text) (next : Text)
      → all ≡ done ++ handed → texts_from (length (items_of done)) handed
      ++ Note (items_end_text (items_of all) totals) ∷ [] ≡ first ++ next ∷ rest
      → Fails (texts_from 0 done ++ first) next → AreInOrder all totals taken
  in-order-after done [] [] rest next split same part =
      let of = texts-are 0 done in
      let is : next ≡ Note (items_end_text (items_of all) totals) = cc in
      fails-line done [] (texts_from 0 done) next split (of.0 ∙ sym (append-nil (handed_frames done))) of.1
      (is ∙ ap (λ l. Note (items_end_text (items_of l) totals)) (split ∙ append-nil done))
      (subst (λ (l : List Text). Fails l next) (append-nil (texts_from 0 done)) part)
  in-order-after done [] (x ∷ []) rest next split same part = absurd cc
  in-order-after done [] (x ∷ y ∷ first) rest next split same part = absurd cc
  in-order-after done (Phase skip cost ∷ handed) [] rest next split same part =
      let of = texts-are 0 done in
      fails-line done (Phase skip cost ∷ handed) (texts_from 0 done) next split
      (of.0 ∙ sym (append-nil (handed_frames done))) of.1 (cc)
      (subst (λ (l : List Text). Fails l next) (append-nil (texts_from 0 done)) part)
  in-order-after done (Phase skip cost ∷ handed) (x ∷ first) rest next split same part =
      let h : Handed ItemValue = Phase skip cost in
      let is : x ∷ [] ≡ texts_from (length (items_of done)) (h ∷ []) = cc in
      let end = Note (items_end_text (items_of all) totals) ∷ [] in
      let more : texts_from (length (items_of done)) handed ++ end ≡ first ++ next ∷ rest = cc in
      in-order-after (done ++ h ∷ []) handed first rest next (split ∙ sym (append_assoc done (h ∷ []) handed))
      (ap (λ l. texts_from (length l) handed ++ end) (items_of-append done (h ∷ []) ∙ append-nil (items_of done))
      ∙ more)
      (one-more done h (x ∷ []) first next is part)
  in-order-after done (Item item ∷ handed) [] rest next split same part =
      let of = texts-are 0 done in
      let is : next ≡ Out item.frame = cc in
      fails-frame done (Item item ∷ handed) (texts_from 0 done) next split of.0 of.1
      (is ∙ ap Out (sym (append-nil item.frame)))
      (subst (λ (l : List Text). Fails l next) (append-nil (texts_from 0 done)) part)
  in-order-after done (Item item ∷ handed) (x ∷ []) rest next split same part =
      let of = texts-are 0 done in
      let is : x ≡ Out item.frame = cc in
      fails-line done (Item item ∷ handed) (texts_from 0 done ++ x ∷ []) next split
      (out_of-append (texts_from 0 done) (x ∷ []) ∙ (λ i. of.0 i ++ out_of (is i ∷ [])))
      (notes_of-append (texts_from 0 done) (x ∷ []) ∙ (λ i. of.1 i ++ notes_of (is i ∷ []))
      ∙ append-nil (items_text 0 done)) (cc) part
  in-order-after done (Item item ∷ handed) (x ∷ y ∷ first) rest next split same part =
      let h : Handed ItemValue = Item item in
      let is : x ∷ y ∷ [] ≡ texts_from (length (items_of done)) (h ∷ []) = cc in
      let end = Note (items_end_text (items_of all) totals) ∷ [] in
      let more : texts_from (length (items_of done) + 1) handed ++ end ≡ first ++ next ∷ rest = cc in
      let count : length (items_of (done ++ h ∷ [])) ≡ length (items_of done) + 1 =
      ap length (items_of-append done (h ∷ [])) ∙ length-append (items_of done) (item ∷ []) in
      in-order-after (done ++ h ∷ []) handed first rest next (split ∙ sym (append_assoc done (h ∷ []) handed))
      (ap (λ n. texts_from n handed ++ end) count ∙ more) (one-more done h (x ∷ y ∷ []) first next is part)

-- a sink fails in order
pub in-order : (handed : List (Handed ItemValue)) (totals : Totals) (texts : List Text) (taken : Taken)
    → texts ≡ all_texts handed totals → StopsIn texts taken → AreInOrder handed totals taken
in-order handed totals texts taken are stops =
    in-order-after handed totals taken [] handed stops.first stops.rest stops.next refl (sym are ∙ stops.split)
    stops.part
