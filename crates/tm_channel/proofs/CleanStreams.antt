-- The items of frames that were sent with no gap and not disturbed.
use Rattle.std.proofs.Common.{◌≡◌, ◌<◌, ◌≤◌, ◌⊎◌, ◌+◌, ◌*◌, ℕ, zero, suc, Bool, true, false, cond, nat_le, List, [], ◌∷◌, ◌++◌, length, map, refl, sym, ap, ◌∙◌, subst, arith, append_assoc, inl, inr, mul-le-mul_right, Option, Some, None}
use Rattle.std.specs.Prelude.{replicate}
use Rattle.std.specs.List.{AllByRecursion, range_with_len}
use Rattle.std.proofs.lemmas.Bool.{cases_lt}
use Rattle.std.proofs.lemmas.Bool.Decides.{nat_tests}
use Rattle.std.proofs.lemmas.List.{length-map}
use Rattle.std.proofs.lemmas.List.FromFn.{length-map-range_with_len}
use Rattle.tm_base.specs.Bits.{bits_of}
use Rattle.tm_base.specs.Marker.{marker}
use Rattle.tm_base.proofs.Packing.{bits_of-append, length-bits_of}
use Rattle.tm_config.specs.Configuration.{Configuration, codeblock_length, is_uncoded}
use Rattle.tm_config.specs.Accepted.{IsAccepted}
use Rattle.tm_inner.specs.SymbolPlaces.{symbols_before}
use Rattle.tm_rs_code.proofs.Nearest.{distance-self}
use Rattle.tm_rs.specs.declared.answers.Answer.{Answer}
use Rattle.tm_rs.specs.declared.answers.Answer.TheVariants.{Fixed}
use Rattle.tm_sync.specs.declared.found.Found.{Found}
use Rattle.tm_sync.specs.Bits.{marker_bits}
use Rattle.tm_sync.specs.declared.found.Columns.{Columns}
use Rattle.tm_sync.specs.Places.{settled_by}
use Rattle.tm_sync.specs.Rescan.{Soundness, places_with}
use Rattle.tm_sync.specs.Marked.{Entry, joined, IsMarked, clean_entries, clean_places, places_of}
use Rattle.tm_sync.proofs.CleanStreams.{clean-marked, length-sent, places-clean, places_of-clean}
use Rattle.tm_sync.proofs.MarkedInside.{places-clean_inside}
use Rattle.tm_sync.proofs.Prefixes.{places_after-unsettled}
use Rattle.tm_sync.proofs.Rescanned.{places_with-off}
use Rattle.tm_codeblock.specs.Cadu.{codeblock_of, sent_codeblock, cadu}
use Rattle.tm_codeblock.specs.ReceivedCodeblock.{rules_of, codeblock_at, columns_of, places_in, received_column, received_columns, sound_in}
use Rattle.tm_channel.specs.Items.{ItemValue, AreItems, AreItemsOf, HaveSymbols, are_fixed}
use Rattle.tm_channel.specs.SentStream.{IsFrame, SentUnit, entries_of, unit_places, sent_columns, AreRepaired, AreWithin, IsNear, IsAsSent, AreAsSent, sent_bits, clean_answers, clean_items, found_frames}
use Rattle.tm_channel.proofs.SentCodeblocks.{length-sent_codeblock, received-as_sent}
use Rattle.tm_channel.proofs.HasItems.{has-items-of}
use Rattle.tm_channel.proofs.Repaired.{item-sound}
use Rattle.tm_channel.proofs.Repairs.{items-at}

-- the bits of a frame's codeblock, as they are sent
abbrev sent_block : Configuration → List ℕ → List Bool
sent_block c frame = bits_of (sent_codeblock c frame)

abbrev blocks_of : Configuration → List (List ℕ) → List (List Bool)
blocks_of c frames = map (sent_block c) frames

-- a frame's unit, as it is received where nothing is disturbed
abbrev clean_unit : Configuration → List ℕ → SentUnit
clean_unit c frame =
    record { received = record { gap = []; marker = marker_bits; block = sent_block c frame }; frame = frame }

abbrev clean_units : Configuration → List (List ℕ) → List SentUnit
clean_units c frames = map (clean_unit c) frames

entries-are : (c : Configuration) (frames : List (List ℕ)) → clean_entries (blocks_of c frames)
    ≡ entries_of (clean_units c frames)
entries-are c [] = refl
entries-are c (frame ∷ frames) =
    ap (λ (l : List Entry). record { gap = []; marker = marker_bits; block = sent_block c frame } ∷ l)
    (entries-are c frames)

-- what is sent are marked codeblocks
bits-are : (c : Configuration) (frames : List (List ℕ)) → sent_bits c frames
    ≡ joined (clean_entries (blocks_of c frames)) []
unfolding cadu
bits-are c [] = refl
bits-are c (frame ∷ frames) =
    ap (λ l. l ++ sent_bits c frames) (bits_of-append marker (sent_codeblock c frame))
    ∙ append_assoc marker_bits (sent_block c frame) (sent_bits c frames)
    ∙ ap (λ l. marker_bits ++ (sent_block c frame ++ l)) (bits-are c frames)

blocks-sized : (c : Configuration) (frames : List (List ℕ)) → IsAccepted c → AllByRecursion (IsFrame c) frames
    → AllByRecursion (λ block. length block ≡ (rules_of c).block_bits) (blocks_of c frames)
blocks-sized c [] ok are = tt
blocks-sized c (frame ∷ frames) ok are = (
  length-bits_of (sent_codeblock c frame) ∙ ap (λ n. 8 * n) (length-sent_codeblock c frame ok are.0),
  blocks-sized c frames ok are.1,
)

units-are_frames : (c : Configuration) (frames : List (List ℕ)) → AllByRecursion (IsFrame c) frames
    → AllByRecursion (λ (u : SentUnit). IsFrame c u.frame) (clean_units c frames)
units-are_frames c [] are = tt
units-are_frames c (frame ∷ frames) are = (are.0, units-are_frames c frames are.1)

-- there are frames enough to verify the first
enough : (c : Configuration) (frames : List (List ℕ)) → c.verify < length frames → (blocks_of c frames ≡ [])
    ⊎ ((rules_of c).verify < length (blocks_of c frames))
enough c frames many = inr (omega (arith, many, length-map frames (sent_block c)))

marked : (c : Configuration) (frames : List (List ℕ)) → IsAccepted c → AllByRecursion (IsFrame c) frames
    → c.verify < length frames
    → IsMarked (rules_of c) (sent_bits c frames) (entries_of (clean_units c frames)) []
marked c frames ok are many =
    subst (λ (es : List Entry). IsMarked (rules_of c) (sent_bits c frames) es []) (entries-are c frames)
    (subst (λ (bits : List Bool). IsMarked (rules_of c) bits (clean_entries (blocks_of c frames)) [])
    (sym (bits-are c frames))
    (clean-marked (rules_of c) (blocks_of c frames) (blocks-sized c frames ok are) (enough c frames many)))

-- their places
places-are : (c : Configuration) (frames : List (List ℕ))
    → unit_places c (clean_units c frames) ≡ clean_places (8 * codeblock_length c) 0 (blocks_of c frames)
places-are c frames =
    ap (places_of (rules_of c) 0 None) (sym (entries-are c frames))
    ∙ places_of-clean (rules_of c) 0 None (blocks_of c frames)

-- of fewer none is found
places-none : (c : Configuration) (frames : List (List ℕ)) → IsAccepted c → AllByRecursion (IsFrame c) frames
    → length frames ≤ c.verify → places_in c (sent_bits c frames) ≡ []
places-none c frames ok are few =
    places_after-unsettled (rules_of c) (columns_of c) (sound_in c (sent_bits c frames)) 0 None (sent_bits c frames) tt
    (settled c.verify (omega (arith, few, length-map frames (sent_block c))))
  where
    size : ℕ
    size = (rules_of c).block_bits

    count : length (sent_bits c frames) ≡ length (blocks_of c frames) * (32 + size)
    count = ap length (bits-are c frames)
        ∙ length-sent (rules_of c) (blocks_of c frames) (blocks-sized c frames ok are)

    settled : (verify : ℕ) → length (blocks_of c frames) ≤ verify
        → length (sent_bits c frames) < settled_by verify size
    settled zero fewer = omega (arith, count, mul-le-mul_right (32 + size) fewer)
    settled (suc verify) fewer = omega (arith, count, mul-le-mul_right (32 + size) fewer)

-- ---- one item

answers-are : (bound : ℕ) (columns : List (List ℕ)) (answers : List Answer)
    → AreRepaired bound columns columns answers → answers ≡ replicate (length columns) (Fixed 0)
answers-are bound [] [] are = refl
answers-are bound [] (answer ∷ answers) are = absurd are
answers-are bound (column ∷ columns) [] are = absurd are
answers-are bound (column ∷ columns) (answer ∷ answers) are =
    let none = distance-self column in
    let one : answer ≡ Fixed 0 = are.0 (omega arith) ∙ ap Fixed none in
    (λ i. one i ∷ answers-are bound columns answers are.1 i)

columns-near : (bound : ℕ) (columns : List (List ℕ)) → AreWithin bound columns columns
columns-near bound [] = tt
columns-near bound (column ∷ columns) = (let none = distance-self column in omega arith, columns-near bound columns)

clean-answers : (c : Configuration) (frame : List ℕ) → replicate (length (sent_columns c frame)) (Fixed 0)
    ≡ clean_answers c
unfolding received_columns
clean-answers c frame = go (is_uncoded c.code)
  where
    go : (none : Bool) → replicate (length (cond none [] (map (received_column c (codeblock_of c frame))
        (range_with_len 0 c.depth)))) (Fixed 0) ≡ cond none [] (replicate c.depth (Fixed 0))
    go true = refl
    go false =
        ap (λ n. replicate n (Fixed 0))
        (length-map-range_with_len (received_column c (codeblock_of c frame)) 0 c.depth)

clean-one : (c : Configuration) (at : ℕ) (frame : List ℕ) (item : ItemValue) → IsAccepted c → IsFrame c frame
    → IsAsSent c (record { place = at; distance = 0; bridged = false; inverted = false }) (clean_unit c frame) item
    → item.symbol ≡ symbols_before c.inner item.found.place
    → item ≡ record {
      found = record { place = at; distance = 0; bridged = false; inverted = false };
      symbol = symbols_before c.inner at;
      answers = clean_answers c;
      frame = frame;
    }
clean-one c at frame item ok is it symbol =
    let same = received-as_sent c frame ok is in
    let answers : item.answers ≡ clean_answers c =
    answers-are c.repair (sent_columns c frame) item.answers
    (subst (λ (b : List ℕ). AreRepaired c.repair (received_columns c b) (sent_columns c frame) item.answers) same
    it.answers)
    ∙ clean-answers c frame in
    let near : IsNear c frame (codeblock_of c frame) = record {
      columns = columns-near c.repair
          (sent_columns c frame);
      uncoded = λ none. refl;
    } in
    let back : item.frame ≡ frame = it.frame (subst (λ (b : List ℕ). IsNear c frame b) (sym same) near) in
    let place : item.symbol ≡ symbols_before c.inner at =
    symbol ∙ ap (λ (v : Found). symbols_before c.inner v.place) it.place in
    (λ i. record { found = it.place i; symbol = place i; answers = answers i; frame = back i })

clean-from : (c : Configuration) (at : ℕ) (frames : List (List ℕ)) (items : List ItemValue) → IsAccepted c
    → AllByRecursion (IsFrame c) frames
    → AreAsSent c (clean_places (8 * codeblock_length c) at (blocks_of c frames)) (clean_units c frames) items
    → HaveSymbols (symbols_before c.inner) items → items ≡ clean_items c at frames
clean-from c at [] [] ok are sent have = refl
clean-from c at [] (item ∷ items) ok are sent have = absurd sent
clean-from c at (frame ∷ frames) [] ok are sent have = absurd sent
clean-from c at (frame ∷ frames) (item ∷ items) ok are sent have =
    (λ i. clean-one c at frame item ok are.0 sent.0 have.0 i ∷ clean-from c
    (at + 32 + 8 * codeblock_length c) frames items ok are.1 sent.1 have.1 i)

-- the items of the units
items-of : (c : Configuration) (frames : List (List ℕ)) (items : List ItemValue) → IsAccepted c
    → AllByRecursion (IsFrame c) frames → c.verify < length frames
    → AreItemsOf c (sent_bits c frames) (clean_places (8 * codeblock_length c) 0 (blocks_of c frames)) items
    → HaveSymbols (symbols_before c.inner) items → items ≡ clean_items c 0 frames
items-of c frames items ok are many its have =
    clean-from c 0 frames items ok are
    (subst (λ (fs : List Found). AreAsSent c fs (clean_units c frames) items) (places-are c frames)
    (items-at c (sent_bits c frames) (clean_units c frames) [] items ok (marked c frames ok are many)
    (units-are_frames c frames are)
    (subst (λ (fs : List Found). AreItemsOf c (sent_bits c frames) fs items) (sym (places-are c frames)) its))) have

-- ---- they are found

-- a codeblock all of whose columns are repaired is sound
clean-fixed : (c : Configuration) → are_fixed (clean_answers c) ≡ true
clean-fixed c = go (is_uncoded c.code)
  where
    all : (n : ℕ) → are_fixed (replicate n (Fixed 0)) ≡ true
    all zero = refl
    all (suc n) = all n

    go : (none : Bool) → are_fixed (cond none [] (replicate c.depth (Fixed 0))) ≡ true
    go true = refl
    go false = all c.depth

are-sound : (c : Configuration) (bits : List Bool) (at : ℕ) (fs : List Found) (frames : List (List ℕ))
    → AreItemsOf c bits fs (clean_items c at frames)
    → AllByRecursion (λ f. sound_in c bits f.place f.inverted ≡ true) fs
are-sound c bits at [] [] its = tt
are-sound c bits at [] (frame ∷ frames) its = absurd its
are-sound c bits at (f ∷ fs) [] its = absurd its
are-sound c bits at (f ∷ fs) (frame ∷ frames) its = (
  item-sound c f (codeblock_at c bits f) _ its.0 ∙ clean-fixed c,
  are-sound c bits (at + 32 + 8 * codeblock_length c) fs frames its.1,
)

places-sent : (c : Configuration) (frames : List (List ℕ)) → IsAccepted c → AllByRecursion (IsFrame c) frames
    → c.verify < length frames
    → places_in c (sent_bits c frames) ≡ clean_places (8 * codeblock_length c) 0 (blocks_of c frames)
places-sent c frames ok are many =
    ap (places_with (rules_of c) (columns_of c) sound) (bits-are c frames) ∙ go (columns_of c)
  where
    fs : List Found
    fs = clean_places (8 * codeblock_length c) 0 (blocks_of c frames)

    sound : Soundness
    sound = sound_in c (sent_bits c frames)

    says : AllByRecursion (λ f. sound f.place f.inverted ≡ true) fs
    says =
        let its = has-items-of c (symbols_before c.inner) (sent_bits c frames) fs in
        are-sound c (sent_bits c frames) 0 fs frames
        (subst (AreItemsOf c (sent_bits c frames) fs) (items-of c frames its.0 ok are many its.1 its.2) its.1)

    go : (columns : Option Columns)
        → places_with (rules_of c) columns sound (joined (clean_entries (blocks_of c frames)) []) ≡ fs
    go None =
        places_with-off (rules_of c) sound (joined (clean_entries (blocks_of c frames)) [])
        ∙ places-clean (rules_of c) (blocks_of c frames) (blocks-sized c frames ok are) (enough c frames many)
    go (Some columns) =
        places-clean_inside (rules_of c) columns sound (blocks_of c frames) (blocks-sized c frames ok are)
        (enough c frames many) says

-- no places have no items
no-items : (c : Configuration) (bits : List Bool) (items : List ItemValue) → AreItemsOf c bits [] items → items ≡ []
no-items c bits [] are = refl
no-items c bits (item ∷ items) are = absurd are

-- the items of frames that were sent are those of the frames that are found
pub items-clean : (c : Configuration) (frames : List (List ℕ)) (items : List ItemValue) → IsAccepted c
    → AllByRecursion (IsFrame c) frames
    → HaveSymbols (symbols_before c.inner) items
    → AreItems c (sent_bits c frames) items → items ≡ clean_items c 0 (found_frames c frames)
items-clean c frames items ok are have its =
    elim (cases_lt c.verify (length frames)) as (λ _. items ≡ clean_items c 0 (found_frames c frames)) [
      | inl many ↦ (
          let more : nat_le (length frames) c.verify ≡ false = grind (arith, nat_tests) in
          let all : found_frames c frames ≡ frames = ap (λ t. cond t [] frames) more in
          items-of c frames items ok are many
          (subst (λ (fs : List Found). AreItemsOf c (sent_bits c frames) fs items) (places-sent c frames ok are many)
          its) have
          ∙ ap (clean_items c 0) (sym all)
          )
      | inr few ↦ (
          let fewer : nat_le (length frames) c.verify ≡ true = grind (arith, nat_tests) in
          let none : found_frames c frames ≡ [] = ap (λ t. cond t [] frames) fewer in
          no-items c (sent_bits c frames) items
          (subst (λ (fs : List Found). AreItemsOf c (sent_bits c frames) fs items)
          (places-none c frames ok are few) its)
          ∙ ap (clean_items c 0) (sym none)
          )
    ]
