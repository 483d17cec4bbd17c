-- The items of units that were sent, however they were disturbed.
use Rattle.std.proofs.Common.{◌≡◌, ◌≤◌, ◌+◌, ◌*◌, ◌||◌, ℕ, Bool, true, false, cond, List, [], ◌∷◌, ◌++◌, length, take, drop, refl, sym, ap, ◌∙◌, subst, arith, Option, Some, None, IfSome, append_assoc, length-append}
use Rattle.std.specs.List.{AllByRecursion}
use Rattle.std.proofs.lemmas.List.{take_at, drop_at}
use Rattle.tm_config.specs.Configuration.{Configuration, codeblock_length, correctable}
use Rattle.tm_config.specs.Accepted.{IsAccepted}
use Rattle.tm_rs_code.specs.Code.{distance}
use Rattle.tm_rs_code.specs.Nearest.{IsCodewordOf, IsNearest, Nearest}
use Rattle.tm_rs_code.specs.Nearest.Nearest.{Fixed as FixedWord, Beyond as BeyondWord}
use Rattle.tm_rs_code.proofs.OnlyNearest.{nearest_only}
use Rattle.tm_rs.specs.declared.answers.Answer.{Answer}
use Rattle.tm_rs.specs.declared.answers.Answer.TheVariants.{Fixed, Beyond}
use Rattle.tm_rs.specs.Answers.{found}
use Rattle.tm_sync.specs.declared.found.Found.{Found}
use Rattle.tm_sync.specs.declared.found.Before.{Before}
use Rattle.tm_sync.specs.Places.{before_next}
use Rattle.tm_sync.specs.Marked.{Entry, IsMarked, joined, place_of, places_of, AreEntries}
use Rattle.tm_sync.specs.declared.found.Columns.{Columns}
use Rattle.tm_sync.specs.PlacesInside.{HasNoneInside, MayStand}
use Rattle.tm_sync.specs.Rescan.{places_with}
use Rattle.tm_sync.proofs.MarkedInside.{places-alone}
use Rattle.tm_sync.proofs.MarkedStreams.{place_of-place, places-marked}
use Rattle.tm_sync.proofs.Rescanned.{places_with-off}
use Rattle.tm_codeblock.specs.ReceivedCodeblock.{rules_of, codeblock_in, codeblock_at, received_columns, frame_of, columns_of, places_in, sound_in}
use Rattle.tm_channel.specs.Items.{ItemValue, AreNearest, are_fixed, IsItem, AreItemsOf, AreItems, frames_of}
use Rattle.tm_channel.specs.SentStream.{IsFrame, SentUnit, entries_of, IsSent, unit_places, sent_columns, unit_codeblock, AreRepaired, AreWithin, IsAsSent, AreAsSent, AreNear, unit_frames}
use Rattle.tm_channel.proofs.SentCodeblocks.{AreCodewords, are_codewords, frame-restored, length-codeblock_in}

-- ---- columns

distance_in : Nearest → ℕ
distance_in (FixedWord c d) = d
distance_in BeyondWord = 0

word_in : Nearest → List ℕ
word_in (FixedWord c d) = c
word_in BeyondWord = []

is_found : Nearest → Bool
is_found (FixedWord c d) = true
is_found BeyondWord = false

-- an answer that says that this word is nearest
pub found-fixed : (answer : Answer) (word sent : List ℕ) (d : ℕ) → found answer word ≡ FixedWord sent d
    → (answer ≡ Fixed d) × (word ≡ sent)
unfolding distance_in word_in is_found
found-fixed (Fixed e) word sent d same = (ap (λ n. Fixed (distance_in n)) same, ap word_in same)
found-fixed Beyond word sent d same = absurd (let no : false ≡ true = ap is_found same in cc)

-- what is said of a column near to what was sent
word-is : (c : Configuration) (column sent word : List ℕ) (answer : Answer) → IsAccepted c → length column ≤ 255
    → IsCodewordOf (correctable c.code) (length column) sent
    → distance sent column ≤ c.repair → IsNearest (correctable c.code) c.repair column (found answer word)
    → (answer ≡ Fixed (distance sent column)) × (word ≡ sent)
word-is c column sent word answer ok short code within nearest =
    found-fixed answer word sent (distance sent column)
    (nearest_only (correctable c.code) c.repair column (found answer word)
    (FixedWord sent (distance sent column)) ok.repair short nearest (code, refl, within))

repaired : (c : Configuration) (columns others : List (List ℕ)) (answers : List Answer) (words : List (List ℕ))
    → IsAccepted c
    → AreCodewords c columns others → AreNearest c columns answers words → AreRepaired c.repair columns others answers
repaired c [] [] [] [] ok codes nearest = tt
repaired c (column ∷ columns) (sent ∷ others) (answer ∷ answers) (word ∷ words) ok codes nearest = (
  (λ within. (word-is c column sent word answer ok codes.0 codes.1 within nearest.0.nearest).0),
  repaired c columns others answers words ok codes.2 nearest.1,
)
repaired c columns others answers words ok codes nearest = absurd (assumption)

pub words-are : (c : Configuration) (columns others : List (List ℕ)) (answers : List Answer) (words : List (List ℕ))
    → IsAccepted c
    → AreCodewords c columns others → AreWithin c.repair columns others → AreNearest c columns answers words
    → (are_fixed answers ≡ true) × (words ≡ others)
words-are c [] [] [] [] ok codes within nearest = (refl, refl)
words-are c (column ∷ columns) (sent ∷ others) (answer ∷ answers) (word ∷ words) ok codes within nearest =
    let one = word-is c column sent word answer ok codes.0 codes.1 within.0 nearest.0.nearest in
    let more = words-are c columns others answers words ok codes.2 within.1 nearest.1 in
    (ap (λ a. are_fixed (a ∷ answers)) one.0 ∙ more.0, λ i. one.1 i ∷ more.1 i)
words-are c columns others answers words ok codes within nearest = absurd (assumption)

-- ---- codeblocks

-- the codeblock after an entry's place is the entry's block
codeblock-is : (c : Configuration) (at : ℕ) (before : Option Before) (e : Entry) (prefix rest : List Bool)
    → length prefix ≡ at → length e.marker ≡ 32 → length e.block ≡ 8 * codeblock_length c
    → codeblock_at c (prefix ++ (e.gap ++ (e.marker ++ (e.block ++ rest)))) (place_of (rules_of c) at before e)
    ≡ codeblock_in c (place_of (rules_of c) at before e).inverted e.block
codeblock-is c at before e prefix rest long mark size =
    ap (codeblock_in c (place_of (rules_of c) at before e).inverted)
    ((λ i. take (8 * codeblock_length c) (drop (where_is i) (whole i)))
    ∙ ap (take (8 * codeblock_length c)) (drop_at (prefix ++ (e.gap ++ e.marker)) (e.block ++ rest)
    (at + length e.gap + 32)
    (omega (arith, length-append prefix (e.gap ++ e.marker), length-append e.gap e.marker)))
    ∙ take_at e.block rest (8 * codeblock_length c) size)
  where
    where_is : (place_of (rules_of c) at before e).place + 32 ≡ at + length e.gap + 32
    where_is = ap (λ n. n + 32) (place_of-place (rules_of c) at before e)

    whole : prefix ++ (e.gap ++ (e.marker ++ (e.block ++ rest))) ≡ (prefix ++ (e.gap ++ e.marker)) ++ (e.block ++ rest)
    whole =
        ap (λ l. prefix ++ l) (sym (append_assoc e.gap e.marker (e.block ++ rest)))
        ∙ sym (append_assoc prefix (e.gap ++ e.marker) (e.block ++ rest))

-- what follows an entry, and where
next-prefix : (c : Configuration) (at : ℕ) (before : Option Before) (e : Entry) (prefix rest : List Bool)
    → length prefix ≡ at → length e.marker ≡ 32 → length e.block ≡ 8 * codeblock_length c
    → (prefix ++ (e.gap ++ (e.marker ++ (e.block ++ rest))) ≡ (prefix ++ (e.gap ++ (e.marker ++ e.block))) ++ rest)
    × (length (prefix ++ (e.gap ++ (e.marker ++ e.block))) ≡
    (place_of (rules_of c) at before e).place + 32 + 8 * codeblock_length c)
next-prefix c at before e prefix rest long mark size = (
  ap (λ l. prefix ++ l) (ap (λ l. e.gap ++ l) (sym (append_assoc e.marker e.block rest))
      ∙ sym (append_assoc e.gap (e.marker ++ e.block) rest))
      ∙ sym (append_assoc prefix (e.gap ++ (e.marker ++ e.block)) rest),
  omega (
    arith,
    place_of-place (rules_of c) at before e,
    length-append prefix (e.gap ++ (e.marker ++ e.block)),
    length-append e.gap (e.marker ++ e.block),
    length-append e.marker e.block,
  ),
)

-- what is said of the codeblock that was received of a frame
as_sent-one : (c : Configuration) (f : Found) (u : SentUnit) (codeblock : List ℕ) (item : ItemValue) → IsAccepted c
    → IsFrame c u.frame → length u.received.block ≡ 8 * codeblock_length c
    → codeblock ≡ unit_codeblock c f u → IsItem c f codeblock item → IsAsSent c f u item
as_sent-one c f u codeblock item ok is size same it =
    let received = unit_codeblock c f u in
    let codes = are_codewords c u.frame received ok is (length-codeblock_in c f.inverted u.received.block size) in
    let nearest : AreNearest c (received_columns c received) item.answers it.words =
    subst (λ (b : List ℕ). AreNearest c (received_columns c b) item.answers it.words) same it.nearest in
    record {
      place = it.place;
      answers =
          repaired c (received_columns c received) (sent_columns c u.frame) item.answers it.words ok codes nearest;
      frame = λ near.
          let all = words-are c (received_columns c received)
          (sent_columns c u.frame) item.answers it.words ok codes near.columns nearest in
          it.frame ∙ (λ i. cond (all.0 i || c.pass_bad) (frame_of c (same i) (all.1 i)) [])
          ∙ frame-restored c u.frame received ok is near.uncoded;
    }

-- ---- units

as_sent : (c : Configuration) (at : ℕ) (before : Option Before) (units : List SentUnit) (prefix last : List Bool)
    (items : List ItemValue) → IsAccepted c → length prefix ≡ at
    → AreEntries (rules_of c) at before (entries_of units) last → AllByRecursion (λ u. IsFrame c u.frame) units
    → AreItemsOf c (prefix ++ joined (entries_of units) last)
    (places_of (rules_of c) at before (entries_of units)) items
    → AreAsSent c (places_of (rules_of c) at before (entries_of units)) units items
as_sent c at before [] prefix last [] ok long are frames items = tt
as_sent c at before [] prefix last (item ∷ more) ok long are frames items = absurd items
as_sent c at before (u ∷ units) prefix last [] ok long are frames items = absurd items
as_sent c at before (u ∷ units) prefix last (item ∷ more) ok long are frames items =
    let e = u.received in
    let f = place_of (rules_of c) at before e in
    let rest = joined (entries_of units) last in
    let one = are.0 in
    let next = next-prefix c at before e prefix rest long one.marker one.block in
    let after = f.place + 32 + 8 * codeblock_length c in (
      as_sent-one c f u (codeblock_at c (prefix ++ (e.gap ++ (e.marker ++ (e.block ++ rest)))) f) item ok frames.0
          one.block
          (codeblock-is c at before e prefix rest long one.marker one.block) items.0,
      as_sent c after (Some (before_next before f)) units (prefix ++ (e.gap ++ (e.marker ++ e.block))) last more ok
          next.1 are.1 frames.1
          (subst (λ (b : List Bool). AreItemsOf c b (places_of (rules_of c) after (Some (before_next before f))
          (entries_of units)) more) next.0 items.1),
    )

-- the places are those of the units
places-sent : (c : Configuration) (bits : List Bool) (units : List SentUnit) (last : List Bool)
    → IsSent c bits units last → places_in c bits ≡ unit_places c units
places-sent c bits units last sent = go (columns_of c) sent.alone
  where
    fs : List Found
    fs = unit_places c units

    go : (columns : Option Columns)
        → IfSome columns (λ columns. AllByRecursion (MayStand (rules_of c) columns bits) fs
        × AllByRecursion (HasNoneInside (rules_of c) columns (sound_in c bits) bits) fs)
        → places_with (rules_of c) columns (sound_in c bits) bits ≡ fs
    go None alone =
        places_with-off (rules_of c) (sound_in c bits) bits
        ∙ places-marked (rules_of c) bits (entries_of units) last sent.marked
    go (Some columns) alone =
        places-alone (rules_of c) columns (sound_in c bits) bits (entries_of units) last sent.marked alone.0 alone.1

-- the items of units at their places
pub items-at : (c : Configuration) (bits : List Bool) (units : List SentUnit) (last : List Bool)
    (items : List ItemValue) → IsAccepted c → IsMarked (rules_of c) bits (entries_of units) last
    → AllByRecursion (λ u. IsFrame c u.frame) units → AreItemsOf c bits (unit_places c units) items
    → AreAsSent c (unit_places c units) units items
items-at c bits units last items ok marked frames are =
    as_sent c 0 None units [] last items ok refl marked.are_entries frames
    (subst (λ (b : List Bool). AreItemsOf c b (unit_places c units) items) marked.parts are)

-- the items of what was sent, however it was disturbed
pub items-as_sent : (c : Configuration) (bits : List Bool) (units : List SentUnit) (last : List Bool)
    (items : List ItemValue) → IsAccepted c
    → IsSent c bits units last → AreItems c bits items → AreAsSent c (unit_places c units) units items
items-as_sent c bits units last items ok sent are =
    items-at c bits units last items ok sent.marked sent.frames
    (subst (λ (fs : List Found). AreItemsOf c bits fs items) (places-sent c bits units last sent) are)

-- where every codeblock is near, the frames are those that were sent
pub frames-sent : (c : Configuration) (fs : List Found) (units : List SentUnit) (items : List ItemValue)
    → AreAsSent c fs units items → AreNear c fs units → frames_of items ≡ unit_frames units
frames-sent c [] [] [] are near = refl
frames-sent c (f ∷ fs) (u ∷ units) (item ∷ items) are near =
    (λ i. are.0.frame near.0 i ++ frames_of items) ∙ ap (λ l. u.frame ++ l) (frames-sent c fs units items are.1 near.1)
frames-sent c fs units items are near = absurd (assumption)
