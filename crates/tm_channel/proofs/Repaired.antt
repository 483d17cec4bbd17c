-- What came of the words of codeblocks.
use Rattle.std.proofs.Common.{◌≢◌, ◌≡◌, ℕ, zero, suc, ◌+◌, ◌*◌, ◌<◌, ◌≤◌, ◌&&◌, if◌then◌else◌, List, [], ◌∷◌, ◌++◌, length, map, take, drop, get_or, set, refl, sym, ap, ◌∙◌, subst, arith, Option, unwrap_or, ◌⊎◌, inl, inr}
use Rattle.std.specs.List.{list_all}
use Rattle.std.proofs.lemmas.Grind.{common_steps}
use Rattle.std.proofs.lemmas.Bool.{cases_lt}
use Rattle.std.proofs.lemmas.List.{take_all, take_at, drop_at, drop-take, get_or_default, get_or-set_other, get_or-set_same, length-map, length-take-le}
use Rattle.std.proofs.lemmas.Slice.{take-put_mid_below}
use borrow.Rule.Slice.PartMut.{put_mid, post_of}
use Rattle.tm_sync.specs.declared.found.Found.{Found}
use Rattle.tm_config.specs.Configuration.{Configuration, codeblock_length, data_length, word_length, correctable}
use Rattle.tm_config.proofs.Choices.{uncoded_false}
use Rattle.tm_config.specs.declared.values.OuterCode.TheVariants.{Uncoded}
use Rattle.tm_gf256.specs.Poly.{numbers}
use Rattle.tm_rs_code.specs.Code.{Code}
use Rattle.tm_rs_code.specs.Nearest.{IsNearest, is_correctable}
use Rattle.tm_rs_code.proofs.HasNearest.{correctable-is}
use Rattle.tm_rs.specs.Answers.{found}
use Rattle.tm_rs.specs.declared.answers.Answer.{Answer}
use Rattle.tm_rs.specs.declared.answers.Answer.TheVariants.{Beyond, Fixed}
use Rattle.tm_workers.specs.declared.words.Word.{Word}
use Rattle.tm_workers.specs.Batch.{EachBecomes}
use Rattle.tm_workers.specs.Words.{Decodes}
use Rattle.tm_codeblock.specs.ReceivedCodeblock.{column_count, received_columns, frame_of, is_sound}
use Rattle.tm_channel.specs.ColumnDecoding.{AreColumnsDecoded}
use Rattle.tm_channel.specs.ColumnWords.{symbols_of, all_symbols}
use Rattle.tm_channel.specs.Items.{AreNearest, IsItem, ItemValue, are_fixed, is_given}
use Rattle.tm_channel.specs.Origins.{PlaceSymbol}
use Rattle.tm_channel.specs.Receiving.{AreItemsFor, Batching, IsItemAt}
use Rattle.tm_channel.specs.Storing.{AreDecoded, AreRead, IsDecoded, IsRead, answers_of, codeblock_in_slot, item_in, place_in, stored_in, words_at}
use Rattle.tm_channel.specs.declared.slot.Slot.{Slot}

-- words that were decoded hold what is nearest to the columns that were read into them
pub nearest-are : (c : Configuration) (code : Code) (words now : List Word) → code.e ≡ correctable c.code
    → code.n ≡ word_length c → EachBecomes (Decodes code c.repair) words now
    → AreNearest c (all_symbols c words) (answers_of now) (all_symbols c now)
nearest-are c code [] [] e n become = tt
nearest-are c code [] (w' ∷ now) e n become = absurd become
nearest-are c code (w ∷ words) [] e n become = absurd become
nearest-are c code (w ∷ words) (w' ∷ now) e n become = (
  record { nearest = one become.0; left = stays become.0 },
  nearest-are c code words now e n become.1,
)
  where
    said : (d : Decodes code c.repair w w') → d.answer ≡ unwrap_or w'.answer Beyond
    said d = sym (ap (λ (o : Option Answer). unwrap_or o Beyond) d.answered)

    stays : Decodes code c.repair w w' → unwrap_or w'.answer Beyond ≡ Beyond → symbols_of c w' ≡ symbols_of c w
    stays d beyond =
        subst (λ (k : ℕ). numbers (take k w'.symbols) ≡ numbers (take k w.symbols)) n
        (ap numbers (d.unchanged (said d ∙ beyond)))

    one : Decodes code c.repair w w'
        → IsNearest (correctable c.code) c.repair (symbols_of c w)
        (found (unwrap_or w'.answer Beyond) (symbols_of c w'))
    one d =
        subst (λ (k : ℕ). IsNearest (correctable c.code) c.repair (numbers (take k w.symbols))
        (found (unwrap_or w'.answer Beyond) (numbers (take k w'.symbols)))) n
        (subst (λ (a : Answer). IsNearest (correctable c.code) c.repair (numbers (take code.n w.symbols))
        (found a (numbers (take code.n w'.symbols)))) (said d)
        (subst (λ (k : ℕ). IsNearest k c.repair (numbers (take code.n w.symbols))
        (found d.answer (numbers (take code.n w'.symbols)))) e d.nearest))

-- a part of a batch
pub becomes-take : {W : Type 0} (R : W → W → Type 0) (count : ℕ) (xs ys : List W) → EachBecomes R xs ys
    → EachBecomes R (take count xs) (take count ys)
becomes-take R zero xs ys each = tt
becomes-take R (suc count) [] [] each = tt
becomes-take R (suc count) [] (y ∷ ys) each = absurd each
becomes-take R (suc count) (x ∷ xs) [] each = absurd each
becomes-take R (suc count) (x ∷ xs) (y ∷ ys) each = (each.0, becomes-take R count xs ys each.1)

pub becomes-drop : {W : Type 0} (R : W → W → Type 0) (count : ℕ) (xs ys : List W) → EachBecomes R xs ys
    → EachBecomes R (drop count xs) (drop count ys)
becomes-drop R zero xs ys each = each
becomes-drop R (suc count) [] [] each = tt
becomes-drop R (suc count) [] (y ∷ ys) each = absurd each
becomes-drop R (suc count) (x ∷ xs) [] each = absurd each
becomes-drop R (suc count) (x ∷ xs) (y ∷ ys) each = becomes-drop R count xs ys each.1

pub becomes-part : {W : Type 0} (R : W → W → Type 0) (count index : ℕ) (xs ys : List W) → EachBecomes R xs ys
    → EachBecomes R (take count (drop (index * count) xs)) (take count (drop (index * count) ys))
becomes-part R count index xs ys each =
    becomes-take R count (drop (index * count) xs) (drop (index * count) ys)
    (becomes-drop R (index * count) xs ys each)

-- the words of all codeblocks, decoded as one batch
pub all-decoded : (c : Configuration) (slots : List Slot) (words now : List Word) → c.code ≢ Uncoded
    → AreRead c slots words → AreColumnsDecoded c words now → AreDecoded c slots now
all-decoded c slots words now coded read decoded = λ index slot below.
    rw (uncoded_false c.code coded) (
    subst (λ (columns : List (List ℕ)). AreNearest c columns (answers_of (words_at c.depth now index))
    (all_symbols c (words_at c.depth now index))) (read index slot below)
    (nearest-are c decoded.0 (words_at c.depth words index) (words_at c.depth now index) decoded.1 decoded.2
    (becomes-part (Decodes decoded.0 c.repair) c.depth index words now decoded.3)))

-- with no outer code there are no words
pub none-decoded : (c : Configuration) (slots : List Slot) (words : List Word) → c.code ≡ Uncoded
    → AreDecoded c slots words
unfolding received_columns
none-decoded c slots words none = λ index slot below. rw none tt

-- a codeblock's words are written over others
pub words-here : (count index k : ℕ) (words piece : List Word) → length piece ≡ count → index * count ≤ length words
    → words_at count (put_mid (index * count) k words piece) index ≡ piece
words-here count index k words piece long within =
    ap (take count) (drop_at (take (index * count) words) (piece ++ post_of (index * count) k words) (index * count)
    (length-take-le (index * count) words within))
    ∙ take_at piece (post_of (index * count) k words) count long

pub words-before : (count index j k : ℕ) (words piece : List Word) → j < index → index * count ≤ length words
    → words_at count (put_mid (index * count) k words piece) j ≡ words_at count words j
words-before count index j k words piece below within =
    sym (drop-take (j * count) count (put_mid (index * count) k words piece))
    ∙ ap (drop (j * count)) (take-put_mid_below (index * count) k words piece (j * count + count)
    (grind (arith, common_steps)) within)
    ∙ drop-take (j * count) count words

pub within : (index slots count long : ℕ) → index < slots → long ≡ slots * count → index * count ≤ long
within index slots count long below size = grind (arith, common_steps)

-- one codeblock more is read
pub read-more : (c : Configuration) (slots : List Slot) (words piece : List Word) (count index k : ℕ)
    → count ≡ c.depth → length piece ≡ count → index * count ≤ length words
    → ((j : ℕ) (slot : Slot) → j < index → IsRead c (codeblock_in_slot c slots j slot) (words_at c.depth words j))
    → ((slot : Slot) → IsRead c (codeblock_in_slot c slots index slot) piece)
    → (j : ℕ) (slot : Slot) → j < index + 1 → IsRead c (codeblock_in_slot c slots j slot)
    (words_at c.depth (put_mid (index * count) k words piece) j)
read-more c slots words piece count index k by_depth long within read one j slot below =
    subst (λ (n : ℕ). IsRead c (codeblock_in_slot c slots j slot)
    (words_at n (put_mid (index * count) k words piece) j)) by_depth (at (cases_lt j index))
  where
    at : (j < index) ⊎ (index ≤ j) → IsRead c (codeblock_in_slot c slots j slot)
        (words_at count (put_mid (index * count) k words piece) j)
    at (inl before) =
        subst (λ (ws : List Word). IsRead c (codeblock_in_slot c slots j slot) ws)
        (ap (λ n. words_at n words j) (sym by_depth) ∙ sym (words-before count index j k words piece before within))
        (read j slot before)
    at (inr after) =
        let here : index ≡ j = omega arith in
        subst (λ (n : ℕ). IsRead c (codeblock_in_slot c slots n slot)
        (words_at count (put_mid (index * count) k words piece) n)) here
        (subst (λ (ws : List Word). IsRead c (codeblock_in_slot c slots index slot) ws)
        (sym (words-here count index k words piece long within)) (one slot))

-- ---- items
-- what is written in a slot is its codeblock's item
pub item-is : (c : Configuration) (slot : Slot) (answers : List Answer) (frame octets : List ℕ) (words : List Word)
    → IsDecoded c (take (codeblock_length c) octets) words
    → take (column_count c) answers ≡ answers_of words → take c.frame_length frame
    ≡ frame_of c (take (codeblock_length c) octets) (all_symbols c words)
    → IsItem c slot.found (take (codeblock_length c) octets)
    (item_in c (record slot { octets = octets; answers = answers; frame = frame }))
item-is c slot answers frame octets words decoded written framed = record {
  place = refl;
  words = all_symbols c words;
  nearest =
      subst (λ (l : List Answer). AreNearest c (received_columns c (take (codeblock_length c) octets)) l
      (all_symbols c words)) (sym written) decoded;
  frame = ap (λ (l : List ℕ). if is_given c (take (column_count c) answers) then l else []) framed;
}

-- the answers are written before others
pub answers-are : (c : Configuration) (words : List Word) (written others : List Answer)
    → length words ≡ column_count c → written ≡ answers_of words
    → take (column_count c) (written ++ others) ≡ answers_of words
answers-are c words written others long are =
    take_at written others (column_count c) (ap length are ∙ length-map words
    (λ (w : Word). unwrap_or w.answer Beyond) ∙ long) ∙ are

-- with no outer code the frame is the codeblock
pub plain-frame : (c : Configuration) (octets : List ℕ) (words : List (List ℕ)) → c.code ≡ Uncoded
    → c.frame_length ≡ c.depth * data_length c
    → take c.frame_length octets ≡ frame_of c (take (codeblock_length c) octets) words
unfolding frame_of
plain-frame c octets words none whole =
    rw none (ap (λ n. take n octets) (whole ∙ ap (λ n. c.depth * n) (no-more (data_length c))))
  where
    no-more : (n : ℕ) → n ≡ n + 0
    no-more n = omega arith

-- one item more is written
pub item-more : (c : Configuration) (olds slots : List Slot) (index : ℕ) (now d : Slot) → index < length olds
    → length slots ≡ length olds → get_or slots index d ≡ get_or olds index d
    → IsItem c (get_or slots index d).found (take (codeblock_length c) (get_or slots index d).octets) (item_in c now)
    → ((j : ℕ) (slot : Slot) → j < index → IsItem c (get_or olds j slot).found (codeblock_in_slot c olds j slot)
    (item_in c (get_or slots j slot)))
    → (j : ℕ) (slot : Slot) → j < index + 1 → IsItem c (get_or olds j slot).found (codeblock_in_slot c olds j slot)
    (item_in c (get_or (set slots index now) j slot))
item-more c olds slots index now d below long same one done j slot less = at (cases_lt j index)
  where
    at : (j < index) ⊎ (index ≤ j) → IsItem c (get_or olds j slot).found (codeblock_in_slot c olds j slot)
        (item_in c (get_or (set slots index now) j slot))
    at (inl before) =
        subst (λ (s : Slot). IsItem c (get_or olds j slot).found (codeblock_in_slot c olds j slot) (item_in c s))
        (sym (get_or-set_other slots index j now slot (λ e. absurd (omega arith)))) (done j slot before)
    at (inr after) =
        let here : index ≡ j = omega arith in
        subst (λ (n : ℕ). IsItem c (get_or olds n slot).found (codeblock_in_slot c olds n slot)
        (item_in c (get_or (set slots index now) n slot))) here
        (subst (λ (s : Slot). IsItem c (get_or olds index slot).found (codeblock_in_slot c olds index slot)
        (item_in c s)) (sym (get_or-set_same slots index now slot (omega arith)))
        (subst (λ (s : Slot). IsItem c s.found (take (codeblock_length c) s.octets) (item_in c now))
        (same ∙ get_or_default olds index d slot below) one))

-- each slot has its codeblock's item
pub items-are : (c : Configuration) (olds slots : List Slot) → length slots ≡ length olds
    → ((j : ℕ) (slot : Slot) → j < length olds → IsItem c (get_or olds j slot).found (codeblock_in_slot c olds j slot)
    (item_in c (get_or slots j slot)))
    → AreItemsFor c (map (stored_in (codeblock_length c)) olds) (map (item_in c) slots)
items-are c [] [] long each = tt
items-are c [] (s ∷ slots) long each = absurd (omega arith)
items-are c (o ∷ olds) [] long each = absurd (omega arith)
items-are c (o ∷ olds) (s ∷ slots) long each =
    (each 0 o (omega arith), items-are c olds slots (omega arith) (λ j slot below. each (suc j) slot (omega arith)))

-- the item of one codeblock
pub item-in-slot : (c : Configuration) (size count : ℕ) (slots : List Slot) (index : ℕ) (d : Slot)
    → AreItemsFor c (map (stored_in size) (take count slots)) (map (item_in c) (take count slots))
    → index < length (map (stored_in size) (take count slots))
    → IsItemAt c (map (stored_in size) (take count slots)) index (item_in c (get_or slots index d))
item-in-slot c size zero slots index d are below = absurd (omega arith)
item-in-slot c size (suc count) [] index d are below = absurd (omega arith)
item-in-slot c size (suc count) (s ∷ slots) zero d are below = (stored_in size s, refl, are.0)
item-in-slot c size (suc count) (s ∷ slots) (suc index) d are below =
    item-in-slot c size count slots index d are.1 (omega arith)

-- ---- whether codeblocks are sound

pub columns-sound : (c : Configuration) (columns : List (List ℕ)) (answers : List Answer) (words : List (List ℕ))
    → AreNearest c columns answers words
    → list_all (is_correctable (correctable c.code) c.repair) columns ≡ are_fixed answers
columns-sound c [] [] [] are = refl
columns-sound c [] [] (word ∷ words) are = absurd are
columns-sound c [] (answer ∷ answers) words are = absurd are
columns-sound c (column ∷ columns) [] words are = absurd are
columns-sound c (column ∷ columns) (answer ∷ answers) [] are = absurd are
columns-sound c (column ∷ columns) (Fixed d ∷ answers) (word ∷ words) are =
    (λ i. correctable-is (correctable c.code) c.repair column (found (Fixed d) word) are.0.nearest i
    && columns-sound c columns answers words are.1 i)
columns-sound c (column ∷ columns) (Beyond ∷ answers) (word ∷ words) are =
    ap (λ b. b && list_all (is_correctable (correctable c.code) c.repair) columns)
    (correctable-is (correctable c.code) c.repair column (found Beyond word) are.0.nearest)

-- the item of a codeblock says whether it is
pub item-sound : (c : Configuration) (f : Found) (codeblock : List ℕ) (item : ItemValue) → IsItem c f codeblock item
    → is_sound c codeblock ≡ are_fixed item.answers
item-sound c f codeblock item is = columns-sound c (received_columns c codeblock) item.answers is.words is.nearest

-- ---- one codeblock more

-- there is a slot for one more
pub slot-left : (c : Configuration) (size count : ℕ) (slots : List Slot) (symbols : List PlaceSymbol)
    (items : List ItemValue) (b : Batching)
    → length slots ≡ c.batch → count ≤ c.batch
    → record { config = c; stored = map (stored_in size) (take count slots); symbols = symbols; items = items } ≡ b
    → length b.stored < b.config.batch → count < length slots
slot-left c size count slots symbols items b all most view few =
    let less : length (map (stored_in size) (take count slots)) < c.batch =
    subst (λ (v : Batching). length v.stored < v.config.batch) (sym view) few in
    omega (arith, length-map (take count slots) (stored_in size), length-take-le count slots (omega arith))

-- the one codeblock of which the words were decoded
pub one-decoded : (c : Configuration) (slot : Slot) (words : List Word) → length words ≤ column_count c
    → AreDecoded c (slot ∷ []) words → IsDecoded c (take (codeblock_length c) slot.octets) words
one-decoded c slot words few decoded =
    let none : 0 * column_count c ≡ 0 = omega arith in
    subst (IsDecoded c (take (codeblock_length c) slot.octets))
    (ap (λ n. take (column_count c) (drop n words)) none ∙ take_all (column_count c) words few)
    (decoded 0 slot (omega arith))

-- the symbols of one more
pub place-next : (count : ℕ) (slots : List Slot) (index : ℕ) (d : Slot) → index < count → count ≤ length slots
    → take (suc index) (map place_in (take count slots))
    ≡ take index (map place_in (take count slots)) ++ place_in (get_or slots index d) ∷ []
place-next zero slots index d below within = absurd (omega (arith, below))
place-next (suc count) [] index d below within = absurd (omega (arith, within))
place-next (suc count) (s ∷ slots) zero d below within = refl
place-next (suc count) (s ∷ slots) (suc index) d below within =
    ap (λ l. place_in s ∷ l) (place-next count slots index d (omega (arith, below)) (omega (arith, within)))
