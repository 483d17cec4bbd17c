-- Bits have one list of items.
use Rattle.std.proofs.Common.{◌≡◌, ◌≤◌, ◌+◌, ◌*◌, ℕ, zero, suc, Bool, true, false, cond, List, [], ◌∷◌, length, map, take, drop, refl, sym, ap, ◌∙◌, subst, arith, inl, inr, length-drop, length-take-le}
use Rattle.std.specs.List.{AllByRecursion, range_with_len}
use Rattle.tm_config.specs.Configuration.{Configuration, word_length, codeblock_length, correctable}
use Rattle.tm_config.specs.Accepted.{IsAccepted}
use Rattle.tm_rs_code.specs.Nearest.{Nearest}
use Rattle.tm_rs_code.specs.Nearest.Nearest.{Fixed as FixedWord, Beyond as BeyondWord}
use Rattle.tm_rs_code.proofs.OnlyNearest.{nearest_only}
use Rattle.tm_rs.specs.declared.answers.Answer.{Answer}
use Rattle.tm_rs.specs.declared.answers.Answer.TheVariants.{Fixed, Beyond}
use Rattle.tm_rs.specs.Answers.{found}
use Rattle.tm_sync.specs.declared.found.Found.{Found}
use Rattle.tm_codeblock.specs.ReceivedCodeblock.{codeblock_at, received_column, received_columns, frame_of, places_in}
use Rattle.tm_channel.specs.Items.{ItemValue, IsRepaired, AreNearest, is_given, IsItem, AreItemsOf, AreItems, HaveSymbols}
use Rattle.tm_channel.proofs.SentCodeblocks.{coded, columns-coded, columns-uncoded, length-received, length-codeblock_in}
use Rattle.tm_channel.proofs.Repairs.{found-fixed}
use Rattle.tm_codeblock.proofs.PlacesIn.{places_in-end}

abbrev AreShort : List (List ℕ) → Type 0
AreShort columns = AllByRecursion (λ column. length column ≤ 255) columns

is_beyond : Nearest → Bool
is_beyond (FixedWord c d) = false
is_beyond BeyondWord = true

-- what is nearest shows the answer and the word
found-same : (c : Configuration) (column : List ℕ) (a b : Answer) (v w : List ℕ) → IsRepaired c column a v
    → IsRepaired c column b w → found a v ≡ found b w → (a ≡ b) × (v ≡ w)
unfolding is_beyond
found-same c column (Fixed d) b v w one other same = let it = found-fixed b w v d (sym same) in (sym it.0, sym it.1)
found-same c column Beyond (Fixed d) v w one other same = absurd (let no : true ≡ false = ap is_beyond same in cc)
found-same c column Beyond Beyond v w one other same = (refl, one.left refl ∙ sym (other.left refl))

answers-same : (c : Configuration) (columns : List (List ℕ)) (firsts seconds : List Answer) (vs ws : List (List ℕ))
    → IsAccepted c
    → AreShort columns → AreNearest c columns firsts vs → AreNearest c columns seconds ws → (firsts ≡ seconds)
    × (vs ≡ ws)
answers-same c [] [] [] [] [] ok short are others = (refl, refl)
answers-same c (column ∷ columns) (a ∷ firsts) (b ∷ seconds) (v ∷ vs) (w ∷ ws) ok short are others =
    let one = found-same c column a b v w are.0 others.0 (nearest_only (correctable c.code) c.repair column (found a v)
    (found b w) ok.repair short.0 are.0.nearest others.0.nearest) in
    let more = answers-same c columns firsts seconds vs ws ok short.1 are.1 others.1 in
    ((λ i. one.0 i ∷ more.0 i), (λ i. one.1 i ∷ more.1 i))
answers-same c columns firsts seconds vs ws ok short are others = absurd (assumption)

item-same : (c : Configuration) (f : Found) (codeblock : List ℕ) (item other : ItemValue) → IsAccepted c
    → AreShort (received_columns c codeblock) → IsItem c f codeblock item → IsItem c f codeblock other
    → item.symbol ≡ other.symbol → item ≡ other
item-same c f codeblock item other ok short it that symbol =
    let same = answers-same c (received_columns c codeblock) item.answers other.answers it.words that.words ok short
    it.nearest that.nearest in
    let frame : item.frame ≡ other.frame =
    it.frame ∙ (λ i. cond (is_given c (same.0 i)) (frame_of c codeblock (same.1 i)) []) ∙ sym that.frame in
    (λ i. record {
      found = (it.place ∙ sym that.place) i;
      symbol = symbol i;
      answers = same.0 i;
      frame = frame i;
    })

-- ---- a word has at most 255 symbols

short-from : (c : Configuration) (codeblock : List ℕ) (i n : ℕ) → length codeblock ≡ codeblock_length c
    → word_length c ≤ 255 → i + n ≤ c.depth
    → AreShort (map (received_column c codeblock) (range_with_len i n))
short-from c codeblock i zero long short within = tt
short-from c codeblock i (suc n) long short within = (
  let size = length-received c codeblock i long (omega arith) in
      omega (arith, size),
  short-from c codeblock (i + 1) n long short (omega arith),
)

columns-short : (c : Configuration) (codeblock : List ℕ) → IsAccepted c → length codeblock ≡ codeblock_length c
    → AreShort (received_columns c codeblock)
columns-short c codeblock ok long = elim (coded c ok) [
  | inl none ↦ subst (λ (l : List (List ℕ)). AreShort l) (sym (columns-uncoded c codeblock none)) tt
  | inr some ↦
      subst (λ (l : List (List ℕ)). AreShort l) (sym (columns-coded c codeblock some.0))
      (short-from c codeblock 0 c.depth long some.1 (omega arith))
]

-- a codeblock stands whole after a place
codeblock-whole : (c : Configuration) (bits : List Bool) (f : Found)
    → f.place + 32 + 8 * codeblock_length c ≤ length bits → length (codeblock_at c bits f) ≡ codeblock_length c
codeblock-whole c bits f within =
    let rest = drop (f.place + 32) bits in
    length-codeblock_in c f.inverted (take (8 * codeblock_length c) rest)
    (length-take-le (8 * codeblock_length c) rest (omega (arith, length-drop (f.place + 32) bits)))

pub items-same : (c : Configuration) (at : ℕ → ℕ) (bits : List Bool) (fs : List Found) (items others : List ItemValue)
    → IsAccepted c → AllByRecursion (λ f. f.place + 32 + 8 * codeblock_length c ≤ length bits) fs
    → AreItemsOf c bits fs items → HaveSymbols at items → AreItemsOf c bits fs others → HaveSymbols at others
    → items ≡ others
items-same c at bits [] [] [] ok within are have too also = refl
items-same c at bits (f ∷ fs) (item ∷ items) (other ∷ others) ok within are have too also =
    let short = columns-short c (codeblock_at c bits f) ok (codeblock-whole c bits f within.0) in
    let symbol : item.symbol ≡ other.symbol =
    have.0 ∙ ap (λ (v : Found). at v.place) (are.0.place ∙ sym too.0.place) ∙ sym also.0 in
    (λ i. item-same c f (codeblock_at c bits f) item other ok short are.0 too.0 symbol i
    ∷ items-same c at bits fs items others ok within.1 are.1 have.1 too.1 also.1 i)
items-same c at bits fs items others ok within are have too also = absurd (assumption)

pub items-only : (c : Configuration) (at : ℕ → ℕ) (bits : List Bool) (items others : List ItemValue) → IsAccepted c
    → AreItems c bits items → HaveSymbols at items → AreItems c bits others → HaveSymbols at others → items ≡ others
items-only c at bits items others ok are have too also =
    items-same c at bits (places_in c bits) items others ok (places_in-end c bits) are have too also
