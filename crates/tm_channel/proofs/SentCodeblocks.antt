-- The codeblock of a frame: its columns are codewords, and give the frame back.
use Rattle.std.proofs.Common.{◌≡◌, ◌≢◌, ◌⊎◌, ◌<◌, ◌≤◌, ◌+◌, ◌-◌, ◌*◌, ◌/◌, ◌%◌, ℕ, zero, suc, Bool, true, false, cond, List, [], ◌∷◌, length, map, take, get_or, refl, sym, ap, ◌∙◌, subst, arith, inl, inr}
use Rattle.std.specs.List.{range_with_len}
use Rattle.std.proofs.lemmas.List.{length-map}
use Rattle.std.proofs.lemmas.List.FromFn.{get_or-map-range_with_len}
use Rattle.std.proofs.Common.{mod-lt}
use Rattle.tm_base.specs.Bits.{AreOctets, bits_of, octets_of}
use Rattle.tm_base.proofs.Packing.{AreOctets-rest, length-octets_of, octets_of-bits_of}
use Rattle.tm_base.proofs.Octets.{are_octets}
use Rattle.tm_config.specs.Configuration.{Configuration, correctable, data_length, word_length, codeblock_length}
use Rattle.tm_config.specs.declared.values.OuterCode.TheVariants.{Uncoded}
use Rattle.tm_config.specs.Accepted.{IsAccepted}
use Rattle.tm_config.proofs.Choices.{uncoded_cases, uncoded_false}
use Rattle.tm_config.proofs.Lengths.{word_length-le}
use Rattle.tm_gf256.specs.Octet.{sent_octet, element_of}
use Rattle.tm_gf256.specs.declared.basis.Basis.{Basis}
use Rattle.tm_gf256.proofs.DualInverse.{sent_octet-lt, element_of-lt, element_of-sent_octet}
use Rattle.tm_codeblock.specs.Column.{column}
use Rattle.tm_codeblock.specs.Interleaved.{interleaved}
use Rattle.tm_codeblock.proofs.ColumnLaws.{length-column, length-interleaved, column-interleaved, interleaved-all_columns, get_or-block}
use Rattle.tm_codeblock.specs.Masked.{masked}
use Rattle.tm_codeblock.proofs.Masks.{length-masked, AreOctets-masked, masked-twice}
use Rattle.tm_rs_code.specs.Code.{AreElements, IsSystematic, encode_word}
use Rattle.tm_rs_code.specs.Nearest.{IsCodewordOf}
use Rattle.tm_rs_code.proofs.Systematic.{systematic_exists}
use Rattle.tm_sync.specs.Bits.{in_polarity}
use Rattle.tm_sync.proofs.Complemented.{length-complement}
use Rattle.tm_codeblock.specs.Cadu.{coded_octets, coded_column, codeblock_of, sent_codeblock}
use Rattle.tm_codeblock.specs.ReceivedCodeblock.{codeblock_in, received_column, received_columns, data_octets, frame_of}
use Rattle.tm_codeblock.proofs.Codeblocks.{sent-read}
use Rattle.tm_channel.specs.SentStream.{IsFrame, sent_columns}

-- ---- elements and octets

AreElements-column : (b : Basis) (depth i : ℕ) (block : List ℕ) → AreOctets block
    → AreElements (map (element_of b) (column depth i block))
AreElements-column b depth i [] are = tt
AreElements-column b depth zero (x ∷ block) are = (
  element_of-lt b x (are 0 0 (omega arith)),
  AreElements-column b depth (depth - 1) block (AreOctets-rest x block are),
)
AreElements-column b depth (suc i) (x ∷ block) are = AreElements-column b depth i block (AreOctets-rest x block are)

get_or-column-lt : (depth i k : ℕ) (block : List ℕ) → AreOctets block → get_or (column depth i block) k 0 < 256
get_or-column-lt depth i k [] are = omega arith
get_or-column-lt depth zero zero (x ∷ block) are = are 0 0 (omega arith)
get_or-column-lt depth zero (suc k) (x ∷ block) are =
    get_or-column-lt depth (depth - 1) k block (AreOctets-rest x block are)
get_or-column-lt depth (suc i) k (x ∷ block) are = get_or-column-lt depth i k block (AreOctets-rest x block are)

get_or-sent-lt : (b : Basis) (word : List ℕ) (k : ℕ) → AreElements word → get_or (map (sent_octet b) word) k 0 < 256
get_or-sent-lt b [] k are = omega arith
get_or-sent-lt b (x ∷ word) zero are = sent_octet-lt b x are.0
get_or-sent-lt b (x ∷ word) (suc k) are = get_or-sent-lt b word k are.1

-- elements sent and read are the same elements
read-sent : (b : Basis) (word : List ℕ) → AreElements word → map (element_of b) (map (sent_octet b) word) ≡ word
read-sent b [] are = refl
read-sent b (x ∷ word) are = (λ t. element_of-sent_octet b x are.0 t ∷ read-sent b word are.1 t)

-- ---- what is known of a configuration

-- a configuration has no outer code, or one whose words have at most 255 symbols
pub coded : (c : Configuration) → IsAccepted c → (c.code ≡ Uncoded) ⊎ ((c.code ≢ Uncoded) × (word_length c ≤ 255))
coded c ok = elim (uncoded_cases c.code) [
  | inl none ↦ inl none.1
  | inr some ↦ inr (some.1, word_length-le c ok some.1)
]

-- ---- the columns that are sent

-- the data of a frame's column i, as elements
abbrev pub info_of : Configuration → List ℕ → ℕ → List ℕ
info_of c frame i = map (element_of c.basis) (column c.depth i frame)

length-info : (c : Configuration) (frame : List ℕ) (i : ℕ) → IsAccepted c → IsFrame c frame → i < c.depth
    → length (info_of c frame i) ≡ data_length c
length-info c frame i ok is below =
    length-map (column c.depth i frame) (element_of c.basis)
    ∙ length-column c.depth (data_length c) i frame below (is.0 ∙ ok.whole)

systematic : (c : Configuration) (frame : List ℕ) (i : ℕ) → IsFrame c frame
    → IsSystematic (correctable c.code) (info_of c frame i) (encode_word (correctable c.code) (info_of c frame i))
systematic c frame i is = systematic_exists (correctable c.code) (info_of c frame i)
    (AreElements-column c.basis c.depth i frame is.1)

pub is_codeword_of : (c : Configuration) (frame : List ℕ) (i : ℕ) → IsAccepted c → IsFrame c frame → i < c.depth
    → IsCodewordOf (correctable c.code) (word_length c) (encode_word (correctable c.code) (info_of c frame i))
is_codeword_of c frame i ok is below =
    let s = systematic c frame i is in
    record {
      size = s.size ∙ ap (λ n. n + 2 * correctable c.code)
          (length-info c frame i ok is below);
      elements = s.elements;
      codeword = s.codeword;
    }

coded_columns : Configuration → List ℕ → List (List ℕ)
coded_columns c frame = map (coded_column c frame) (range_with_len 0 c.depth)

coded-at : (c : Configuration) (frame : List ℕ) (i : ℕ) → i < c.depth
    → get_or (coded_columns c frame) i [] ≡ coded_column c frame i
unfolding coded_columns
coded-at c frame i below = get_or-map-range_with_len (coded_column c frame) 0 c.depth i i [] below (omega arith)

length-coded : (c : Configuration) (frame : List ℕ) (i : ℕ) → IsAccepted c → IsFrame c frame → i < c.depth
    → length (coded_column c frame i) ≡ word_length c
unfolding coded_octets
length-coded c frame i ok is below =
    length-map (encode_word (correctable c.code) (info_of c frame i)) (sent_octet c.basis)
    ∙ (is_codeword_of c frame i ok is below).size

codeblock-coded : (c : Configuration) (frame : List ℕ) → c.code ≢ Uncoded
    → codeblock_of c frame ≡ interleaved c.depth (word_length c) (coded_columns c frame)
unfolding codeblock_of coded_columns
codeblock-coded c frame some = rw (uncoded_false c.code some) refl

pub codeblock-uncoded : (c : Configuration) (frame : List ℕ) → c.code ≡ Uncoded → codeblock_of c frame ≡ frame
unfolding codeblock_of
codeblock-uncoded c frame none = rw none refl

column-coded : (c : Configuration) (frame : List ℕ) (i : ℕ) → IsAccepted c → IsFrame c frame → c.code ≢ Uncoded
    → i < c.depth
    → column c.depth i (codeblock_of c frame) ≡ coded_column c frame i
column-coded c frame i ok is some below =
    ap (column c.depth i) (codeblock-coded c frame some)
    ∙ column-interleaved c.depth (word_length c) i (coded_columns c frame) below
    (ap length (coded-at c frame i below) ∙ length-coded c frame i ok is below)
    ∙ coded-at c frame i below

-- column i of a frame's codeblock is the codeword of its data
pub column-sent : (c : Configuration) (frame : List ℕ) (i : ℕ) → IsAccepted c → IsFrame c frame → c.code ≢ Uncoded
    → i < c.depth
    → received_column c (codeblock_of c frame) i ≡ encode_word (correctable c.code) (info_of c frame i)
unfolding coded_octets
column-sent c frame i ok is some below =
    ap (map (element_of c.basis)) (column-coded c frame i ok is some below)
    ∙ read-sent c.basis (encode_word (correctable c.code) (info_of c frame i)) (systematic c frame i is).elements

-- ---- the codeblock

pub length-codeblock : (c : Configuration) (frame : List ℕ) → IsAccepted c → IsFrame c frame
    → length (codeblock_of c frame) ≡ codeblock_length c
length-codeblock c frame ok is = elim (coded c ok) [
  | inl none ↦
      let one = ok.no_depth none in
      ap length (codeblock-uncoded c frame none) ∙ is.0 ∙ ok.whole
      ∙ ap (λ n. c.depth * n) (omega (arith, ap correctable none))
  | inr some ↦ ap length (codeblock-coded c frame some.0) ∙ length-interleaved c.depth (word_length c)
      (coded_columns c frame)
]

codeblock-small : (c : Configuration) (frame : List ℕ) → IsAccepted c → IsFrame c frame → c.code ≢ Uncoded → (k : ℕ)
    → get_or (codeblock_of c frame) k 0 < 256
unfolding coded_octets
codeblock-small c frame ok is some k =
    let i : ℕ = k % c.depth in
    let below : i < c.depth = mod-lt k ok.some_depth in
    let same : get_or (coded_column c frame i) (k / c.depth) 0 ≡ get_or (codeblock_of c frame) k 0 =
    ap (λ l. get_or l (k / c.depth) 0) (sym (column-coded c frame i ok is some below))
    ∙ get_or-block c.depth (codeblock_of c frame) k 0 ok.some_depth in
    let small = get_or-sent-lt c.basis (encode_word (correctable c.code) (info_of c frame i)) (k / c.depth)
    (systematic c frame i is).elements in
    subst (λ (n : ℕ). n < 256) same small

pub AreOctets-codeblock : (c : Configuration) (frame : List ℕ) → IsAccepted c → IsFrame c frame
    → AreOctets (codeblock_of c frame)
AreOctets-codeblock c frame ok is = elim (coded c ok) [
  | inl none ↦ subst AreOctets (sym (codeblock-uncoded c frame none)) is.1
  | inr some ↦ are_octets (codeblock_of c frame) (codeblock-small c frame ok is some.0)
]

pub length-sent_codeblock : (c : Configuration) (frame : List ℕ) → IsAccepted c → IsFrame c frame
    → length (sent_codeblock c frame) ≡ codeblock_length c
length-sent_codeblock c frame ok is = go c.randomize
  where
    go : (on : Bool) → length (cond on (masked (codeblock_of c frame)) (codeblock_of c frame)) ≡ codeblock_length c
    go true = length-masked (codeblock_of c frame) ∙ length-codeblock c frame ok is
    go false = length-codeblock c frame ok is

-- received as it was sent, it is the codeblock
pub received-as_sent : (c : Configuration) (frame : List ℕ) → IsAccepted c → IsFrame c frame
    → codeblock_in c false (bits_of (sent_codeblock c frame)) ≡ codeblock_of c frame
unfolding codeblock_in
received-as_sent c frame ok is = go c.randomize
  where
    small : AreOctets (codeblock_of c frame)
    small = AreOctets-codeblock c frame ok is

    go : (on : Bool) → (let octets = octets_of (bits_of (cond on (masked (codeblock_of c frame))
        (codeblock_of c frame))) in cond on (masked octets) octets) ≡ codeblock_of c frame
    go true =
        ap masked (octets_of-bits_of (masked (codeblock_of c frame)) (AreOctets-masked (codeblock_of c frame)))
        ∙ masked-twice (codeblock_of c frame) small
    go false = octets_of-bits_of (codeblock_of c frame) small

length-in_polarity : (inverted : Bool) (bits : List Bool) → length (in_polarity inverted bits) ≡ length bits
length-in_polarity false bits = refl
length-in_polarity true bits = length-complement bits

-- how many octets received bits come to
pub octets-received : (c : Configuration) (inverted : Bool) (bits : List Bool)
    → length (codeblock_in c inverted bits) ≡ length bits / 8
unfolding codeblock_in
octets-received c inverted bits = go c.randomize
  where
    packed : length (octets_of (in_polarity inverted bits)) ≡ length bits / 8
    packed = length-octets_of (in_polarity inverted bits) ∙ ap (λ n. n / 8) (length-in_polarity inverted bits)

    go : (on : Bool) → length (cond on (masked (octets_of (in_polarity inverted bits)))
        (octets_of (in_polarity inverted bits))) ≡ length bits / 8
    go true = length-masked (octets_of (in_polarity inverted bits)) ∙ packed
    go false = packed

-- a received codeblock has as many octets
pub length-codeblock_in : (c : Configuration) (inverted : Bool) (bits : List Bool)
    → length bits ≡ 8 * codeblock_length c → length (codeblock_in c inverted bits) ≡ codeblock_length c
length-codeblock_in c inverted bits long = octets-received c inverted bits ∙ omega (arith, long)

-- ---- all columns

pub columns-coded : (c : Configuration) (codeblock : List ℕ) → c.code ≢ Uncoded
    → received_columns c codeblock ≡ map (received_column c codeblock) (range_with_len 0 c.depth)
unfolding received_columns
columns-coded c codeblock some = rw (uncoded_false c.code some) refl

pub columns-uncoded : (c : Configuration) (codeblock : List ℕ) → c.code ≡ Uncoded → received_columns c codeblock ≡ []
unfolding received_columns
columns-uncoded c codeblock none = rw none refl

-- for each received column the one that was sent, which is a codeword of its length
abbrev pub AreCodewords : Configuration → List (List ℕ) → List (List ℕ) → Type 0
AreCodewords c [] [] = Unit {0}
AreCodewords c (received ∷ columns) (sent ∷ others) = (length received ≤ 255)
    × IsCodewordOf (correctable c.code) (length received) sent × AreCodewords c columns others
AreCodewords c columns others = ⊥

pub length-received : (c : Configuration) (codeblock : List ℕ) (i : ℕ) → length codeblock ≡ codeblock_length c
    → i < c.depth → length (received_column c codeblock i) ≡ word_length c
length-received c codeblock i long below =
    length-map (column c.depth i codeblock) (element_of c.basis)
    ∙ length-column c.depth (word_length c) i codeblock below long

codewords-from : (c : Configuration) (frame codeblock : List ℕ) (i n : ℕ) → IsAccepted c → IsFrame c frame
    → length codeblock ≡ codeblock_length c → c.code ≢ Uncoded → word_length c ≤ 255 → i + n ≤ c.depth
    → AreCodewords c (map (received_column c codeblock) (range_with_len i n))
    (map (received_column c (codeblock_of c frame)) (range_with_len i n))
codewords-from c frame codeblock i zero ok is long some short within = tt
codewords-from c frame codeblock i (suc n) ok is long some short within =
    let below : i < c.depth = omega arith in
    let size = length-received c codeblock i long below in (
      omega (arith, size),
      subst (λ (w : List ℕ). IsCodewordOf (correctable c.code) (length (received_column c codeblock i)) w)
          (sym (column-sent c frame i ok is some below))
          (subst (λ (n : ℕ). IsCodewordOf (correctable c.code) n
          (encode_word (correctable c.code) (info_of c frame i))) (sym size)
          (is_codeword_of c frame i ok is below)),
      codewords-from c frame codeblock (i + 1) n ok is long some short (omega arith),
    )

pub are_codewords : (c : Configuration) (frame codeblock : List ℕ) → IsAccepted c → IsFrame c frame
    → length codeblock ≡ codeblock_length c
    → AreCodewords c (received_columns c codeblock) (sent_columns c frame)
are_codewords c frame codeblock ok is long = elim (coded c ok) [
  | inl none ↦
      subst (λ (l : List (List ℕ)). AreCodewords c l (sent_columns c frame)) (sym (columns-uncoded c codeblock none))
      (subst (λ (l : List (List ℕ)). AreCodewords c [] l) (sym (columns-uncoded c (codeblock_of c frame) none)) tt)
  | inr some ↦
      subst (λ (l : List (List ℕ)). AreCodewords c l (sent_columns c frame)) (sym (columns-coded c codeblock some.0))
      (subst (λ (l : List (List ℕ)). AreCodewords c (map (received_column c codeblock) (range_with_len 0 c.depth)) l)
      (sym (columns-coded c (codeblock_of c frame) some.0))
      (codewords-from c frame codeblock 0 c.depth ok is long some.0 some.1 (omega arith)))
]

-- ---- the frame

pub AreOctets-column : (depth i : ℕ) (block : List ℕ) → AreOctets block → AreOctets (column depth i block)
AreOctets-column depth i block are = are_octets (column depth i block) (λ k. get_or-column-lt depth i k block are)

data-is : (c : Configuration) (frame : List ℕ) (i : ℕ) → IsAccepted c → IsFrame c frame → c.code ≢ Uncoded → i < c.depth
    → data_octets c (received_column c (codeblock_of c frame) i) ≡ column c.depth i frame
data-is c frame i ok is some below =
    ap (data_octets c) (column-sent c frame i ok is some below)
    ∙ ap (λ n. map (sent_octet c.basis) (take n (encode_word (correctable c.code) (info_of c frame i))))
    (sym (length-info c frame i ok is below))
    ∙ ap (map (sent_octet c.basis)) (systematic c frame i is).begins
    ∙ sent-read c.basis (column c.depth i frame) (AreOctets-column c.depth i frame is.1)

data-from : (c : Configuration) (frame : List ℕ) (i n : ℕ) → IsAccepted c → IsFrame c frame → c.code ≢ Uncoded
    → i + n ≤ c.depth
    → map (data_octets c) (map (received_column c (codeblock_of c frame)) (range_with_len i n))
    ≡ map (λ i. column c.depth i frame) (range_with_len i n)
data-from c frame i zero ok is some within = refl
data-from c frame i (suc n) ok is some within =
    (λ t. data-is c frame i ok is some (omega arith) t ∷ data-from c frame (i + 1) n ok is some (omega arith) t)

-- the columns that were sent give the frame back, and with no outer code the codeblock does
pub frame-restored : (c : Configuration) (frame codeblock : List ℕ) → IsAccepted c → IsFrame c frame
    → (c.code ≡ Uncoded → codeblock ≡ codeblock_of c frame)
    → frame_of c codeblock (sent_columns c frame) ≡ frame
unfolding frame_of
frame-restored c frame codeblock ok is same = elim (coded c ok) [
  | inl none ↦ rw none (same none ∙ codeblock-uncoded c frame none)
  | inr some ↦
      rw (uncoded_false c.code some.0)
      (ap (λ l. interleaved c.depth (data_length c) (map (data_octets c) l))
      (columns-coded c (codeblock_of c frame) some.0)
      ∙ ap (interleaved c.depth (data_length c)) (data-from c frame 0 c.depth ok is some.0 (omega arith))
      ∙ interleaved-all_columns c.depth (data_length c) frame ok.some_depth (is.0 ∙ ok.whole))
]
