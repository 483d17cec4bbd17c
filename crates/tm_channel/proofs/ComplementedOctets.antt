-- The items of octets that were complemented.
use Rattle.std.proofs.Common.{◌≡◌, ◌<◌, ◌≤◌, ◌+◌, ◌-◌, ◌%◌, ◌==◌, cond, eqb, nat_le, if◌then◌else◌, inl, inr, ℕ, Bool, true, false, List, [], ◌∷◌, ◌++◌, length, drop, map, refl, sym, ap, ◌∙◌, subst, arith, Option, Some, None, ◌⊎◌}
use Rattle.std.proofs.lemmas.List.{length-map, map-append}
use Rattle.std.proofs.lemmas.Bool.{cases_Bool}
use Rattle.std.proofs.lemmas.Bool.Decides.{nat_tests}
use Rattle.tm_base.specs.Bits.{AreOctets, bits_of, bits_of_octet, low_bits, number_of}
use Rattle.tm_base.proofs.Packing.{AreOctets-rest, length-low_bits, low_bits-number_of}
use Rattle.tm_config.specs.Configuration.{Configuration, is_signed}
use Rattle.tm_config.specs.declared.values.SoftForm.{SoftForm}
use Rattle.tm_config.specs.declared.values.SoftForm.TheVariants.{Unsigned, Signed}
use Rattle.tm_config.specs.declared.values.Sought.TheVariants.{Find}
use Rattle.tm_config.specs.Accepted.{IsAccepted}
use Rattle.tm_conv.specs.declared.rates.Rate.{Rate}
use Rattle.tm_conv.specs.declared.rates.Rate.TheVariants.{R12}
use Rattle.tm_conv.specs.Path.{AreBits, complement as complement_numbers}
use Rattle.tm_conv.specs.Cost.{sure}
use Rattle.tm_conv.specs.Encoding.{bit_numbers, sent_for, level, levels}
use Rattle.tm_gf256.proofs.Below.{all_below, same_below}
use Rattle.tm_windows.specs.Windows.{AreBlocksIn, slips_of}
use Rattle.tm_windows.proofs.Undisturbed.{complemented-blocks}
use Rattle.tm_inner.specs.Inner.{settings_of, windows_of, soft_value, soft_octets, BlocksAt, nearest_bit, plain_bits_by, plain_bits, bits_at}
use Rattle.tm_inner.specs.SymbolPlaces.{symbol_at, symbols_before}
use Rattle.tm_inner.proofs.Counted.{whole-slips}
use Rattle.tm_inner.specs.Symbols.{is_inverted, low_level, symbols_by}
use Rattle.tm_inner.proofs.InnerBits.{drop-none, AreBits-bit_numbers, half-rate, some-steps}
use Rattle.tm_sync.specs.Bits.{flip, complement}
use Rattle.tm_sync.proofs.Complemented.{drop-complement, complement-twice}
use Rattle.tm_viterbi.specs.declared.block.Start.TheVariants.{Any}
use Rattle.tm_viterbi.specs.Settings.{Settings}
use Rattle.tm_viterbi.specs.WindowBlock.{WindowBlock}
use Rattle.tm_viterbi.specs.Blocks.{AreBlocksOf}
use Rattle.tm_viterbi.specs.Clean.{AreClean, sure_symbols, complemented_octets}
use Rattle.tm_codeblock.specs.Frames.{whole_frames}
use Rattle.tm_channel.specs.Sent.{cadus, sent}
use Rattle.tm_channel.specs.Items.{ItemValue, AreItems, complemented_item}
use Rattle.tm_channel.specs.Receive.{Receive}
use Rattle.tm_channel.specs.SentStream.{sent_bits, clean_items, found_frames}
use Rattle.tm_channel.proofs.Polarity.{items-complemented}
use Rattle.tm_channel.proofs.CleanStreams.{items-clean}
use Rattle.tm_channel.proofs.ReceivedOctets.{are_frames, bits-sent}
use Rattle.tm_channel.proofs.CleanSymbols.{clean-symbols}
use Rattle.tm_channel.proofs.Symbols.{have-map, have-same}

-- ---- with no inner code

numbers_pass : all_below 256 (λ octet. eqb (number_of (complement (bits_of_octet octet))) (255 - octet)) ≡ true
unfolding low_bits
numbers_pass = refl

-- the bits of an octet complemented
octet-complemented : (octet : ℕ) → octet < 256 → bits_of_octet (255 - octet) ≡ complement (bits_of_octet octet)
octet-complemented octet small =
    let bits = complement (bits_of_octet octet) in
    let long : length (complement (bits_of_octet octet)) ≡ 8 = length-map (bits_of_octet octet) flip
    ∙ length-low_bits 8 octet in
    let same : number_of (complement (bits_of_octet octet)) ≡ 255 - octet =
    same_below 256 (λ octet. number_of (complement (bits_of_octet octet)))
    (λ octet. 255 - octet) numbers_pass octet small in
    (λ i. low_bits (sym long i) (sym same i)) ∙ low_bits-number_of bits

bits-complemented : (octets : List ℕ) → AreOctets octets → bits_of (complemented_octets octets)
    ≡ complement (bits_of octets)
bits-complemented [] are = refl
bits-complemented (octet ∷ octets) are =
    (λ i. octet-complemented octet (are 0 0 (omega arith)) i
    ++ bits-complemented octets (AreOctets-rest octet octets are) i)
    ∙ sym (map-append flip (bits_of_octet octet) (bits_of octets))

-- two values that come to 255 are nearest to different bits
complemented-test : (a b : ℕ) → a + b ≡ 255 → nat_le 128 a ≡ flip (nat_le 128 b)
complemented-test a b sum = elim (cases_Bool (nat_le 128 b)) [
  | inl one ↦ (let other : nat_le 128 a ≡ false = grind (arith, nat_tests) in other ∙ ap flip (sym one))
  | inr none ↦ (let other : nat_le 128 a ≡ true = grind (arith, nat_tests) in other ∙ ap flip (sym none))
]

-- the bit that an octet complemented is nearest to
nearest-complemented : (c : Configuration) (octet : ℕ) → octet < 256
    → nearest_bit c (255 - octet) ≡ flip (nearest_bit c octet)
nearest-complemented c octet small =
    complemented-test (soft_value c (255 - octet)) (soft_value c octet) (go (is_signed c.soft))
  where
    go : (signed : Bool) → (if signed then (255 - octet + 128) % 256 else 255 - octet) +
        (if signed then (octet + 128) % 256 else octet) ≡ 255
    go true = omega arith
    go false = omega arith

all-nearest-complemented : (c : Configuration) (octets : List ℕ) → AreOctets octets
    → map (nearest_bit c) (complemented_octets octets) ≡ complement (map (nearest_bit c) octets)
all-nearest-complemented c [] are = refl
all-nearest-complemented c (octet ∷ octets) are =
    (λ i. nearest-complemented c octet (are 0 0 (omega arith)) i
    ∷ all-nearest-complemented c octets (AreOctets-rest octet octets are) i)

plain-complemented : (pack : Bool) (c : Configuration) (octets : List ℕ) → AreOctets octets
    → plain_bits_by pack c (complemented_octets octets) ≡ complement (plain_bits_by pack c octets)
plain-complemented true c octets are = bits-complemented octets are
plain-complemented false c octets are = all-nearest-complemented c octets are

inner-complemented : (c : Configuration) (rate : Option Rate) (phase : ℕ) (octets : List ℕ)
    (blocks : List WindowBlock) (left : ℕ) → rate ≡ None → AreOctets octets
    → BlocksAt rate c phase octets blocks left
    → BlocksAt rate c phase (complemented_octets octets) blocks left
    × (complement (bits_at rate c octets blocks) ≡ bits_at rate c (complemented_octets octets) blocks)
inner-complemented c None phase octets blocks left none small are = (
  are,
  sym (drop-complement c.skip (plain_bits c octets))
      ∙ ap (drop c.skip) (sym (plain-complemented c.pack c octets small)),
)
inner-complemented c (Some rate) phase octets blocks left none small are = absurd (cc)

pub received-complemented : (c : Configuration) (phase : ℕ) (octets : List ℕ) (items : List ItemValue) → IsAccepted c
    → c.inner ≡ None → c.polarity ≡ Find → AreOctets octets
    → Receive c phase octets items → Receive c phase (complemented_octets octets) (map complemented_item items)
received-complemented c phase octets items ok none find small r =
    let both = inner-complemented c c.inner phase octets r.inner.blocks r.inner.left none small r.inner.are_blocks in
    record {
      bits = complement r.bits;
      inner =
          record {
            blocks = r.inner.blocks;
            left = r.inner.left;
            are_blocks = both.0;
            are_bits = ap complement r.inner.are_bits ∙ both.1;
          };
      are_items = items-complemented c r.bits items ok find r.are_items;
      symbols = have-map (symbol_at c phase r.inner.blocks) complemented_item (λ item. refl) items r.symbols;
    }

-- ---- at rate 1/2

-- the blocks of symbols complemented keep the bits complemented
abbrev pub ComplementedBlocks : Type 0
ComplementedBlocks =
    (s : Settings) (register : ℕ) (bits : List ℕ) (blocks : List WindowBlock) (left : ℕ) → 64 ≤ s.keep → AreBits bits
    → s.start ≡ Any → s.rate ≡ R12 → register < 64 → (bits ≡ []) ⊎ (6 ≤ length bits)
    → AreBlocksOf s (complemented_octets (sure_symbols s register bits)) blocks left
    → AreClean (complement_numbers bits) blocks left

value-complemented : (c : Configuration) (symbol : ℕ) → soft_value c (255 - level (low_level c.soft) symbol)
    ≡ 255 - cond (symbol == 0) 0 255
value-complemented c symbol = go c.soft (symbol == 0)
  where
    go : (form : SoftForm) (zero_symbol : Bool)
        → (let octet = 255 - cond zero_symbol (low_level form) (255 - low_level form) in cond (is_signed form)
        ((octet + 128) % 256) octet)
        ≡ 255 - cond zero_symbol 0 255
    go Unsigned true = refl
    go Unsigned false = refl
    go Signed true = refl
    go Signed false = refl

values-complemented : (c : Configuration) (symbols : List ℕ)
    → map (soft_value c) (complemented_octets (levels (low_level c.soft) symbols))
    ≡ complemented_octets (sure symbols)
values-complemented c [] = refl
values-complemented c (symbol ∷ symbols) = (λ i. value-complemented c symbol i ∷ values-complemented c symbols i)

pub soft-complemented : (c : Configuration) (rate : Rate) (bits : List Bool) → c.skip ≡ 0
    → soft_octets c 0 (complemented_octets (symbols_by (Some rate) c bits))
    ≡ complemented_octets (sure_symbols (settings_of c rate) 0 (bit_numbers bits))
soft-complemented c rate bits none =
    let symbols = sent_for rate (is_inverted rate c.invert) bits in
    ap (map (soft_value c)) (drop-none c.skip (complemented_octets (levels (low_level c.soft) symbols)) none)
    ∙ values-complemented c symbols

pub slips-complemented : (rate : Option Rate) (c : Configuration) (octets : List ℕ) (blocks : List WindowBlock) (left : ℕ)
    → c.skip ≡ 0
    → BlocksAt rate c 0 (complemented_octets (symbols_by rate c (bits_of octets))) blocks left → slips_of blocks ≡ 0
slips-complemented None c octets blocks left none are = ap slips_of are.0
slips-complemented (Some rate) c octets blocks left none are =
    let w = windows_of c rate in
    let bits = bit_numbers (bits_of octets) in
    whole-slips w.settings (complemented_octets (sure_symbols w.settings 0 bits)) blocks left
    (complemented-blocks w 0 bits blocks left (AreBits-bit_numbers (bits_of octets)) (omega arith)
    (subst (λ (l : List ℕ). AreBlocksIn w l blocks left) (soft-complemented c rate (bits_of octets) none) are))

numbers-complemented : (bits : List Bool) → map (λ bit. bit == 1) (complement_numbers (bit_numbers bits))
    ≡ complement bits
numbers-complemented [] = refl
numbers-complemented (true ∷ bits) = ap (λ l. false ∷ l) (numbers-complemented bits)
numbers-complemented (false ∷ bits) = ap (λ l. true ∷ l) (numbers-complemented bits)

pub half-complemented : ComplementedBlocks → (c : Configuration) (rate : Option Rate) (octets : List ℕ)
    (blocks : List WindowBlock)
    (left : ℕ) → c.inner ≡ rate
    → IsAccepted c → c.inner ≡ Some R12 → c.start ≡ Any → c.skip ≡ 0
    → BlocksAt rate c 0 (complemented_octets (symbols_by rate c (bits_of octets))) blocks left
    → bits_at rate c (complemented_octets (symbols_by rate c (bits_of octets))) blocks ≡ complement (bits_of octets)
half-complemented complemented c None octets blocks left is ok half any none are = absurd cc
half-complemented complemented c (Some rate) octets blocks left is ok half any none are =
    let w = windows_of c rate in
    let bits = bit_numbers (bits_of octets) in
    let it = complemented (settings_of c rate) 0 bits blocks left ok.some_keep
    (AreBits-bit_numbers (bits_of octets)) any
    (half-rate c rate is half) (omega arith) (some-steps octets)
    (complemented-blocks w 0 bits blocks left (AreBits-bit_numbers (bits_of octets)) (omega arith)
    (subst (λ (l : List ℕ). AreBlocksIn w l blocks left) (soft-complemented c rate (bits_of octets) none) are)) in
    ap (map (λ bit. bit == 1)) it.kept ∙ numbers-complemented (bits_of octets)

twice-complemented : (item : ItemValue) → complemented_item (complemented_item item) ≡ item
twice-complemented item =
    (λ i. record {
      found = record {
        place = item.found.place;
        distance = item.found.distance;
        bridged = item.found.bridged;
        inverted = twice item.found.inverted i;
      };
      symbol = item.symbol;
      answers = item.answers;
      frame = item.frame;
    })
  where
    twice : (b : Bool) → flip (flip b) ≡ b
    twice true = refl
    twice false = refl

all-twice : (items : List ItemValue) → map complemented_item (map complemented_item items) ≡ items
all-twice [] = refl
all-twice (item ∷ items) = (λ i. twice-complemented item i ∷ all-twice items i)

pub received-half_complemented : ComplementedBlocks → (c : Configuration) (octets : List ℕ) (items : List ItemValue)
    → IsAccepted c → c.inner ≡ Some R12 → c.polarity ≡ Find → c.start ≡ Any → c.skip ≡ 0 → AreOctets octets
    → Receive c 0 (complemented_octets (sent c octets)) items
    → items ≡ map complemented_item (clean_items c 0 (found_frames c (whole_frames c.frame_length octets)))
received-half_complemented complemented c octets items ok half find any none small r =
    let frames = whole_frames c.frame_length octets in
    let bits : r.bits ≡ complement (sent_bits c (whole_frames c.frame_length octets)) =
    r.inner.are_bits ∙ half-complemented complemented c c.inner
    (cadus c octets) r.inner.blocks r.inner.left refl ok half any none r.inner.are_blocks
    ∙ ap complement (bits-sent c octets) in
    let upright : complement r.bits ≡ sent_bits c (whole_frames c.frame_length octets) = ap complement bits
    ∙ complement-twice (sent_bits c frames) in
    sym (all-twice items)
    ∙ ap (map complemented_item) (items-clean c frames (map complemented_item items) ok (are_frames c octets ok small)
    (have-map (symbols_before c.inner) complemented_item (λ item. refl) items
    (have-same (symbol_at c 0 r.inner.blocks) (symbols_before c.inner) items
    (clean-symbols c c.inner r.inner.blocks none
    (slips-complemented c.inner c (cadus c octets) r.inner.blocks r.inner.left none r.inner.are_blocks)) r.symbols))
    (subst (λ (l : List Bool). AreItems c l (map complemented_item items)) upright
    (items-complemented c r.bits items ok find r.are_items)))
