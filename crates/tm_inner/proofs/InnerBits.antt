-- The bits that octets come to, and those of octets that were sent and not disturbed.
use Rattle.std.proofs.Common.{◌≡◌, ℕ, zero, suc, ◌+◌, ◌-◌, ◌%◌, ◌<◌, ◌≤◌, ◌==◌, cond, Bool, true, false, List, [], ◌∷◌, length, drop, map, refl, sym, ap, ◌∙◌, subst, arith, if◌then◌else◌, Option, Some, None, ◌⊎◌, inl, inr}
use Rattle.std.specs.Option.{ForSome}
use Rattle.std.proofs.lemmas.List.{length-map}
use Rattle.std.proofs.lemmas.List.Elements.{All-cons, All-nil}
use Rattle.tm_base.specs.Bits.{bits_of, bit_number}
use Rattle.tm_base.proofs.Packing.{length-bits_of}
use Rattle.tm_config.specs.Configuration.{Configuration, is_signed}
use Rattle.tm_config.specs.declared.values.SoftForm.{SoftForm}
use Rattle.tm_config.specs.declared.values.SoftForm.TheVariants.{Unsigned, Signed}
use Rattle.tm_config.specs.Accepted.{IsAccepted}
use Rattle.tm_conv.specs.declared.rates.Rate.{Rate}
use Rattle.tm_conv.specs.declared.rates.Rate.TheVariants.{R12}
use Rattle.tm_conv.specs.Path.{AreBits}
use Rattle.tm_conv.specs.Cost.{sure}
use Rattle.tm_conv.specs.Encoding.{bit_numbers, sent_for, level, levels}
use Rattle.tm_viterbi.specs.declared.block.Start.{Start}
use Rattle.tm_viterbi.specs.declared.block.Start.TheVariants.{Zero, Any}
use Rattle.tm_viterbi.specs.Settings.{Settings}
use Rattle.tm_viterbi.specs.WindowBlock.{WindowBlock}
use Rattle.tm_viterbi.specs.Blocks.{AreBlocksOf}
use Rattle.tm_viterbi.specs.Clean.{IsFixed, AreClean, sure_symbols}
use Rattle.tm_windows.specs.Slip.{steps_seen}
use Rattle.tm_windows.specs.Windows.{Windows, AreBlocksIn, IsSeen}
use Rattle.tm_windows.proofs.Undisturbed.{sure-blocks}
use Rattle.tm_inner.specs.Inner.{IsStartKnown, settings_of, windows_of, soft_value, soft_octets, BlocksAt, AreInnerBlocks, plain_bits, bits_at, inner_bits, Inner}
use Rattle.tm_inner.specs.Symbols.{is_inverted, low_level, plain_symbols, symbols_by, symbols_of_octets}
use Rattle.tm_inner.proofs.PlainBits.{plain-sent}

-- ---- one list of bits

abbrev pub OneBlocks : Type 0
OneBlocks = (w : Windows) (octets : List ℕ) (blocks others : List WindowBlock) (left rest : ℕ)
    → AreBlocksIn w octets blocks left → AreBlocksIn w octets others rest → (blocks ≡ others) × (left ≡ rest)

same-blocks : OneBlocks → (rate : Option Rate) (c : Configuration) (phase : ℕ) (octets : List ℕ)
    (blocks others : List WindowBlock) (left rest : ℕ)
    → BlocksAt rate c phase octets blocks left → BlocksAt rate c phase octets others rest → blocks ≡ others
same-blocks one None c phase octets blocks others left rest p q = p.0 ∙ sym q.0
same-blocks one (Some rate) c phase octets blocks others left rest p q =
    (one (windows_of c rate) (soft_octets c phase octets) blocks others left rest p q).0

pub only_blocks : OneBlocks → (c : Configuration) (phase : ℕ) (octets : List ℕ) (blocks others : List WindowBlock)
    (left rest : ℕ)
    → AreInnerBlocks c phase octets blocks left → AreInnerBlocks c phase octets others rest → blocks ≡ others
only_blocks one c = same-blocks one c.inner c

pub only_bits : OneBlocks → (c : Configuration) (phase : ℕ) (octets : List ℕ) (bits others : List Bool)
    → Inner c phase octets bits → Inner c phase octets others → bits ≡ others
only_bits one c phase octets bits others p q =
    p.are_bits ∙ ap (bits_at c.inner c octets) (same-blocks one c.inner c phase octets p.blocks q.blocks p.left q.left
    p.are_blocks q.are_blocks) ∙ sym q.are_bits

-- ---- some list of bits

-- octets have blocks
abbrev pub HasBlocks : Type 0
HasBlocks =
    (w : Windows) (octets : List ℕ) → 0 < w.settings.keep → IsSeen w → (blocks : List WindowBlock) × (left : ℕ)
    × AreBlocksIn w octets blocks left

-- a window that is closed has been looked at
seen-by : (follow : Bool) (keep ahead : ℕ) → 64 ≤ keep
    → ForSome (if follow then Some (steps_seen keep ahead) else None)
    (λ steps. (1 ≤ steps) × (steps + 8 ≤ keep + ahead))
seen-by false keep ahead wide = λ steps is. absurd cc
seen-by true keep ahead wide =
    λ steps is. let e : steps_seen keep ahead ≡ steps = cc in (omega (arith, e, wide), omega (arith, e, wide))

pub seen-of : (c : Configuration) (rate : Rate) → 64 ≤ c.keep → IsSeen (windows_of c rate)
seen-of c rate wide = seen-by c.follow c.keep c.ahead wide

blocks-at : HasBlocks → (rate : Option Rate) (c : Configuration) (phase : ℕ) (octets : List ℕ) → 64 ≤ c.keep
    → (blocks : List WindowBlock) × (left : ℕ) × BlocksAt rate c phase octets blocks left
blocks-at exists None c phase octets wide = ([], 0, (refl, refl))
blocks-at exists (Some rate) c phase octets wide =
    exists (windows_of c rate) (soft_octets c phase octets) (omega (arith, wide)) (seen-of c rate wide)

pub has_blocks : HasBlocks → (c : Configuration) (phase : ℕ) (octets : List ℕ) → IsAccepted c
    → (blocks : List WindowBlock) × (left : ℕ) × AreInnerBlocks c phase octets blocks left
has_blocks exists c phase octets ok = blocks-at exists c.inner c phase octets ok.some_keep

pub has_bits : HasBlocks → (c : Configuration) (phase : ℕ) (octets : List ℕ) → IsAccepted c → (bits : List Bool)
    × Inner c phase octets bits
has_bits exists c phase octets ok =
    let h = has_blocks exists c phase octets ok in
    (inner_bits c octets h.0, record { blocks = h.0; left = h.1; are_blocks = h.2; are_bits = refl })

-- ---- octets that were sent

-- the soft form undone
value-sent : (c : Configuration) (symbol : ℕ) → soft_value c (level (low_level c.soft) symbol)
    ≡ cond (symbol == 0) 0 255
value-sent c symbol = go c.soft (symbol == 0)
  where
    go : (form : SoftForm) (zero_symbol : Bool)
        → (let octet = cond zero_symbol (low_level form) (255 - low_level form) in
        cond (is_signed form) ((octet + 128) % 256) octet)
        ≡ cond zero_symbol 0 255
    go Unsigned true = refl
    go Unsigned false = refl
    go Signed true = refl
    go Signed false = refl

values-sent : (c : Configuration) (symbols : List ℕ) → map (soft_value c) (levels (low_level c.soft) symbols)
    ≡ sure symbols
values-sent c [] = refl
values-sent c (symbol ∷ symbols) = (λ i. value-sent c symbol i ∷ values-sent c symbols i)

pub drop-none : {A : Type 0} (n : ℕ) (xs : List A) → n ≡ 0 → drop n xs ≡ xs
drop-none zero xs none = refl
drop-none (suc n) xs none = absurd (omega arith)

pub AreBits-bit_numbers : (bits : List Bool) → AreBits (bit_numbers bits)
AreBits-bit_numbers [] = All-nil (λ b. b < 2)
AreBits-bit_numbers (bit ∷ bits) =
    All-cons (λ b. b < 2) (bit_number bit) (bit_numbers bits) (small bit) (AreBits-bit_numbers bits)
  where
    small : (bit : Bool) → bit_number bit < 2
    small true = omega arith
    small false = omega arith

numbers-bits : (bits : List Bool) → map (λ bit. bit == 1) (bit_numbers bits) ≡ bits
numbers-bits [] = refl
numbers-bits (true ∷ bits) = ap (λ l. true ∷ l) (numbers-bits bits)
numbers-bits (false ∷ bits) = ap (λ l. false ∷ l) (numbers-bits bits)

pub half-rate : (c : Configuration) (rate : Rate) → c.inner ≡ Some rate → c.inner ≡ Some R12 → rate ≡ R12
half-rate c rate is half = cc

no-rate : (c : Configuration) (rate : Rate) → c.inner ≡ Some rate → c.inner ≡ None → ⊥
no-rate c rate is none = cc

zero_or_any : (start : Start) → (start ≡ Zero) ⊎ (start ≡ Any)
zero_or_any Zero = inl refl
zero_or_any Any = inr refl

pub some-steps : (octets : List ℕ) → (bit_numbers (bits_of octets) ≡ []) ⊎ (6 ≤ length (bit_numbers (bits_of octets)))
some-steps [] = inl refl
some-steps (octet ∷ octets) =
    inr (omega (arith, length-map (bits_of (octet ∷ octets)) bit_number, length-bits_of (octet ∷ octets)))

fixed : (c : Configuration) (rate : Rate) (octets : List ℕ) → c.inner ≡ Some rate → IsStartKnown c
    → IsFixed (settings_of c rate) 0 (bit_numbers (bits_of octets))
fixed c rate octets is (inl none) = absurd (no-rate c rate is none)
fixed c rate octets is (inr (inl zero_start)) = inl (zero_start, refl)
fixed c rate octets is (inr (inr half)) = elim (zero_or_any c.start) [
  | inl zero_start ↦ inl (zero_start, refl)
  | inr any ↦ inr (any, half-rate c rate is half, omega arith, some-steps octets)
]

-- blocks keep what was sent
abbrev pub CleanBlocks : Type 0
CleanBlocks =
    (s : Settings) (register : ℕ) (bits : List ℕ) (blocks : List WindowBlock) (left : ℕ) → 64 ≤ s.keep → AreBits bits
    → IsFixed s register bits → AreBlocksOf s (sure_symbols s register bits) blocks left → AreClean bits blocks left

-- the soft octets that are decoded are those of the symbols, where none is skipped
pub soft-sent : (c : Configuration) (rate : Rate) (bits : List Bool) → c.skip ≡ 0
    → soft_octets c 0 (symbols_by (Some rate) c bits) ≡ sure_symbols (settings_of c rate) 0 (bit_numbers bits)
soft-sent c rate bits none =
    ap (map (soft_value c)) (drop-none c.skip (symbols_by (Some rate) c bits) none)
    ∙ values-sent c (sent_for rate (is_inverted rate c.invert) bits)

bits-sent : CleanBlocks → (c : Configuration) (rate : Option Rate) (octets : List ℕ) (blocks : List WindowBlock)
    (left : ℕ) → c.inner ≡ rate
    → IsAccepted c → c.skip ≡ 0 → IsStartKnown c → BlocksAt rate c 0 (symbols_by rate c (bits_of octets)) blocks left
    → bits_at rate c (symbols_by rate c (bits_of octets)) blocks ≡ bits_of octets
bits-sent clean c None octets blocks left is ok none known are =
    drop-none c.skip (plain_bits c (plain_symbols c.pack c (bits_of octets))) none ∙ plain-sent c octets
bits-sent clean c (Some rate) octets blocks left is ok none known are =
    let bits = bit_numbers (bits_of octets) in
    let w = windows_of c rate in
    let it = clean (settings_of c rate) 0 bits blocks left ok.some_keep (AreBits-bit_numbers (bits_of octets))
    (fixed c rate octets is known)
    (sure-blocks w 0 bits blocks left (AreBits-bit_numbers (bits_of octets)) (omega arith)
    (subst (λ (l : List ℕ). AreBlocksIn w l blocks left) (soft-sent c rate (bits_of octets) none) are)) in
    ap (map (λ bit. bit == 1)) it.kept ∙ numbers-bits (bits_of octets)

pub bits-clean : CleanBlocks → (c : Configuration) (octets : List ℕ) (bits : List Bool) → IsAccepted c → c.skip ≡ 0
    → IsStartKnown c
    → Inner c 0 (symbols_of_octets c octets) bits → bits ≡ bits_of octets
bits-clean clean c octets bits ok none known it =
    it.are_bits ∙ bits-sent clean c c.inner octets it.blocks it.left refl ok none known it.are_blocks
