-- Where the symbols of bits stand, as blocks go on.
use Rattle.std.proofs.Common.{◌≡◌, ◌<◌, ◌≤◌, ◌+◌, ◌-◌, ◌==◌, ℕ, Bool, true, false, if◌then◌else◌, nat_lt, List, [], ◌∷◌, ◌++◌, length, take, drop, refl, sym, ap, ◌∙◌, subst, arith, length-append, length-take, Option, Some, None}
use Rattle.std.proofs.lemmas.List.{length-map}
use Rattle.std.proofs.lemmas.Bool.Decides.{nat_tests}
use Rattle.tm_config.specs.Configuration.{Configuration}
use Rattle.tm_conv.specs.declared.rates.Rate.{Rate}
use Rattle.tm_conv.specs.Path.{steps_size}
use Rattle.tm_viterbi.specs.WindowBlock.{WindowBlock}
use Rattle.tm_viterbi.specs.Clean.{kept_bits}
use Rattle.tm_windows.specs.Windows.{AreFirstIn, dropped_of, dropped_to, kept_of}
use Rattle.tm_inner.specs.Inner.{AreInnerBlocks, BlocksAt, bits_at, inner_bits, soft_octets, windows_of}
use Rattle.tm_inner.specs.Receiving.{AreInnerFirst, FirstAt}
use Rattle.tm_inner.specs.SymbolPlaces.{origin_by, symbol_at, symbols_before}
use Rattle.tm_inner.proofs.SymbolPlaces.{symbol-stays}
use Rattle.tm_inner.proofs.DueBits.{StandFirst, StayClosed, soft-more}

-- blocks keep no more bits than steps
pub bits-kept : (blocks : List WindowBlock) → length (kept_bits blocks) ≤ kept_of blocks
bits-kept [] = omega arith
bits-kept (block ∷ blocks) =
    omega (
      arith,
      bits-kept blocks,
      length-append (take block.kept block.bits) (kept_bits blocks),
      few block.kept block.bits,
    )
  where
    few : (n : ℕ) (xs : List ℕ) → length (take n xs) ≤ n
    few n xs = omega (arith, length-take n xs)

pub dropped-of_append : (blocks more : List WindowBlock) → dropped_of (blocks ++ more)
    ≡ dropped_of blocks + dropped_of more
dropped-of_append [] more = omega arith
dropped-of_append (block ∷ blocks) more = omega (arith, dropped-of_append blocks more)

-- behind all windows of which one keeps it those after them count
pub dropped-after : (blocks more : List WindowBlock) (n : ℕ) → kept_of blocks ≤ n
    → dropped_to (blocks ++ more) n ≡ dropped_of blocks + dropped_to more (n - kept_of blocks)
dropped-after [] more n above =
    let same : n - 0 ≡ n = omega arith in omega (arith, ap (dropped_to more) same)
dropped-after (block ∷ blocks) more n above = go (nat_lt n block.kept)
    (λ yes. let before : n < block.kept = grind (arith, nat_tests) in absurd (omega (arith, above, before)))
    (dropped-after blocks more (n - block.kept) (omega (arith, above)))
    (omega arith)
  where
    go : (here : Bool) → (here ≡ true → ⊥)
        → dropped_to (blocks ++ more) (n - block.kept)
        ≡ dropped_of blocks + dropped_to more (n - block.kept - kept_of blocks)
        → n - block.kept - kept_of blocks ≡ n - (block.kept + kept_of blocks)
        → block.dropped + (if here then 0 else dropped_to (blocks ++ more) (n - block.kept))
        ≡ block.dropped + dropped_of blocks + dropped_to more (n - (block.kept + kept_of blocks))
    go true never same rest = absurd (never refl)
    go false never same rest = omega (arith, same, ap (dropped_to more) rest)

pub dropped-most : (blocks : List WindowBlock) (n : ℕ) → dropped_to blocks n ≤ dropped_of blocks
dropped-most [] n = omega arith
dropped-most (block ∷ blocks) n = go (nat_lt n block.kept) (dropped-most blocks (n - block.kept))
  where
    go : (here : Bool) → dropped_to blocks (n - block.kept) ≤ dropped_of blocks
        → block.dropped + (if here then 0 else dropped_to blocks (n - block.kept))
        ≤ block.dropped + dropped_of blocks
    go true most = omega arith
    go false most = omega (arith, most)

-- before any but the first of these nothing was dropped
pub dropped-first : (blocks : List WindowBlock) (n : ℕ) → dropped_of (drop 1 blocks) ≡ 0
    → dropped_to blocks n ≡ dropped_of blocks
dropped-first [] n none = refl
dropped-first (block ∷ blocks) n none =
    go (nat_lt n block.kept) (dropped-most blocks (n - block.kept))
  where
    go : (here : Bool) → dropped_to blocks (n - block.kept) ≤ dropped_of blocks
        → block.dropped + (if here then 0 else dropped_to blocks (n - block.kept))
        ≡ block.dropped + dropped_of blocks
    go true most = omega (arith, none)
    go false most = omega (arith, none, most)

-- ---- where the symbol of a bit stands

pub at-coded : (c : Configuration) (rate : Rate) (phase : ℕ) (blocks : List WindowBlock) (n : ℕ) → c.inner ≡ Some rate
    → symbol_at c phase blocks n ≡ c.skip + phase + dropped_to blocks n + steps_size rate 0 n
at-coded c rate phase blocks n is =
    ap (λ (o : Option Rate). origin_by o c phase (dropped_to blocks n) + symbols_before o n) is

pub at-plain : (c : Configuration) (phase : ℕ) (blocks : List WindowBlock) (n : ℕ) → c.inner ≡ None
    → symbol_at c phase blocks n ≡ c.skip + n
at-plain c phase blocks n is =
    ap (λ (o : Option Rate). origin_by o c phase (dropped_to blocks n) + symbols_before o n) is

-- ---- of octets and more of them

-- the symbols of the bits of first blocks are those of all
whole-by : StandFirst → (rate : Option Rate) (c : Configuration) (phase : ℕ) (octets : List ℕ)
    (first blocks : List WindowBlock) (left : ℕ) → c.inner ≡ rate → FirstAt rate c phase octets first
    → BlocksAt rate c phase octets blocks left → (n : ℕ) → n < length (bits_at rate c octets first)
    → symbol_at c phase first n ≡ symbol_at c phase blocks n
whole-by stand None c phase octets first blocks left is are all n below =
    at-plain c phase first n is ∙ sym (at-plain c phase blocks n is)
whole-by stand (Some rate) c phase octets first blocks left is are all n below =
    let split = stand (windows_of c rate) (soft_octets c phase octets) first blocks left are all in
    sym (ap (λ (l : List WindowBlock). symbol_at c phase l n) split.1
    ∙ symbol-stays c phase n first split.0
    (omega (arith, below, bits-kept first, length-map (kept_bits first) (λ bit. bit == 1))))

-- they stay, whatever octets come
first-by : StayClosed → StandFirst → (rate : Option Rate) (c : Configuration) (phase : ℕ)
    (octets more : List ℕ) (first blocks : List WindowBlock) (left : ℕ) → c.inner ≡ rate
    → FirstAt rate c phase octets first → BlocksAt rate c phase (octets ++ more) blocks left
    → (n : ℕ) → n < length (bits_at rate c octets first) → symbol_at c phase first n ≡ symbol_at c phase blocks n
first-by stay stand None c phase octets more first blocks left is are all n below =
    at-plain c phase first n is ∙ sym (at-plain c phase blocks n is)
first-by stay stand (Some rate) c phase octets more first blocks left is are all n below =
    let w = windows_of c rate in
    whole-by stand (Some rate) c phase (octets ++ more) first blocks left is
    (subst (λ (l : List ℕ). AreFirstIn w l first) (sym (soft-more c phase octets more))
    (stay w (soft_octets c phase octets) _ first are)) all n below

pub symbols-first : StayClosed → StandFirst → (c : Configuration) (phase : ℕ) (octets more : List ℕ)
    (first blocks : List WindowBlock) (left : ℕ) → AreInnerFirst c phase octets first
    → AreInnerBlocks c phase (octets ++ more) blocks left
    → (n : ℕ) → n < length (inner_bits c octets first) → symbol_at c phase first n ≡ symbol_at c phase blocks n
symbols-first stay stand c phase octets more first blocks left =
    first-by stay stand c.inner c phase octets more first blocks left refl
