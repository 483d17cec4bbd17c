-- The bits that a search was given, and the symbols of what it found in them.
use Rattle.std.proofs.Common.{◌≡◌, ◌<◌, ◌≤◌, ◌+◌, ◌-◌, ◌==◌, ◌^◌, ◌⊎◌, inl, inr, ℕ, Bool, true, false, List, [], ◌++◌, length, map, drop, refl, sym, ap, ◌∙◌, subst, arith, length-append, length-drop, Option, Some, None}
use Rattle.std.specs.Option.{is_some}
use Rattle.std.proofs.lemmas.List.{length-map}
use Rattle.tm_config.specs.Configuration.{Configuration}
use Rattle.tm_conv.specs.declared.rates.Rate.{Rate}
use Rattle.tm_conv.specs.Path.{steps_size}
use Rattle.tm_conv.proofs.Sizes.{steps_size-most}
use Rattle.tm_viterbi.specs.WindowBlock.{WindowBlock}
use Rattle.tm_viterbi.specs.Clean.{kept_bits}
use Rattle.tm_windows.specs.declared.choosing.Chosen.{Chosen}
use Rattle.tm_windows.specs.Windows.{dropped_of, dropped_to, kept_of}
use Rattle.tm_inner.specs.Inner.{bits_at, inner_bits, plain_bits}
use Rattle.tm_inner.specs.Phase.{skip_of}
use Rattle.tm_inner.specs.SymbolPlaces.{symbol_at}
use Rattle.tm_inner.proofs.PlainBits.{plain-few}
use Rattle.tm_inner.proofs.SymbolPlaces.{symbol-stays}
use Rattle.tm_channel.specs.Items.{ItemValue}
use Rattle.tm_channel.specs.Origins.{AreAt, AreSpaced, Noted, origin_at, place_symbol, symbol_by}
use Rattle.tm_channel.specs.OctetReceiving.{AreKnown, HasSymbols, IsSearched, Notes, NotesOrigin, Receives, Searched, bits_of_blocks}
use Rattle.tm_channel.specs.declared.bit_receiver.BitReceiver.{BitReceiver}
use Rattle.tm_channel.proofs.KeptSymbols.{stands-noted}
use Rattle.tm_channel.proofs.ReceivedPieces.{all_bits-append}
use Rattle.tm_channel.proofs.SymbolPlaces.{at-coded, at-plain, bits-kept, dropped-after, dropped-first, dropped-most, dropped-of_append}
use Rattle.tm_channel.proofs.Symbols.{at-longer}

-- ---- with an inner code, and with none

pub some-rate : (o : Option Rate) → is_some o ≡ true → (rate : Rate) × (o ≡ Some rate)
some-rate None some = absurd cc
some-rate (Some rate) some = (rate, refl)

pub no-rate : (o : Option Rate) → is_some o ≡ false → o ≡ None
no-rate None none = refl
no-rate (Some rate) none = absurd cc

pub rate-cases : (o : Option Rate) → (o ≡ None) ⊎ ((rate : Rate) × (o ≡ Some rate))
rate-cases None = inl refl
rate-cases (Some rate) = inr (rate, refl)

-- the bits are those of blocks, or of octets
pub coded-bits : (c : Configuration) (rate : Rate) (taken : List ℕ) (blocks : List WindowBlock) → c.inner ≡ Some rate
    → inner_bits c taken blocks ≡ bits_of_blocks blocks
coded-bits c rate taken blocks is = ap (λ (o : Option Rate). bits_at o c taken blocks) is

pub plain-bits : (c : Configuration) (taken : List ℕ) (blocks : List WindowBlock) → c.inner ≡ None
    → inner_bits c taken blocks ≡ drop c.skip (plain_bits c taken)
plain-bits c taken blocks none = ap (λ (o : Option Rate). bits_at o c taken blocks) none

-- ---- symbols that stay

-- as blocks go on
pub symbols-more : (c : Configuration) (phase : ℕ) (taken : List ℕ) (blocks more : List WindowBlock) (n : ℕ)
    → n < length (inner_bits c taken blocks) → symbol_at c phase (blocks ++ more) n ≡ symbol_at c phase blocks n
symbols-more c phase taken blocks more n below = elim (rate-cases c.inner) as
    (λ _. symbol_at c phase (blocks ++ more) n ≡ symbol_at c phase blocks n) [
      | inl none ↦ at-plain c phase (blocks ++ more) n none ∙ sym (at-plain c phase blocks n none)
      | inr some ↦ symbol-stays c phase n blocks more (omega (
        arith,
        below,
        ap (λ (o : Option Rate). length (bits_at o c taken blocks)) some.1,
        length-map (kept_bits blocks) (λ bit. bit == 1),
        bits-kept blocks,
      ))
    ]

-- as the phase is chosen, before which there are no blocks
pub symbols-chosen : (c : Configuration) (before now : Option Chosen) (taken : List ℕ) (blocks : List WindowBlock)
    → (now ≡ before) ⊎ (blocks ≡ []) → (n : ℕ) → n < length (inner_bits c taken blocks)
    → symbol_at c (skip_of now) blocks n ≡ symbol_at c (skip_of before) blocks n
symbols-chosen c before now taken blocks (inl is) n below = ap
    (λ (o : Option Chosen). symbol_at c (skip_of o) blocks n) is
symbols-chosen c before now taken blocks (inr none) n below = elim (rate-cases c.inner) as
    (λ _. symbol_at c (skip_of now) blocks n ≡ symbol_at c (skip_of before) blocks n) [
      | inl plain ↦ at-plain c (skip_of now) blocks n plain ∙ sym (at-plain c (skip_of before) blocks n plain)
      | inr some ↦ absurd (omega (
        arith,
        below,
        ap (λ (o : Option Rate). length (bits_at o c taken blocks)) some.1,
        ap (λ (l : List WindowBlock). length (bits_of_blocks l)) none,
      ))
    ]

pub searched-same : (c : Configuration) (at then : ℕ → ℕ) (count : ℕ) (bits : List Bool) (r : BitReceiver)
    (items : List ItemValue) → ((n : ℕ) → n < count → then n ≡ at n) → Searched c at count bits r items
    → Searched c then count bits r items
searched-same c at then count bits r items same s = record {
  stands = s.stands;
  are_items = s.are_items;
  stored = at-longer at then count count r.batch.symbols (omega arith) same s.stored;
  said = at-longer at then count count (map place_symbol items) (omega arith) same s.said;
}

pub known-same : (rate : Option Rate) (c : Configuration) (at then : ℕ → ℕ) (count : ℕ) (r : BitReceiver)
    → ((n : ℕ) → n < count → then n ≡ at n) → AreKnown rate c at count r → AreKnown rate c then count r
known-same None c at then count r same known = tt
known-same (Some rate) c at then count r same known =
    (known.0, λ n above below. known.1 n above below ∙ sym (same n below))

-- ---- further bits

-- an origin may have been noted before them; all symbols are known then
pub searched-more : {T : Type 0}
    (Is : Configuration → (ℕ → ℕ) → ℕ → List Bool → BitReceiver → List ItemValue → Type 0)
    (took : T → ItemValue → T → Type 0) (c : Configuration) (at then : ℕ → ℕ)
    (r m now : BitReceiver) (taker taker_now : T) (bits piece all : List Bool) (items : List ItemValue)
    → r.batch.config ≡ c → Notes r m → (p : Receives IsSearched Is took m now taker taker_now piece)
    → all ≡ bits ++ piece → length all < 2 ^ 63 → ((n : ℕ) → n < length bits → then n ≡ at n)
    → HasSymbols m (length all) then → Searched c at (length bits) bits r items
    → Is c then (length all) all now (items ++ p.items)
searched-more Is took c at then r m now taker taker_now bits piece all items of notes p is few same has s =
    let both = bits ++ piece in
    let count = length both in
    let has_both = subst (λ (l : List Bool). HasSymbols m (length l) then) is has in
    subst (λ (l : List Bool). Is c then (length l) l now (items ++ p.items)) (sym is)
    (subst (λ (k : Configuration). Searched k then count bits m items → Is k then count both now (items ++ p.items))
    (ap (λ (v : BitReceiver). v.batch.config) notes ∙ of)
    (λ was. p.on bits items count then (omega (arith, few, ap length is)) (omega arith) (was, has_both)) (record {
      stands = stands-noted r m bits notes s.stands;
      are_items = s.are_items;
      stored = has_both.stored;
      said = at-longer at then (length bits) count (map place_symbol items)
          (omega (arith, length-append bits piece)) same
          s.said;
    }))

-- ---- the bits of a run of windows

-- an origin was noted before them
pub record RunOf (c : Configuration) (rate : Rate) (phase origin : ℕ) (done ready : List WindowBlock)
    (r m : BitReceiver)
    : Type 0 where
  pub rate_is : c.inner ≡ Some rate
  pub notes : Notes r m
  pub noted : NotesOrigin c r m rate origin
  pub origin_is : origin ≡ c.skip + phase + dropped_of (done ++ ready)
  pub few_dropped : origin < 2 ^ 63 + 2 ^ 62
  pub later : dropped_of (drop 1 ready) ≡ 0
  pub kept : length (bits_of_blocks done) ≡ kept_of done
  pub few : length (bits_of_blocks (done ++ ready)) < 2 ^ 60

-- they stand after the origin
in-run : (c : Configuration) (rate : Rate) (phase origin : ℕ) (done ready : List WindowBlock) (r m : BitReceiver)
    → RunOf c rate phase origin done ready r m → (n : ℕ) → length (bits_of_blocks done) ≤ n
    → symbol_at c phase (done ++ ready) n ≡ origin + steps_size rate 0 n
in-run c rate phase origin done ready r m run n above =
    let here : dropped_to (done ++ ready) n ≡ dropped_of (done ++ ready) =
    dropped-after done ready n (omega (arith, above, run.kept))
    ∙ ap (λ k. dropped_of done + k) (dropped-first ready (n - kept_of done) run.later)
    ∙ sym (dropped-of_append done ready) in
    at-coded c rate phase (done ++ ready) n run.rate_is ∙ omega (arith, here, run.origin_is)

-- no symbol is beyond what is counted
fits-run : (c : Configuration) (rate : Rate) (phase origin : ℕ) (done ready : List WindowBlock) (r m : BitReceiver)
    → RunOf c rate phase origin done ready r m → (n : ℕ) → n < length (bits_of_blocks (done ++ ready))
    → symbol_at c phase (done ++ ready) n < 2 ^ 64
fits-run c rate phase origin done ready r m run n below =
    omega (
      arith,
      at-coded c rate phase (done ++ ready) n run.rate_is,
      dropped-most (done ++ ready) n,
      steps_size-most rate 0 n,
      run.origin_is,
      run.few_dropped,
      run.few,
      below,
    )

-- the symbols of all bits are known, before those of the run are received
pub run-has : (c : Configuration) (rate : Rate) (phase origin : ℕ) (done ready : List WindowBlock) (r m : BitReceiver)
    (items : List ItemValue) → r.batch.config ≡ c → RunOf c rate phase origin done ready r m
    → Searched c (symbol_at c phase done) (length (bits_of_blocks done)) (bits_of_blocks done) r items
    → AreKnown c.inner c (symbol_at c phase done) (length (bits_of_blocks done)) r
    → HasSymbols m (length (bits_of_blocks (done ++ ready))) (symbol_at c phase (done ++ ready))
    × ((to : ℕ) → length (bits_of_blocks done) + c.keep ≤ to → AreSpaced c.keep to m.origins.origins)
run-has c rate phase origin done ready r m items of run s known =
    let at = symbol_at c phase done in
    let then = symbol_at c phase (done ++ ready) in
    let count = length (bits_of_blocks done) in
    let more = length (bits_of_blocks (done ++ ready)) in
    let long : count ≤ more = omega (
      arith,
      ap length (all_bits-append done ready),
      length-append (bits_of_blocks done) (bits_of_blocks ready),
    ) in
    let before : (n : ℕ) → n < count → then n ≡ at n =
    λ n below. symbol-stays c phase n done ready (omega (arith, below, run.kept)) in
    let note = run.noted run.rate_is (bits_of_blocks done) at then (omega (arith, long, run.few)) s.stands
    (subst (λ (o : Option Rate). AreKnown o c at count r) run.rate_is known) before
    (in-run c rate phase origin done ready r m run) in (
      subst (λ (v : BitReceiver). HasSymbols v more then) (sym run.notes) (record {
        stored = at-longer at then count more r.batch.symbols long before s.stored;
        left = λ n above.
            ap (λ (k : Configuration). symbol_by k.inner k (origin_at m.origins.origins n) n) of
            ∙ ap (λ (o : Option Rate). symbol_by o c (origin_at m.origins.origins n) n) run.rate_is ∙ note.0 n above;
        fit = fits-run c rate phase origin done ready r m run;
        few = λ some. omega (arith, run.few);
      }),
      note.1,
    )

-- where its windows are closed, so that they keep as many bits as they are to, symbols are known on
pub run-known : (c : Configuration) (rate : Rate) (at : ℕ → ℕ) (count : ℕ) (m now : BitReceiver) → c.inner ≡ Some rate
    → now.batch.config ≡ c → now.origins ≡ m.origins → AreSpaced c.keep count m.origins.origins
    → HasSymbols now count at → AreKnown c.inner c at count now
run-known c rate at count m now is of origins spaced has =
    let known : AreKnown (Some rate) c at count now = (
      subst (λ (o : Noted). AreSpaced c.keep count o.origins) (sym origins) spaced,
      λ n above below.
          ap (λ (o : Option Rate). symbol_by o c (origin_at now.origins.origins n) n) (sym is)
          ∙ ap (λ (k : Configuration). symbol_by k.inner k (origin_at now.origins.origins n) n) (sym of)
          ∙ has.left n above,
    ) in
    subst (λ (o : Option Rate). AreKnown o c at count now) (sym is) known

-- ---- with no inner code

-- the symbols are told by nothing but the bit
pub plain-has : (c : Configuration) (phase : ℕ) (all : List ℕ) (blocks : List WindowBlock) (bits : List Bool)
    (r m : BitReceiver) → r.batch.config ≡ c → c.inner ≡ None → Notes r m → length all < 2 ^ 60
    → length bits ≤ length (inner_bits c all blocks) → AreAt (symbol_at c phase blocks) (length bits) r.batch.symbols
    → HasSymbols m (length (inner_bits c all blocks)) (symbol_at c phase blocks)
plain-has c phase all blocks bits r m of none notes few within stored =
    let at = symbol_at c phase blocks in
    let count = length (inner_bits c all blocks) in
    subst (λ (v : BitReceiver). HasSymbols v count at) (sym notes) (record {
      stored = at-longer at at (length bits) count r.batch.symbols within (λ n below. refl) stored;
      left = λ n above.
          ap (λ (k : Configuration). symbol_by k.inner k (origin_at m.origins.origins n) n) of
          ∙ ap (λ (o : Option Rate). symbol_by o c (origin_at m.origins.origins n) n) none
          ∙ sym (at-plain c phase blocks n none);
      fit = λ n below.
          omega (
            arith,
            at-plain c phase blocks n none,
            below,
            ap length (plain-bits c all blocks none),
            length-drop c.skip (plain_bits c all),
            plain-few c all,
            few,
          );
      few = λ some. absurd (let no : is_some r.batch.config.inner ≡ false =
          ap (λ (k : Configuration). is_some k.inner) of ∙ ap is_some none in
          let both : true ≡ false = sym some ∙ no in cc);
    })
