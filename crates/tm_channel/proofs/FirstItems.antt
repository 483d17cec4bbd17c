-- Items that are first ones for octets stay first, whatever octets come.
use Rattle.std.proofs.Common.{◌≡◌, ◌==◌, ◌-◌, inl, inr, ℕ, Bool, List, [], ◌∷◌, ◌++◌, length, take, drop, map, refl, sym, ap, ◌∙◌, subst, arith, Option, Some, None}
use Rattle.std.proofs.lemmas.List.{append-nil, map-append, take_all}
use Rattle.tm_base.specs.Handed.{Handed}
use Rattle.tm_config.specs.Configuration.{Configuration}
use Rattle.tm_config.specs.Accepted.{IsAccepted}
use Rattle.tm_conv.specs.declared.rates.Rate.{Rate}
use Rattle.tm_viterbi.specs.WindowBlock.{WindowBlock}
use Rattle.tm_windows.specs.Windows.{AreBlocksIn}
use Rattle.tm_viterbi.specs.Clean.{kept_bits}
use Rattle.tm_inner.specs.Inner.{BlocksAt, plain_bits, bits_at, windows_of, soft_octets, Inner, inner_bits}
use Rattle.tm_inner.specs.Phase.{skip_of}
use Rattle.tm_inner.specs.Receiving.{FirstAt}
use Rattle.tm_inner.specs.SymbolPlaces.{symbol_at}
use Rattle.tm_inner.proofs.FewBits.{first-of-due}
use Rattle.tm_inner.proofs.DueBits.{StayClosed, StandFirst, drop-split, kept-append, soft-more}
use Rattle.tm_inner.proofs.PlainBits.{plain-append}
use Rattle.tm_sync.specs.declared.found.Found.{Found}
use Rattle.tm_codeblock.specs.ReceivedCodeblock.{places_in}
use Rattle.tm_channel.specs.Items.{ItemValue, AreItemsOf, AreFirstItemsOf, AreItems}
use Rattle.tm_channel.specs.declared.totals.Totals.{Totals}
use Rattle.tm_channel.specs.Handing.{AreReceived, AreReceivedDue, AreReceivedFirst, AreReceivedPrefix}
use Rattle.tm_channel.specs.Receive.{Receive, ReceiveDue, ReceiveFirst, ReceivePrefix}
use Rattle.tm_channel.specs.Due.{due_count}
use Rattle.tm_channel.proofs.DueItems.{first-items}
use Rattle.tm_channel.proofs.HandedItems.{OneBlocks}
use Rattle.tm_channel.proofs.ReceivedOctets.{symbols-at}
use Rattle.tm_channel.proofs.Streaming.{first-of}
use Rattle.tm_channel.proofs.SymbolPlaces.{symbols-first}

-- first items are items of as many places
first-take : (c : Configuration) (bits : List Bool) (fs : List Found) (items : List ItemValue)
    → AreFirstItemsOf c bits fs items → AreItemsOf c bits (take (length items) fs) items
first-take c bits fs [] are = tt
first-take c bits [] (item ∷ items) are = absurd are
first-take c bits (f ∷ fs) (item ∷ items) are = (are.0, first-take c bits fs items are.1)

-- the bits of first blocks stand first
bits-first : StayClosed → StandFirst → (rate : Option Rate) (c : Configuration) (phase : ℕ) (octets more : List ℕ)
    (first blocks : List WindowBlock) (left : ℕ)
    → FirstAt rate c phase octets first → BlocksAt rate c phase (octets ++ more) blocks left
    → (rest : List Bool) × (bits_at rate c (octets ++ more) blocks ≡ bits_at rate c octets first ++ rest)
bits-first stay stand None c phase octets more first blocks left is all = (
  drop (c.skip - length (plain_bits c octets)) (plain_bits c more),
  ap (drop c.skip) (plain-append c octets more)
      ∙ drop-split c.skip (plain_bits c octets) (plain_bits c more),
)
bits-first stay stand (Some rate) c phase octets more first blocks left is all =
    let w = windows_of c rate in
    let longer = soft-more c phase octets more in
    let split = stand w _ first blocks left (stay w (soft_octets c phase octets) _ first is)
    (subst (λ (l : List ℕ). AreBlocksIn w l blocks left) longer all) in
    let is_one : ℕ → Bool = λ bit. bit == 1 in (
      map is_one (kept_bits split.0),
      ap (λ l. map is_one (kept_bits l)) split.1
          ∙ ap (map is_one) (kept-append first split.0) ∙ map-append is_one (kept_bits first) (kept_bits split.0),
    )

pub first-stand : StayClosed → StandFirst → (c : Configuration) (phase : ℕ) (octets more : List ℕ)
    (first items : List ItemValue) → IsAccepted c
    → ReceiveFirst c phase octets first → Receive c phase (octets ++ more) items → (rest : List ItemValue)
    × (items ≡ first ++ rest)
first-stand stay stand c phase octets more first items ok prefix all =
    let bits = inner_bits c octets prefix.blocks in
    let split = bits-first stay stand c.inner c phase octets more prefix.blocks all.inner.blocks all.inner.left
    prefix.are_first all.inner.are_blocks in
    first-items c (symbol_at c phase prefix.blocks) (symbol_at c phase all.inner.blocks) bits split.0 (length first) first
    items ok (first-take c bits (places_in c bits) first prefix.are_items) prefix.symbols
    (symbols-first stay stand c phase octets more prefix.blocks all.inner.blocks all.inner.left prefix.are_first
    all.inner.are_blocks)
    (subst (λ (l : List Bool). AreItems c l items) (all.inner.are_bits ∙ split.1) all.are_items) all.symbols

-- those that are due are first ones
pub due-first : (c : Configuration) (phase : ℕ) (octets : List ℕ) (due : List ItemValue)
    → ReceiveDue c phase octets due → ReceiveFirst c phase octets due
due-first c phase octets due p =
    let bits = inner_bits c octets p.blocks in
    record {
      blocks = p.blocks;
      are_first = first-of-due c phase octets p.blocks p.are_due;
      are_items = first-of c bits (due_count c bits) (places_in c bits) due p.are_items;
      symbols = p.symbols;
    }

pub due-stand : StayClosed → StandFirst → (c : Configuration) (phase : ℕ) (octets more : List ℕ)
    (due items : List ItemValue) → IsAccepted c
    → ReceiveDue c phase octets due → Receive c phase (octets ++ more) items → (rest : List ItemValue)
    × (items ≡ due ++ rest)
due-stand stay stand c phase octets more due items ok p all =
    first-stand stay stand c phase octets more due items ok (due-first c phase octets due p) all

-- octets come to one list of bits
abbrev pub OneList : Type 0
OneList =
    (c : Configuration) (phase : ℕ) (octets : List ℕ) (bits others : List Bool) → Inner c phase octets bits
    → Inner c phase octets others → bits ≡ others

pub prefix-stand : OneList → OneBlocks → (c : Configuration) (phase : ℕ) (octets : List ℕ) (first items : List ItemValue)
    → IsAccepted c
    → ReceivePrefix c phase octets first → Receive c phase octets items → (rest : List ItemValue)
    × (items ≡ first ++ rest)
prefix-stand one blocks c phase octets first items ok prefix all =
    let bits = prefix.bits in
    let same : all.bits ≡ bits ++ [] = one c phase octets all.bits bits all.inner prefix.inner
    ∙ sym (append-nil bits) in
    let at = symbol_at c phase all.inner.blocks in
    first-items c at at bits [] (length first) first items ok (first-take c bits
    (places_in c bits) first prefix.are_items)
    (symbols-at blocks c phase octets prefix.bits all.bits first prefix.inner all.inner prefix.symbols)
    (λ n below. refl)
    (subst (λ (l : List Bool). AreItems c l items) same all.are_items) all.symbols

-- ---- what is due, and all of it, where a taker may fail at something of it

-- what is due is first, where there is something
pub handed-first : (c : Configuration) (octets : List ℕ) (handed : List (Handed ItemValue)) → (handed ≡ [] → ⊥)
    → AreReceivedDue c octets handed → AreReceivedFirst c octets handed
handed-first c octets handed some (inl none) = absurd (some none.1)
handed-first c octets handed some (inr due) = (
  due.0,
  record {
    chosen = due.1.chosen;
    choice = due.1.choice;
    items = due.1.items;
    are_items = due-first c (skip_of due.1.chosen) octets due.1.items due.1.are_items;
    are = due.1.are;
  },
)

-- and all of it is a prefix
pub handed-prefix : (c : Configuration) (octets : List ℕ) (handed : List (Handed ItemValue)) (totals : Totals)
    → AreReceived c octets handed totals → AreReceivedPrefix c octets handed
handed-prefix c octets handed totals all =
    let r = all.are_items in
    let fs = places_in c r.0 in
    record {
      chosen = all.chosen;
      choice = all.choice;
      items = all.items;
      are_items = record {
        bits = r.0;
        inner = r.1;
        are_items = first-of c r.0 (length fs) fs all.items
            (subst (λ (l : List Found). AreItemsOf c r.0 l all.items) (sym (take_all (length fs) fs (omega arith))) r.3);
        symbols = r.4;
      };
      are = all.are;
    }
