-- What is handed over for received octets, from the items with each phase.
use Rattle.std.proofs.Common.{◌≡◌, ℕ, Bool, List, ◌++◌, refl, sym, ◌∙◌, subst, Option}
use Rattle.tm_base.specs.Handed.{Handed}
use Rattle.tm_config.specs.Configuration.{Configuration}
use Rattle.tm_windows.specs.declared.choosing.Chosen.{Chosen}
use Rattle.tm_viterbi.specs.WindowBlock.{WindowBlock}
use Rattle.tm_inner.specs.Inner.{AreInnerBlocks, Inner}
use Rattle.tm_inner.specs.Phase.{WithPhase, skip_of}
use Rattle.tm_inner.proofs.WithPhase.{HasPhase, OnePhase, with_phase-exists, with_phase-prefix, with_phase-one, with_phase-settled, with_phase-so_far, one-choice}
use Rattle.tm_inner.proofs.PhasePieces.{PhaseStays}
use Rattle.tm_channel.specs.declared.totals.Totals.{Totals}
use Rattle.tm_channel.specs.Handing.{totals_of, AreReceived, AreReceivedDue, AreReceivedFirst, AreReceivedPrefix}
use Rattle.tm_channel.specs.Items.{ItemValue}
use Rattle.tm_channel.specs.Receive.{Receive, ReceiveDue, ReceiveFirst, ReceivePrefix}

-- items that are received
abbrev pub WithPhaseReceived : Configuration → List ℕ → List (Handed ItemValue) → Type 0
WithPhaseReceived c octets = WithPhase (λ phase. Receive c phase octets) c octets

pub with_phase-received : (c : Configuration) (octets : List ℕ) (handed : List (Handed ItemValue)) (totals : Totals)
    → AreReceived c octets handed totals → WithPhaseReceived c octets handed
with_phase-received c octets handed totals r = record {
  chosen = r.chosen;
  choice = r.choice;
  items = r.items;
  are_items = record {
    bits = r.are_items.0;
    inner = r.are_items.1;
    are_items = r.are_items.3;
    symbols = r.are_items.4;
  };
  are = r.are;
}

pub received-exists : HasPhase → (c : Configuration) (octets : List ℕ)
    → ((phase : ℕ) → (items : List ItemValue) × Receive c phase octets items)
    → (handed : List (Handed ItemValue)) × ((totals : Totals) × AreReceived c octets handed totals)
received-exists has c octets each =
    let all = with_phase-exists (λ phase. Receive c phase octets) has c octets each in
    let r = all.1.are_items in (
      all.0,
      (
        totals_of c r.bits r.inner.blocks,
        record {
          chosen = all.1.chosen;
          choice = all.1.choice;
          items = all.1.items;
          are_items = (r.bits, r.inner, refl, r.are_items, r.symbols);
          are = all.1.are;
        },
      ),
    )

pub received-one : OnePhase → (c : Configuration) (octets : List ℕ) (handed others : List (Handed ItemValue))
    (totals sums : Totals)
    → ((phase : ℕ) (items others : List ItemValue) → Receive c phase octets items → Receive c phase octets others
    → items ≡ others)
    → AreReceived c octets handed totals → AreReceived c octets others sums → handed ≡ others
received-one one c octets handed others totals sums each p q =
    with_phase-one (λ phase. Receive c phase octets) one c octets handed others each
    (with_phase-received c octets handed totals p) (with_phase-received c octets others sums q)

-- octets come to one number of bits, and of slips
abbrev pub OneBits : Type 0
OneBits =
    (c : Configuration) (phase : ℕ) (octets : List ℕ) (list other : List Bool) → Inner c phase octets list
    → Inner c phase octets other → list ≡ other

abbrev pub OneBlocks : Type 0
OneBlocks = (c : Configuration) (phase : ℕ) (octets : List ℕ) (blocks others : List WindowBlock) (left rest : ℕ)
    → AreInnerBlocks c phase octets blocks left → AreInnerBlocks c phase octets others rest → blocks ≡ others

pub received-totals : OnePhase → OneBits → OneBlocks → (c : Configuration) (octets : List ℕ)
    (handed others : List (Handed ItemValue)) (totals sums : Totals)
    → AreReceived c octets handed totals → AreReceived c octets others sums → totals ≡ sums
received-totals one each blocks c octets handed others totals sums p q =
    let same = one-choice one c octets p.chosen q.chosen p.choice q.choice in
    let phase = skip_of q.chosen in
    let first = p.are_items.1 in
    let other = q.are_items.1 in
    let there : Inner c phase octets p.are_items.0 = subst (λ (o : Option Chosen). Inner c
    (skip_of o) octets p.are_items.0) same first in
    let are = subst (λ (o : Option Chosen). AreInnerBlocks c (skip_of o) octets first.blocks first.left) same
    first.are_blocks in
    let bits : p.are_items.0 ≡ q.are_items.0 = each c phase octets p.are_items.0 q.are_items.0 there other in
    let all : first.blocks ≡ other.blocks = blocks c phase octets first.blocks other.blocks first.left other.left are
    other.are_blocks in
    p.are_items.2 ∙ (λ i. totals_of c (bits i) (all i)) ∙ sym q.are_items.2

pub received-due : PhaseStays → OnePhase → (c : Configuration) (octets more : List ℕ)
    (due all : List (Handed ItemValue)) (totals : Totals)
    → ((phase : ℕ) (due items : List ItemValue) → ReceiveDue c phase octets due
    → Receive c phase (octets ++ more) items → (rest : List ItemValue) × (items ≡ due ++ rest))
    → AreReceivedDue c octets due → AreReceived c (octets ++ more) all totals → (rest : List (Handed ItemValue))
    × (all ≡ due ++ rest)
received-due stays one c octets more due all totals each p q =
    with_phase-so_far (λ phase. ReceiveDue c phase octets) (λ phase. Receive c phase (octets ++ more)) stays one c
    octets more due all each p (with_phase-received c (octets ++ more) all totals q)

pub received-first : PhaseStays → OnePhase → (c : Configuration) (octets more : List ℕ)
    (first all : List (Handed ItemValue)) (totals : Totals)
    → ((phase : ℕ) (first items : List ItemValue) → ReceiveFirst c phase octets first
    → Receive c phase (octets ++ more) items → (rest : List ItemValue) × (items ≡ first ++ rest))
    → AreReceivedFirst c octets first → AreReceived c (octets ++ more) all totals → (rest : List (Handed ItemValue))
    × (all ≡ first ++ rest)
received-first stays one c octets more first all totals each p q =
    with_phase-settled (λ phase. ReceiveFirst c phase octets)
    (λ phase. Receive c phase (octets ++ more)) stays one c octets more first all each p
    (with_phase-received c (octets ++ more) all totals q)

pub received-prefix : OnePhase → (c : Configuration) (octets : List ℕ) (prefix all : List (Handed ItemValue))
    (totals : Totals)
    → ((phase : ℕ) (first items : List ItemValue) → ReceivePrefix c phase octets first → Receive c phase octets items
    → (rest : List ItemValue) × (items ≡ first ++ rest))
    → AreReceivedPrefix c octets prefix → AreReceived c octets all totals → (rest : List (Handed ItemValue))
    × (all ≡ prefix ++ rest)
received-prefix one c octets prefix all totals each p q =
    with_phase-prefix (λ phase. ReceivePrefix c phase octets)
    (λ phase. Receive c phase octets) one c octets prefix all each p (with_phase-received c octets all totals q)
