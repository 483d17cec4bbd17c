-- Both stages end: the last window, the bits of all octets, and their items.
use Rattle.std.proofs.Common.{◌≡◌, ◌<◌, ◌≤◌, ◌+◌, ◌^◌, ◌==◌, inl, inr, ℕ, Bool, List, [], ◌∷◌, ◌++◌, length, map, drop, refl, sym, ap, ◌∙◌, subst, arith, append_assoc, length-append, Option, Some}
use Rattle.std.proofs.lemmas.List.{append-nil, length-map}
use Rattle.tm_base.specs.Handed.{Handed, Item, items_of, on_handed}
use Rattle.tm_base.proofs.HandedItems.{items_of-append, items_of-items}
use Rattle.tm_config.specs.Accepted.{IsAccepted}
use Rattle.tm_config.specs.Configuration.{Configuration}
use Rattle.tm_conv.specs.declared.rates.Rate.{Rate}
use Rattle.tm_viterbi.specs.WindowBlock.{WindowBlock}
use Rattle.tm_viterbi.specs.Clean.{kept_bits}
use Rattle.tm_windows.specs.declared.choosing.Chosen.{Chosen}
use Rattle.tm_windows.specs.Windows.{dropped_of}
use Rattle.tm_windows.proofs.KeptBits.{followed-keep}
use Rattle.tm_inner.specs.Inner.{AreInnerBlocks, BlocksAt, inner_bits, reported_slips, soft_octets, windows_of}
use Rattle.tm_inner.specs.InnerDecoding.{InnerDecoderStandsFor, InnerDecoding}
use Rattle.tm_inner.specs.Phase.{IsChosen, skip_of, with_phase}
use Rattle.tm_inner.specs.SymbolPlaces.{symbol_at}
use Rattle.tm_inner.proofs.FewBits.{whole-few}
use Rattle.tm_inner.proofs.FollowedBits.{followed-whole_few}
use Rattle.tm_inner.proofs.PhasePieces.{further, with_phase-more}
use Rattle.tm_inner.proofs.ReceivedBits.{length-soft}
use Rattle.tm_channel.specs.Handing.{AreReceived}
use Rattle.tm_channel.specs.Items.{ItemValue, AreItems}
use Rattle.tm_channel.specs.Most.{AreFew}
use Rattle.tm_channel.specs.Origins.{AreAt, place_symbol}
use Rattle.tm_channel.specs.OctetReceiving.{AreKnown, Decoded, HasSymbols, IsEnded, IsSearched, NotesOrigin, Progress, Receives, Searched, Stages, StagesFor, bits_of_blocks}
use Rattle.tm_channel.specs.declared.bit_receiver.BitReceiver.{BitReceiver}
use Rattle.tm_channel.specs.declared.totals.Totals.{Totals}
use Rattle.tm_channel.proofs.FewItems.{ends-few}
use Rattle.tm_channel.proofs.FirstStage.{Ending, NotesRun, Settles, chosen-ended, first-kept, origin-coded}
use Rattle.tm_channel.proofs.FurtherBits.{last-at, phased-items}
use Rattle.tm_channel.proofs.GivenOctets.{behind, read-now}
use Rattle.tm_channel.proofs.Progress.{moved}
use Rattle.tm_channel.proofs.Searched.{RunOf, coded-bits, plain-has, rate-cases, run-has, searched-more, symbols-more}
use Rattle.tm_channel.proofs.Symbols.{at-longer, have-of}

-- ---- all windows but the last were decoded

pub record AtEnd (c : Configuration) (s now : Stages) (given : List ℕ) (blocks : List WindowBlock)
    (done : List (Handed ItemValue)) : Type 0 where
  pub next : List WindowBlock
  pub progress : Progress c now given given (blocks ++ next) [] done
  pub are : done ≡ with_phase now.inner.chosen progress.items
  pub stands : InnerDecoderStandsFor now.inner given (blocks ++ next)
  pub here : IsChosen now.inner.config given now.inner.chosen
  pub choice : IsChosen c given now.inner.chosen

pub at-end : {T : Type 0} (took : T → Handed ItemValue → T → Type 0) (s : Stages) (settled : InnerDecoding)
    (now : Stages) (taker middle : T) → Settles s.inner settled
    → (d : Decoded took (record { inner = settled; bits = s.bits }) now taker middle [])
    → (given : List ℕ) (done : List (Handed ItemValue)) → (stood : StagesFor s given done)
    → AtEnd s.inner.config s now given stood.blocks (done ++ d.more)
at-end took s settled now taker middle settles d given done stood =
    let c = s.inner.config in
    let dec = d.decodes c given given stood.blocks done
    (moved c s settled given given given stood.blocks [] [] done settles.on
    (settles.stands given (stood.blocks ++ []) stood.progress.inner) stood.progress) in
    let stands = subst (InnerDecoderStandsFor now.inner given)
    (append-nil (stood.blocks ++ dec.next)) dec.progress.inner in
    let here = chosen-ended now.inner given (stood.blocks ++ dec.next) stands (d.ended ∙ settles.ended) in
    record {
      next = dec.next;
      progress = dec.progress;
      are = dec.progress.are ∙ ap (λ (o : Option Chosen). with_phase o dec.progress.items)
          (read-now now.inner.has_phase now.inner.chosen dec.all);
      stands = stands;
      here = here;
      choice = subst (λ (k : Configuration). IsChosen k given now.inner.chosen) dec.progress.of.0 here;
    }

-- ---- the last window

-- what is said of it, once it was decoded
pub record LastRun (now last : InnerDecoding) (ready : List WindowBlock) (bits noted : BitReceiver)
    (origin left count : ℕ)
    (slips : Option ℕ) : Type 0 where
  pub ending : Ending now last.queue ready left count slips
  pub chosen : last.chosen ≡ now.chosen
  pub config : last.config ≡ now.config
  pub one : length ready ≤ 1
  pub notes : NotesRun last bits noted origin

none-later : (blocks : List WindowBlock) → length blocks ≤ 1 → dropped_of (drop 1 blocks) ≡ 0
none-later [] one = refl
none-later (x ∷ []) one = refl
none-later (x ∷ y ∷ blocks) one = absurd (omega (arith, one))

-- all blocks have no more bits than octets
whole-bits : (c : Configuration) (rate : Rate) (phase : ℕ) (given : List ℕ) (blocks : List WindowBlock) (left : ℕ)
    → c.inner ≡ Some rate → BlocksAt c.inner c phase given blocks left → length given < 2 ^ 60
    → length (bits_of_blocks blocks) < 2 ^ 60
whole-bits c rate phase given blocks left is are few =
    omega (
      arith,
      followed-whole_few (windows_of c rate) (soft_octets c phase given) blocks left
          (subst (λ (o : Option Rate). BlocksAt o c phase given blocks left) is are),
      length-soft c phase given,
      length-map (kept_bits blocks) (λ bit. bit == 1),
      few,
    )

last-of : (c : Configuration) (now last : InnerDecoding) (ready front : List WindowBlock) (bits noted : BitReceiver)
    (origin left count : ℕ) (slips : Option ℕ) (given : List ℕ) (rate : Rate) → c.inner ≡ Some rate → now.config ≡ c
    → bits.batch.config ≡ c → LastRun now last ready bits noted origin left count slips
    → InnerDecoderStandsFor now given front → IsChosen now.config given now.chosen
    → RunOf c rate (skip_of now.chosen) origin front ready bits noted
last-of c now last ready front bits noted origin left count slips given rate is same of l stands choice =
    let ends = l.ending given front stands choice in
    let rate_is = ap (λ (k : Configuration). k.inner) same ∙ is in
    let k = first-kept now given front rate rate_is stands in
    record {
      rate_is = is;
      notes = l.notes.0;
      noted = subst (λ (v : Configuration). NotesOrigin v bits noted rate origin) of (l.notes.1 rate);
      origin_is = l.notes.2 ∙ origin-coded last rate (dropped_of (front ++ ready))
          (ap (λ (v : Configuration). v.inner) l.config ∙ rate_is) ends.3
          ∙ ap (λ (v : Configuration). v.skip + skip_of last.chosen + dropped_of (front ++ ready)) (l.config ∙ same)
          ∙ ap (λ (o : Option Chosen). c.skip + skip_of o + dropped_of (front ++ ready)) l.chosen;
      few_dropped = l.notes.3;
      later = none-later ready l.one;
      kept = length-map (kept_bits front) (λ bit. bit == 1) ∙ followed-keep k.0 k.2.1.0 k.2.0 front k.2.1.1;
      few = whole-bits now.config rate (skip_of now.chosen) given (front ++ ready) left rate_is ends.0 stands.few;
    }

-- the symbols of all bits are known, before those of the last window are received
last-has : (c : Configuration) (now : Stages) (last : InnerDecoding) (ready front : List WindowBlock)
    (noted : BitReceiver)
    (origin left count : ℕ) (slips : Option ℕ) (given : List ℕ) (done : List (Handed ItemValue))
    → LastRun now.inner last ready now.bits noted origin left count slips → InnerDecoderStandsFor now.inner given front
    → IsChosen now.inner.config given now.inner.chosen → length (inner_bits c given front)
    ≤ length (inner_bits c given (front ++ ready)) → Progress c now given given front [] done
    → HasSymbols noted (length (inner_bits c given (front ++ ready)))
    (symbol_at c (skip_of now.inner.chosen) (front ++ ready))
last-has c now last ready front noted origin left count slips given done l stands choice long p =
    let phase = skip_of now.inner.chosen in
    let all = front ++ ready in
    let at = symbol_at c phase front in
    let then = symbol_at c phase all in
    let bits = inner_bits c given front in
    elim (rate-cases c.inner) as (λ _. HasSymbols noted (length (inner_bits c given all)) then) [
      | inl none ↦ plain-has c phase given all bits now.bits noted p.of.1 none l.notes.0 stands.few long
          (at-longer at then (length bits) (length bits) now.bits.batch.symbols (omega arith)
          (symbols-more c phase given front ready) p.searched.stored)
      | inr coded ↦ (
          let is = coded-bits c coded.0 given front coded.1 in
          subst (λ (b : List Bool). HasSymbols noted (length b) then) (sym (coded-bits c coded.0 given all coded.1))
          (run-has c coded.0 phase origin front ready now.bits noted p.items p.of.1
          (last-of c now.inner last ready front now.bits noted origin left count slips given coded.0 coded.1 p.of.0
          p.of.1 l
          stands choice) (subst (λ (b : List Bool). Searched c at (length b) b now.bits p.items) is p.searched)
          (subst (λ (b : List Bool). AreKnown c.inner c at (length b) now.bits) is p.known)).0
          )
    ]

-- ---- all bits

pub ends : {T : Type 0} (took_phase : T → ℕ → ℕ → T → Type 0) (took : T → ItemValue → T → Type 0) (s : Stages)
    (settled : InnerDecoding) (now : Stages) (last : InnerDecoding) (ready : List WindowBlock)
    (noted after : BitReceiver)
    (origin left : ℕ) (totals : Totals) (taker middle taker_now : T) → Settles s.inner settled
    → (d : Decoded (on_handed took_phase took) (record { inner = settled; bits = s.bits }) now taker middle [])
    → LastRun now.inner last ready now.bits noted origin left totals.bits totals.slips
    → (p : Receives IsSearched IsEnded took noted after middle taker_now (bits_of_blocks ready))
    → (given : List ℕ) (done : List (Handed ItemValue)) → StagesFor s given done
    → AreReceived s.inner.config given (done ++ (d.more ++ map Item p.items)) totals
    × (IsAccepted s.inner.config → AreFew s.inner.config 0 (items_of (d.more ++ map Item p.items)))
ends took_phase took s settled now last ready noted after origin left totals taker middle taker_now settles d l p given
    done stood =
    let c = s.inner.config in
    let chosen = now.inner.chosen in
    let phase = skip_of chosen in
    let e = at-end (on_handed took_phase took) s settled now taker middle settles d given done stood in
    let was = e.progress.items in
    let front = stood.blocks ++ e.next in
    let all = front ++ ready in
    let others = p.items in
    let at = symbol_at c phase front in
    let then = symbol_at c phase all in
    let whole = subst (λ (k : Configuration). AreInnerBlocks k phase given all left
    × (totals.bits ≡ length (inner_bits k given all)) × (totals.slips ≡ reported_slips k all)) e.progress.of.0
    (let it = l.ending given front e.stands e.here in (it.0, it.1, it.2)) in
    let piece = last-at c.inner c phase given front ready left whole.0 in
    let long : length (inner_bits c given front) ≤ length (inner_bits c given all) =
    omega (arith, ap length piece, length-append (inner_bits c given front) (bits_of_blocks ready)) in
    let few_bits : length (inner_bits c given all) < 2 ^ 63 =
    omega (arith, whole-few c phase given all left whole.0, e.stands.few) in
    let it = searched-more IsEnded took c at then now.bits noted after middle taker_now (inner_bits c given front)
    (bits_of_blocks ready) (inner_bits c given all) was e.progress.of.1 l.notes.0 p piece few_bits
    (symbols-more c phase given front ready)
    (last-has c now last ready front noted origin left totals.bits totals.slips given
    (done ++ d.more) l e.stands e.here long
    e.progress) e.progress.searched in
    let items = it.0 in
    let on = behind s now given given given done (done ++ d.more) e.next stood
    (λ k is. d.stays k (settles.on.stays k is)) e.progress in
    let joined = append_assoc stood.blocks e.next ready in
    let before : was ≡ stood.progress.items ++ items_of d.more =
    sym (phased-items chosen was (done ++ d.more) e.are) ∙ items_of-append done d.more
    ∙ ap (λ k. k ++ items_of d.more) (phased-items _ stood.progress.items done stood.progress.are) in (
      record {
        chosen = chosen;
        choice = e.choice;
        items = was ++ others;
        are_items = (
          inner_bits c given all,
          record { blocks = all; left = left; are_blocks = whole.0; are_bits = refl },
          (λ i. record { bits = whole.1 i; slips = whole.2 i }),
          items,
          have-of then (length (inner_bits c given all)) (was ++ others) it.1,
        );
        are = sym (append_assoc done d.more (map Item others)) ∙ further chosen (done ++ d.more) was others e.are;
      },
      λ ok. ends-few s given done chosen (e.next ++ ready) (on.0 ++ map Item ready) left
          (items_of (d.more ++ map Item others)) ok stood e.choice
          (subst (λ k. AreInnerBlocks c phase given k left) joined whole.0)
          (ap (with_phase chosen) (sym joined) ∙ with_phase-more chosen front ready ∙ ap (λ k. k ++ map Item ready) on.1
          ∙ append_assoc (with_phase s.inner.chosen stood.blocks) on.0 (map Item ready))
          (items_of-append on.0 (map Item ready) ∙ (λ i. on.2 i ++ items_of-items ready i))
          (subst (λ k. AreItems c (inner_bits c given k) (stood.progress.items ++ items_of (d.more ++ map Item others)))
          joined (subst (AreItems c (inner_bits c given all))
          (ap (λ k. k ++ others) before ∙ append_assoc stood.progress.items (items_of d.more) others
          ∙ ap (λ k. stood.progress.items ++ k) (sym (items_of-append d.more (map Item others)
          ∙ ap (λ k. items_of d.more ++ k) (items_of-items others)))) items)),
    )
