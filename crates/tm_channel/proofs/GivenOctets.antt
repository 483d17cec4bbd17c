-- Stages that are given octets: what waits in the first stage, what is due with a piece, and pieces one after another.
use Rattle.std.proofs.Common.{◌≡◌, ◌==◌, ◌<◌, ◌≤◌, ◌+◌, ◌-◌, ◌^◌, ℕ, inl, inr, if◌then◌else◌, Bool, true, false, List, [], ◌++◌, length, drop, map, refl, sym, ap, ◌∙◌, subst, arith, append_assoc, length-append, Option, Some, None, ◌⊎◌}
use Rattle.std.specs.Option.{is_some}
use Rattle.std.proofs.lemmas.List.{append-nil, length-map}
use Rattle.tm_base.specs.Handed.{Handed, Item, on_handed, items_of}
use Rattle.tm_base.specs.Takers.{HandedOver}
use Rattle.tm_base.proofs.Handing.{HandedOver-append}
use Rattle.tm_base.proofs.HandedItems.{HandedOver-items, items_of-items}
use Rattle.tm_config.specs.Configuration.{Configuration}
use Rattle.tm_config.specs.declared.values.Sought.TheVariants.{Given}
use Rattle.tm_conv.specs.declared.rates.Rate.{Rate}
use Rattle.tm_viterbi.specs.WindowBlock.{WindowBlock}
use Rattle.tm_viterbi.specs.Clean.{kept_bits}
use Rattle.tm_windows.specs.declared.choosing.Chosen.{Chosen}
use Rattle.tm_inner.specs.Inner.{plain_bits, plain_count, bits_at, AreInnerDue, inner_bits}
use Rattle.tm_inner.specs.InnerDecoding.{InnerDecoding, InnerDecoderStandsFor, IsDrained, unread}
use Rattle.tm_inner.specs.Phase.{IsChosen, IsChosenBy, IsChosenSoFar, IsSettled, phase_octets, skip_of, with_phase}
use Rattle.tm_inner.specs.Handing.{AreHandedDue}
use Rattle.tm_inner.specs.Receiving.{HasHanded}
use Rattle.tm_inner.specs.SymbolPlaces.{symbol_at}
use Rattle.tm_inner.proofs.DecoderReads.{handed-due}
use Rattle.tm_inner.proofs.PhasePieces.{items_of-with_phase, so-far, with_phase-more}
use Rattle.tm_channel.specs.Items.{ItemValue, AreItemsOf}
use Rattle.tm_channel.specs.Due.{due}
use Rattle.tm_channel.specs.Handing.{AreReceivedDue}
use Rattle.tm_channel.specs.Origins.{place_symbol}
use Rattle.tm_channel.specs.Receiving.{waiting_bits}
use Rattle.tm_channel.specs.OctetReceiving.{AreKnown, AreSpare, Decoded, Progress, ReceivedAt, Searched, Stages, StagesFor, StagesHand, StagesOn}
use Rattle.tm_channel.specs.declared.bit_receiver.BitReceiver.{BitReceiver}
use Rattle.tm_channel.proofs.FirstStage.{Fills, Stays, drained-plain, phase-stays}
use Rattle.tm_channel.proofs.FurtherBits.{further-at, phased-items}
use Rattle.tm_channel.proofs.PhasedItems.{prefix-nil, same-phase}
use Rattle.tm_channel.proofs.Progress.{due-none-items, moved, plain-step, unread-none, unsettled-none}
use Rattle.tm_channel.proofs.ReceivedPieces.{all_bits, all_bits-append}
use Rattle.tm_channel.proofs.Searched.{coded-bits, no-rate, plain-bits, some-rate, symbols-more}
use Rattle.tm_channel.proofs.Streaming.{due-end, items-more}
use Rattle.tm_channel.proofs.Symbols.{at-longer, have-of}

-- ---- what the first stage has handed over

-- more behind the phase and blocks of before, of which there are none before the choice
phase-then : (before now : Option Chosen) (blocks next : List WindowBlock) → Stays before now
    → (now ≡ before) ⊎ (blocks ≡ [])
    → (last : List (Handed WindowBlock)) × (with_phase now (blocks ++ next) ≡ with_phase before blocks ++ last)
    × (items_of last ≡ next)
phase-then (Some chosen) now blocks next stays same = (
  map Item next,
  ap (λ (o : Option Chosen). with_phase o (blocks ++ next)) (stays chosen refl)
      ∙ with_phase-more (Some chosen) blocks next,
  items_of-items next,
)
phase-then None now blocks next stays (inl is) = (
  map Item next,
  ap (λ (o : Option Chosen). with_phase o (blocks ++ next)) is ∙ with_phase-more None blocks next,
  items_of-items next,
)
phase-then None now blocks next stays (inr none) = (
  with_phase now next,
  ap (λ (l : List WindowBlock). with_phase now (l ++ next)) none
      ∙ ap (λ (l : List WindowBlock). map Item l ++ with_phase now next) (sym none),
  items_of-with_phase now next,
)

pub behind : (s now : Stages) (given longer taken : List ℕ) (done all : List (Handed ItemValue))
    (next : List WindowBlock)
    (stood : StagesFor s given done) → Stays s.inner.chosen now.inner.chosen
    → Progress s.inner.config now longer taken (stood.blocks ++ next) [] all
    → (last : List (Handed WindowBlock))
    × (with_phase now.inner.chosen (stood.blocks ++ next) ≡ with_phase s.inner.chosen stood.blocks ++ last)
    × (items_of last ≡ next)
behind s now given longer taken done all next stood stays p =
    phase-then s.inner.chosen now.inner.chosen stood.blocks next stays
    (elim (phase-stays s.inner now.inner given longer (stood.blocks ++ []) ((stood.blocks ++ next) ++ []) p.of.0 stays
    stood.progress.inner p.inner) as (λ _. (now.inner.chosen ≡ s.inner.chosen) ⊎ (stood.blocks ≡ [])) [
      | inl is ↦ inl is
      | inr none ↦ inr (prefix-nil stood.blocks [] none).0
    ])

-- where all of it was read
pub read-now : (has : Bool) (chosen : Option Chosen) → (if has then None else chosen) ≡ None
    → (if has then chosen else None) ≡ chosen
read-now true chosen all = refl
read-now false chosen all = sym all

has-handed : (c : Configuration) (s : Stages) (given taken : List ℕ) (blocks : List WindowBlock)
    (done : List (Handed ItemValue)) → unread s.inner ≡ None → IsDrained s.inner.queue
    → IsChosenSoFar s.inner.config given s.inner.chosen → Progress c s given taken blocks [] done
    → HasHanded s.inner given (with_phase s.inner.chosen blocks)
has-handed c s given taken blocks done all drained so_far p =
    let d = s.inner in
    let stands = subst (InnerDecoderStandsFor d given) (append-nil blocks) p.inner in
    record {
      read = record {
        blocks = blocks;
        stands = stands;
        read = λ has none. ap (λ (k : Configuration). k.phase) p.of.0 ∙ p.read has none;
        after = λ not. elim stands.choice as (λ _. (blocks ≡ []) ⊎ (d.config.phase ≡ Given)) [
          | inl waits ↦ inl waits.1
          | inr is ↦ inr (subst (IsChosenBy d.config (phase_octets d.config given))
              (unread-none d.has_phase d.chosen all not) is)
        ];
        are = ap (λ (o : Option Chosen). with_phase o blocks) (sym (read-now d.has_phase d.chosen all));
      };
      all = all;
      drained = drained;
      so_far = so_far;
    }

-- ---- stages between two calls

-- all that is due was handed over
stages-due : (s now : Stages) (given longer : List ℕ) (done all : List (Handed ItemValue)) (next : List WindowBlock)
    (stood : StagesFor s given done) → Stays s.inner.chosen now.inner.chosen → now.inner.has_ended ≡ false
    → unread now.inner ≡ None → IsChosenSoFar s.inner.config longer now.inner.chosen → IsDrained now.inner.queue
    → Progress s.inner.config now longer longer (stood.blocks ++ next) [] all
    → StagesOn now longer all (with_phase s.inner.chosen stood.blocks)
stages-due s now given longer done all next stood stays going read so_far drained p =
    let d = now.inner in
    let blocks = stood.blocks ++ next in
    let so_far_now = subst (λ (k : Configuration). IsChosenSoFar k longer d.chosen) (sym p.of.0) so_far in
    let on = behind s now given longer longer done all next stood stays p in (
      record {
        going = going;
        all = read;
        so_far = so_far_now;
        blocks = blocks;
        progress = subst (λ (k : Configuration). Progress k now longer longer blocks [] all) (sym p.of.0) p;
        waiting = [];
        are_due = subst (AreHandedDue d.config longer) (sym (append-nil (with_phase d.chosen blocks)))
            (handed-due d longer (with_phase d.chosen blocks)
            (has-handed s.inner.config now longer longer blocks all read drained so_far_now p));
        few = omega arith;
        none_due = ap (λ (l : List WindowBlock). due d.config (inner_bits d.config longer l)) (append-nil blocks);
      },
      on.0,
      on.1,
    )

-- the bits of buffered blocks too
with-waiting : (rate : Option Rate) (c : Configuration) (given : List ℕ) (blocks waiting : List WindowBlock)
    → (more : List Bool) × (bits_at rate c given (blocks ++ waiting) ≡ bits_at rate c given blocks ++ more)
    × (length more ≤ length (kept_bits waiting))
with-waiting None c given blocks waiting = ([], sym (append-nil (drop c.skip (plain_bits c given))), omega arith)
with-waiting (Some rate) c given blocks waiting = (
  all_bits waiting,
  all_bits-append blocks waiting,
  omega (arith, length-map (kept_bits waiting) (λ bit. bit == 1)),
)

-- the phase is settled, and the blocks that are due and buffered keep at most `spare` bits
abbrev pub IsWaiting : InnerDecoding → ℕ → Type 0
IsWaiting d spare = d.has_ended ≡ false → (given : List ℕ) (blocks : List WindowBlock)
    → InnerDecoderStandsFor d given blocks
    → IsSettled d.config given × IsChosen d.config given d.chosen
    × ((more : List WindowBlock) × (length (kept_bits more) ≤ spare)
    × AreInnerDue d.config (skip_of d.chosen) given (blocks ++ more))

-- what is due besides makes no item due
stages-wait : (s now : Stages) (given longer : List ℕ) (done all : List (Handed ItemValue)) (next : List WindowBlock)
    (spare : ℕ) (stood : StagesFor s given done) → Stays s.inner.chosen now.inner.chosen → now.inner.has_ended ≡ false
    → unread now.inner ≡ None → AreSpare now.bits spare
    → spare ≤ waiting_bits now.bits.batch.config now.bits.batch.config.batch → IsWaiting now.inner spare
    → Progress s.inner.config now longer longer (stood.blocks ++ next) [] all
    → StagesOn now longer all (with_phase s.inner.chosen stood.blocks)
stages-wait s now given longer done all next spare stood stays going read none most waits p =
    let d = now.inner in
    let c = d.config in
    let blocks = stood.blocks ++ next in
    let here = subst (λ (k : Configuration). Progress k now longer longer blocks [] all) (sym p.of.0) p in
    let f = waits going longer blocks (subst (InnerDecoderStandsFor d longer) (append-nil blocks) p.inner) in
    let waiting = f.2.0 in
    let more = with-waiting c.inner c longer blocks waiting in
    let on = behind s now given longer longer done all next stood stays p in (
      record {
        going = going;
        all = read;
        so_far = so-far c (phase_octets c longer) d.chosen f.0 f.1;
        blocks = blocks;
        progress = here;
        waiting = waiting;
        are_due = inr (
          f.0,
          record {
            chosen = d.chosen;
            choice = f.1;
            items = blocks ++ waiting;
            are_items = f.2.2;
            are = sym (with_phase-more d.chosen blocks waiting);
          },
        );
        few = omega (arith, f.2.1, most, ap (λ (k : Configuration). waiting_bits k k.batch) here.of.1);
        none_due = ap (due c) more.1 ∙ subst (λ (k : Configuration). due k (inner_bits c longer blocks ++ more.0)
            ≡ due k (inner_bits c longer blocks)) here.of.1
            (none (inner_bits c longer blocks) more.0 here.searched.stands (omega (arith, more.2, f.2.1)));
      },
      on.0,
      on.1,
    )

-- ---- octets that are put in, and windows decoded, one after another

-- With these octets that much was handed over; the last of them may have been put in, and no window decoded since.
pub record Filled {T : Type 0} (took : T → Handed ItemValue → T → Type 0) (start now : Stages) (taker taker_now : T)
    (octets : List ℕ) : Type 0 where
  pub ended : now.inner.has_ended ≡ start.inner.has_ended
  pub stays : Stays start.inner.chosen now.inner.chosen
  pub more : List (Handed ItemValue)
  pub handed : HandedOver took taker more taker_now
  pub on : (given : List ℕ) (done : List (Handed ItemValue)) → length given + length octets < 2 ^ 60
      → (stood : StagesFor start given done)
      → (next : List WindowBlock) × Progress start.inner.config now (given ++ octets) (given ++ octets)
      (stood.blocks ++ next) [] (done ++ more) × (unread now.inner ≡ None)
      × (is_some start.inner.config.inner ≡ false
      → IsChosenSoFar start.inner.config (given ++ octets) now.inner.chosen)

pub filled-none : {T : Type 0} (took : T → Handed ItemValue → T → Type 0) (s : Stages) (taker : T)
    → Filled took s s taker taker []
filled-none took s taker = record {
  ended = refl;
  stays = λ chosen is. is;
  more = [];
  handed = refl;
  on = λ given done few stood. (
    [],
    subst (λ (l : List ℕ). Progress s.inner.config s l l (stood.blocks ++ []) [] (done ++ [])) (sym (append-nil given))
        (subst (λ (l : List WindowBlock). Progress s.inner.config s given given l [] (done ++ []))
        (sym (append-nil stood.blocks))
        (subst (Progress s.inner.config s given given stood.blocks []) (sym (append-nil done)) stood.progress)),
    stood.all,
    λ _. subst (λ (l : List ℕ). IsChosenSoFar s.inner.config l s.inner.chosen) (sym (append-nil given)) stood.so_far,
  );
}

-- with an inner code no octets count as taken
retaken : (c : Configuration) (s : Stages) (given taken other : List ℕ) (blocks ready : List WindowBlock)
    (done : List (Handed ItemValue)) → is_some c.inner ≡ true → Progress c s given taken blocks ready done
    → Progress c s given other blocks ready done
retaken c s given taken other blocks ready done coded p =
    let rate = some-rate c.inner coded in
    let at = symbol_at c (skip_of s.inner.chosen) blocks in
    let same : inner_bits c taken blocks ≡ inner_bits c other blocks =
    coded-bits c rate.0 taken blocks rate.1 ∙ sym (coded-bits c rate.0 other blocks rate.1) in
    record {
      of = p.of;
      inner = p.inner;
      items = p.items;
      searched = subst (λ (l : List Bool). Searched c at (length l) l s.bits p.items) same p.searched;
      known = subst (λ (l : List Bool). AreKnown c.inner c at (length l) s.bits) same p.known;
      read = p.read;
      first = p.first;
      are = p.are;
    }

pub filled-more : {T : Type 0} (took : T → Handed ItemValue → T → Type 0) (start s : Stages) (now : InnerDecoding)
    (taker taker_now : T) (octets piece : List ℕ) → is_some start.inner.config.inner ≡ true
    → Fills s.inner now piece → Filled took start s taker taker_now octets
    → Filled took start (record { inner = now; bits = s.bits }) taker taker_now (octets ++ piece)
filled-more took start s now taker taker_now octets piece coded fills h = record {
  ended = fills.ended ∙ h.ended;
  stays = λ chosen is. fills.on.stays chosen (h.stays chosen is);
  more = h.more;
  handed = h.handed;
  on = λ given done few stood.
      let c = start.inner.config in
      let all = given ++ octets in
      let was = h.on given done (omega (arith, few, length-append octets piece)) stood in
      let p = was.1 in
      let blocks = stood.blocks ++ was.0 in
      let there = retaken c (record { inner = now; bits = s.bits }) (all ++ piece) all (all ++ piece) blocks []
      (done ++ h.more) coded
      (moved c s now all (all ++ piece) all blocks [] [] (done ++ h.more) fills.on
      (fills.stands all (blocks ++ []) (h.ended ∙ stood.going)
      (omega (arith, few, length-append octets piece, length-append given octets)) p.inner) p) in (
        was.0,
        subst (λ (l : List ℕ). Progress c (record { inner = now; bits = s.bits }) l l blocks [] (done ++ h.more))
            (append_assoc given octets piece) there,
        ap (λ (o : Option Chosen). if now.has_phase then None else o)
            (fills.coded (ap (λ (k : Configuration). is_some k.inner) p.of.0 ∙ coded))
            ∙ ap (λ (b : Bool). if b then None else s.inner.chosen) fills.on.phase ∙ was.2,
        λ plain. absurd (let both = sym plain ∙ coded in cc),
      );
}

pub filled-decoded : {T : Type 0} (took : T → Handed ItemValue → T → Type 0) (start s now : Stages)
    (taker middle taker_now : T) (octets : List ℕ) → Filled took start s taker middle octets
    → Decoded took s now middle taker_now [] → Filled took start now taker taker_now octets
filled-decoded took start s now taker middle taker_now octets h d = record {
  ended = d.ended ∙ h.ended;
  stays = λ chosen is. d.stays chosen (h.stays chosen is);
  more = h.more ++ d.more;
  handed = HandedOver-append took taker middle taker_now h.more d.more h.handed d.handed;
  on = λ given done few stood.
      let c = start.inner.config in
      let all = given ++ octets in
      let was = h.on given done few stood in
      let dec = d.decodes c all all (stood.blocks ++ was.0) (done ++ h.more) was.1 in (
        was.0 ++ dec.next,
        subst (λ (l : List WindowBlock). Progress c now all all l [] (done ++ (h.more ++ d.more)))
            (append_assoc stood.blocks was.0 dec.next)
            (subst (Progress c now all all ((stood.blocks ++ was.0) ++ dec.next) []) (append_assoc done h.more d.more)
            dec.progress),
        dec.all,
        λ _. dec.so_far (h.ended ∙ stood.going),
      );
}

-- all that is due with the octets is handed over
pub filled-due : {T : Type 0} (took : T → Handed ItemValue → T → Type 0) (start s now : Stages)
    (taker middle taker_now : T) (octets : List ℕ) → Filled took start s taker middle octets
    → Decoded took s now middle taker_now [] → IsDrained now.inner.queue
    → StagesHand took start now taker taker_now octets
filled-due took start s now taker middle taker_now octets h d drained =
    let f = filled-decoded took start s now taker middle taker_now octets h d in
    record {
      more = f.more;
      handed = f.handed;
      stands = λ given done few stood.
          let all = given ++ octets in
          let was = h.on given done few stood in
          let is = f.on given done few stood in
          stages-due start now given all done (done ++ f.more) is.0 stood f.stays (f.ended ∙ stood.going) is.2
          ((d.decodes start.inner.config all all (stood.blocks ++ was.0) (done ++ h.more) was.1).so_far
          (h.ended ∙ stood.going)) drained is.1;
    }

-- or it waits
pub filled-wait : {T : Type 0} (took : T → Handed ItemValue → T → Type 0) (start now : Stages) (taker taker_now : T)
    (octets : List ℕ) (spare : ℕ) → Filled took start now taker taker_now octets → AreSpare now.bits spare
    → spare ≤ waiting_bits now.bits.batch.config now.bits.batch.config.batch → IsWaiting now.inner spare
    → StagesHand took start now taker taker_now octets
filled-wait took start now taker taker_now octets spare h none most waits = record {
  more = h.more;
  handed = h.handed;
  stands = λ given done few stood.
      let is = h.on given done few stood in
      stages-wait start now given (given ++ octets) done (done ++ h.more) is.0 spare stood h.stays
      (h.ended ∙ stood.going)
      is.2 none most waits is.1;
}

-- ---- octets that hold the bits themselves

-- the bits of a piece, of which the first are skipped
abbrev pub found_in : Configuration → ℕ → List ℕ → List Bool
found_in c count octets = drop (c.skip - plain_count c count) (plain_bits c octets)

-- a piece more was put in, and its bits were given to the search
pub filled-plain : {T : Type 0} (took_phase : T → ℕ → ℕ → T → Type 0) (took : T → ItemValue → T → Type 0)
    (start s : Stages) (filled : InnerDecoding) (between : Stages) (bits : BitReceiver)
    (taker first middle taker_now : T) (octets piece : List ℕ) → is_some start.inner.config.inner ≡ false
    → Filled (on_handed took_phase took) start s taker first octets → Fills s.inner filled piece
    → Decoded (on_handed took_phase took) (record { inner = filled; bits = s.bits }) between first middle []
    → ReceivedAt took between.bits bits middle taker_now (found_in start.inner.config s.inner.count piece)
    → Filled (on_handed took_phase took) start (record { inner = between.inner; bits = bits }) taker taker_now
    (octets ++ piece)
filled-plain took_phase took start s filled between bits taker first middle taker_now octets piece plain h fills d p =
    let handed = on_handed took_phase took in
    let items = map Item p.items in
    let more = h.more ++ (d.more ++ items) in
    record {
      ended = d.ended ∙ fills.ended ∙ h.ended;
      stays = λ chosen is. d.stays chosen (fills.on.stays chosen (h.stays chosen is));
      more = more;
      handed = HandedOver-append handed taker first taker_now h.more (d.more ++ items) h.handed
          (HandedOver-append handed first middle taker_now d.more items d.handed
          (HandedOver-items took_phase took middle taker_now p.items p.handed));
      on = λ given done few stood.
          let c = start.inner.config in
          let now : Stages = record { inner = between.inner; bits = bits } in
          let before = given ++ octets in
          let all = before ++ piece in
          let none = no-rate c.inner plain in
          let going = h.ended ∙ stood.going in
          let was = h.on given done (omega (arith, few, length-append octets piece)) stood in
          let front = stood.blocks ++ was.0 in
          let dec = d.decodes c all before front (done ++ h.more)
          (moved c s filled before all before front [] [] (done ++ h.more) fills.on
          (fills.stands before (front ++ []) going
          (omega (arith, few, length-append octets piece, length-append given octets)) was.1.inner) was.1) in
          let blocks = front ++ dec.next in
          let so_far = dec.so_far (fills.ended ∙ going) in
          let found = found_in c s.inner.count piece in
          let is : inner_bits c all blocks ≡ inner_bits c before blocks ++ found =
          plain-bits c all blocks none
          ∙ further-at None c before piece [] [] (c.skip - plain_count c s.inner.count)
          (ap (λ n. c.skip - plain_count c n) (sym was.1.inner.count))
          ∙ ap (λ l. l ++ found) (sym (plain-bits c before blocks none)) in (
            was.0 ++ dec.next,
            subst (λ (l : List ℕ). Progress c now l l (stood.blocks ++ (was.0 ++ dec.next)) [] (done ++ more))
                (append_assoc given octets piece)
                (subst (λ (l : List WindowBlock). Progress c now all all l [] (done ++ more))
                (append_assoc stood.blocks was.0 dec.next)
                (subst (Progress c now all all blocks [])
                (append_assoc (done ++ h.more) d.more items ∙ append_assoc done h.more (d.more ++ items))
                (plain-step took c between.inner between.bits bits middle taker_now all before blocks found
                ((done ++ h.more) ++ d.more) none p is dec.all so_far dec.progress))),
            dec.all,
            λ _. subst (λ (l : List ℕ). IsChosenSoFar c l between.inner.chosen) (append_assoc given octets piece) so_far,
          );
    }

-- all that is due with the pieces is handed over
pub plain-due : {T : Type 0} (took : T → Handed ItemValue → T → Type 0) (start now : Stages) (taker taker_now : T)
    (octets : List ℕ) → is_some start.inner.config.inner ≡ false → Filled took start now taker taker_now octets
    → StagesHand took start now taker taker_now octets
plain-due took start now taker taker_now octets plain h = record {
  more = h.more;
  handed = h.handed;
  stands = λ given done few stood.
      let is = h.on given done few stood in
      stages-due start now given (given ++ octets) done (done ++ h.more) is.0 stood h.stays (h.ended ∙ stood.going) is.2
      (is.3 plain)
      (drained-plain now.inner.config now.inner.queue is.1.inner.of
      (ap (λ (k : Configuration). is_some k.inner) is.1.of.0 ∙ plain)) is.1;
}

-- ---- what both stages have handed over is due

pub received-due : (s : Stages) (given : List ℕ) (done : List (Handed ItemValue)) → StagesFor s given done
    → AreReceivedDue s.inner.config given done
received-due s given done stood =
    let c = s.inner.config in
    let chosen = s.inner.chosen in
    let blocks = stood.blocks in
    let waiting = stood.waiting in
    let p = stood.progress in
    let bits = inner_bits c given blocks in
    let are : done ≡ with_phase chosen p.items =
    p.are ∙ ap (λ (o : Option Chosen). with_phase o p.items) (read-now s.inner.has_phase chosen stood.all) in
    elim stood.are_due as (λ _. AreReceivedDue c given done) [
      | inl w ↦ (
          let nothing = (prefix-nil (with_phase chosen blocks) (map Item waiting) w.1).0 in
          let no_blocks = sym (items_of-with_phase chosen blocks) ∙ ap items_of nothing in
          let no_bits = ap (inner_bits c given) no_blocks ∙ unsettled-none c given w.0 in
          inl (
            w.0,
            are ∙ ap (λ (o : Option Chosen). with_phase o p.items) (same-phase chosen None blocks [] nothing)
                ∙ ap (with_phase None) (due-none-items c bits p.items no_bits p.searched.are_items),
          )
          )
      | inr g ↦ (
          let h = g.1 in
          let same = with_phase-more chosen blocks waiting ∙ h.are in
          let all = sym (items_of-with_phase chosen (blocks ++ waiting)) ∙ phased-items h.chosen h.items _ same in
          let phase = same-phase chosen h.chosen (blocks ++ waiting) h.items same in
          let more = with-waiting c.inner c given blocks waiting in
          let at = symbol_at c (skip_of chosen) blocks in
          let after = symbol_at c (skip_of chosen) (blocks ++ waiting) in
          inr (
            g.0,
            record {
              chosen = chosen;
              choice = subst (IsChosen c given) (sym phase) h.choice;
              items = p.items;
              are_items = record {
                blocks = blocks ++ waiting;
                are_due = subst (λ (o : Option Chosen). AreInnerDue c (skip_of o) given (blocks ++ waiting)) (sym phase)
                    (subst (AreInnerDue c (skip_of h.chosen) given) (sym all) h.are_items);
                are_items = subst (λ (l : List Bool). AreItemsOf c l (due c l) p.items) (sym more.1)
                    (subst (λ fs. AreItemsOf c (bits ++ more.0) fs p.items) (sym stood.none_due ∙ ap (due c) more.1)
                    (items-more c bits more.0 (due c bits) p.items (due-end c bits) p.searched.are_items));
                symbols = have-of after (length bits) p.items
                    (at-longer at after (length bits) (length bits) (map place_symbol p.items) (omega arith)
                    (symbols-more c (skip_of chosen) given blocks waiting) p.searched.said);
              };
              are = are;
            },
          )
          )
    ]
