-- What each step of the stages keeps: octets are put in, windows decoded, the phase read, and bits searched.
use Rattle.std.proofs.Common.{◌≡◌, ◌<◌, ◌≤◌, ◌*◌, ◌⊎◌, ◌||◌, inl, inr, ℕ, Bool, true, false, if◌then◌else◌, List, [], ◌∷◌, ◌++◌, length, drop, map, refl, sym, ap, ◌∙◌, subst, arith, append_assoc, length-append, Option, Some, None}
use Rattle.std.specs.Option.{is_some}
use Rattle.std.proofs.lemmas.List.{append-nil, length-map}
use Rattle.tm_base.specs.Handed.{Handed, Item, on_handed}
use Rattle.tm_base.specs.Takers.{HandedOver}
use Rattle.tm_base.proofs.Handing.{HandedOver-append}
use Rattle.tm_base.proofs.HandedItems.{HandedOver-items}
use Rattle.tm_config.specs.Configuration.{Configuration}
use Rattle.tm_config.specs.declared.values.Sought.TheVariants.{Given}
use Rattle.tm_config.proofs.Choices.{given_or_find, never_both}
use Rattle.tm_conv.specs.declared.rates.Rate.{Rate}
use Rattle.tm_viterbi.specs.WindowBlock.{WindowBlock}
use Rattle.tm_windows.specs.Windows.{dropped_of}
use Rattle.tm_windows.specs.declared.choosing.Chosen.{Chosen}
use Rattle.tm_inner.specs.Inner.{bits_at, inner_bits, soft_value}
use Rattle.tm_inner.specs.InnerDecoding.{InnerDecoderStandsFor, InnerDecoding, has_phase_now, unread}
use Rattle.tm_inner.specs.Phase.{IsChosenBy, IsChosenSoFar, IsSettled, needed_at, phase_octets, skip_of, skipped_at, with_phase}
use Rattle.tm_inner.specs.SymbolPlaces.{symbol_at}
use Rattle.tm_inner.proofs.DecoderReads.{all-read, given-none}
use Rattle.tm_inner.proofs.Decoders.{stands-first}
use Rattle.tm_inner.proofs.FewBits.{first-few}
use Rattle.tm_inner.proofs.PhasePieces.{further}
use Rattle.tm_inner.proofs.PlainBits.{bits-nil}
use Rattle.tm_sync.specs.declared.found.Found.{Found}
use Rattle.tm_channel.specs.Items.{ItemValue, AreItemsOf}
use Rattle.tm_channel.specs.Due.{due}
use Rattle.tm_channel.specs.OctetReceiving.{AreKnown, Decoded, IsSearched, Progress, ReceivedAt, Searched, Stages, bits_of_blocks}
use Rattle.tm_channel.specs.declared.bit_receiver.BitReceiver.{BitReceiver}
use Rattle.tm_channel.proofs.AllBits.{due-nil}
use Rattle.tm_channel.proofs.FirstStage.{GoesOn, NotesRun, Runs, Stays, phase-stays, plain-none, run-of, stands-read}
use Rattle.tm_channel.proofs.PhasedItems.{prefix-nil}
use Rattle.tm_channel.proofs.ReceivedPieces.{all_bits-append}
use Rattle.tm_channel.proofs.Searched.{coded-bits, known-same, plain-bits, plain-has, rate-cases, run-has, run-known, searched-more, searched-same, symbols-chosen, symbols-more}

-- ---- the first stage goes on

-- the phase that was read stays
read-same : (has has_now : Bool) (before now : Option Chosen) → has_now ≡ has → Stays before now
    → (has ≡ true → before ≡ None → now ≡ None)
    → (if has then before else None) ≡ (if has_now then now else None)
read-same has has_now before now same stays none =
    go has before stays none ∙ ap (λ (b : Bool). if b then now else None) (sym same)
  where
    go : (has : Bool) (before : Option Chosen) → Stays before now → (has ≡ true → before ≡ None → now ≡ None)
        → (if has then before else None) ≡ (if has then now else None)
    go false before stays none = refl
    go true None stays none = sym (none refl refl)
    go true (Some chosen) stays none = sym (stays chosen refl)

-- octets were put in, windows were decoded, or the octets have ended
pub moved : (c : Configuration) (s : Stages) (now : InnerDecoding) (given longer taken : List ℕ)
    (blocks ready next : List WindowBlock) (done : List (Handed ItemValue)) → GoesOn s.inner now
    → InnerDecoderStandsFor now longer (blocks ++ next) → Progress c s given taken blocks ready done
    → Progress c (record { inner = now; bits = s.bits }) longer taken blocks next done
moved c s now given longer taken blocks ready next done on stands p =
    let config = on.config ∙ p.of.0 in
    let phase : now.config.phase ≡ c.phase = ap (λ (k : Configuration). k.phase) config in
    let before = symbol_at c (skip_of s.inner.chosen) blocks in
    let after = symbol_at c (skip_of now.chosen) blocks in
    let bits = inner_bits c taken blocks in
    let none : s.inner.has_phase ≡ true → s.inner.chosen ≡ None → now.chosen ≡ None = λ has was.
    given-none now.config (phase_octets now.config longer) now.chosen (blocks ++ next) now.has_ended
    (phase ∙ p.read has was) stands.choice in
    let same : (n : ℕ) → n < length bits → after n ≡ before n = symbols-chosen c s.inner.chosen now.chosen taken blocks
    (elim (phase-stays s.inner now given longer (blocks ++ ready) (blocks ++ next) on.config on.stays p.inner stands) as
    (λ _. (now.chosen ≡ s.inner.chosen) ⊎ (blocks ≡ [])) [
      | inl is ↦ inl is
      | inr nothing ↦ inr (prefix-nil blocks ready nothing).0
    ]) in
    record {
      of = (config, p.of.1);
      inner = stands;
      items = p.items;
      searched = searched-same c before after (length bits) bits s.bits p.items same p.searched;
      known = known-same c.inner c before after (length bits) s.bits same p.known;
      read = λ has nothing. p.read (sym on.phase ∙ has) (was-none s.inner.chosen on.stays nothing);
      first = λ unread. p.first (sym on.phase ∙ unread);
      are = p.are ∙ ap (λ (o : Option Chosen). with_phase o p.items)
          (read-same s.inner.has_phase now.has_phase s.inner.chosen now.chosen on.phase on.stays none);
    }
  where
    was-none : (before : Option Chosen) → Stays before now.chosen → now.chosen ≡ None → before ≡ None
    was-none None stays nothing = refl
    was-none (Some chosen) stays nothing = absurd (let is = stays chosen refl in cc)

-- ---- the phase is read

phase-then : (c : Configuration) (has : Bool) (chosen : Option Chosen) (items : List ItemValue)
    (done : List (Handed ItemValue)) → (c.phase ≡ Given → chosen ≡ None)
    → (has ≡ false → (c.phase ≡ Given) ⊎ (items ≡ [])) → done ≡ with_phase (if has then chosen else None) items
    → done ++ with_phase (if has then None else chosen) []
    ≡ with_phase (if has || is_some chosen then chosen else None) items
phase-then c true chosen items done none first are = append-nil done ∙ are
phase-then c false None items done none first are = append-nil done ∙ are
phase-then c false (Some chosen) items done none first are = elim (first refl) as
    (λ _. done ++ with_phase (Some chosen) [] ≡ with_phase (Some chosen) items) [
      | inl given ↦ absurd (let is = none given in cc)
      | inr nothing ↦ ap (λ l. l ++ with_phase (Some chosen) []) (are ∙ ap (λ (l : List ItemValue). map Item l) nothing)
          ∙ ap (with_phase (Some chosen)) (sym nothing)
    ]

has-not : (has : Bool) (chosen : Option Chosen) → (has || is_some chosen) ≡ false → has ≡ false
has-not true chosen none = absurd cc
has-not false chosen none = refl

had-read : (has : Bool) (chosen : Option Chosen) → (has || is_some chosen) ≡ true → chosen ≡ None → has ≡ true
had-read true chosen some none = refl
had-read false None some none = some
had-read false (Some chosen) some none = absurd cc

pub phase-read : (c : Configuration) (s : Stages) (now : InnerDecoding) (given taken : List ℕ)
    (blocks ready : List WindowBlock) (done : List (Handed ItemValue))
    → now ≡ record s.inner { has_phase = has_phase_now s.inner } → Progress c s given taken blocks ready done
    → Progress c (record { inner = now; bits = s.bits }) given taken blocks ready
    (done ++ with_phase (unread s.inner) [])
phase-read c s now given taken blocks ready done is p =
    let d = s.inner in
    subst (λ (k : InnerDecoding). Progress c (record { inner = k; bits = s.bits }) given taken blocks ready
    (done ++ with_phase (unread d) [])) (sym is) (record {
      of = p.of;
      inner = stands-read d (has_phase_now d) given (blocks ++ ready) p.inner;
      items = p.items;
      searched = p.searched;
      known = p.known;
      read = λ has none. p.read (had-read d.has_phase d.chosen has none) none;
      first = λ unread. p.first (has-not d.has_phase d.chosen unread);
      are = phase-then c d.has_phase d.chosen p.items done
          (λ given_is. given-none d.config (phase_octets d.config given) d.chosen (blocks ++ ready) d.has_ended
          (ap (λ (k : Configuration). k.phase) p.of.0 ∙ given_is) p.inner.choice) p.first p.are;
    })

-- ---- the bits of a run are searched

pub unread-none : (has : Bool) (chosen : Option Chosen) → (if has then None else chosen) ≡ None → has ≡ false
    → chosen ≡ None
unread-none true chosen all none = absurd cc
unread-none false chosen all none = all

-- where blocks were decoded there is an inner code, and a phase that is not chosen is given
coded-by : (c : Configuration) (d : InnerDecoding) (given : List ℕ) (blocks : List WindowBlock) → d.config ≡ c
    → InnerDecoderStandsFor d given blocks → (blocks ≡ [] → ⊥) → (rate : Rate) × (c.inner ≡ Some rate)
coded-by c d given blocks of stands some = elim (rate-cases c.inner) as (λ _. (rate : Rate) × (c.inner ≡ Some rate)) [
  | inl none ↦ absurd (some (plain-none d given blocks
      (ap (λ (k : Configuration). is_some k.inner) of ∙ ap is_some none) stands))
  | inr coded ↦ coded
]

given-by : (c : Configuration) (d : InnerDecoding) (given : List ℕ) (blocks : List WindowBlock) → d.config ≡ c
    → InnerDecoderStandsFor d given blocks → (blocks ≡ [] → ⊥) → d.chosen ≡ None → c.phase ≡ Given
given-by c d given blocks of stands some none = elim stands.choice as (λ _. c.phase ≡ Given) [
  | inl waits ↦ absurd (some waits.1)
  | inr is ↦ sym (ap (λ (k : Configuration). k.phase) of)
      ∙ subst (IsChosenBy d.config (phase_octets d.config given)) none is
]

some-behind : (blocks ready : List WindowBlock) → 0 < length ready → blocks ++ ready ≡ [] → ⊥
some-behind blocks ready some none =
    omega (arith, some, ap (λ (l : List WindowBlock). length l) (prefix-nil blocks ready none).1)

pub run-step : {T : Type 0} (took : T → ItemValue → T → Type 0) (c : Configuration) (d : InnerDecoding)
    (r m now : BitReceiver) (origin : ℕ) (taker taker_now : T) (given taken : List ℕ) (blocks ready : List WindowBlock)
    (done : List (Handed ItemValue)) → 0 < length ready → dropped_of (drop 1 ready) ≡ 0 → NotesRun d r m origin
    → (p : ReceivedAt took m now taker taker_now (bits_of_blocks ready)) → unread d ≡ None
    → Progress c (record { inner = d; bits = r }) given taken blocks ready done
    → Progress c (record { inner = d; bits = now }) given taken (blocks ++ ready) [] (done ++ map Item p.items)
run-step took c d r m now origin taker taker_now given taken blocks ready done some later notes p all was =
    let coded = coded-by c d given (blocks ++ ready) was.of.0 was.inner (some-behind blocks ready some) in
    let phase = skip_of d.chosen in
    let at = symbol_at c phase blocks in
    let after = symbol_at c phase (blocks ++ ready) in
    let both = bits_of_blocks (blocks ++ ready) in
    let is = coded-bits c coded.0 taken blocks coded.1 in
    let is_now = coded-bits c coded.0 taken (blocks ++ ready) coded.1 in
    let searched = subst (λ (l : List Bool). Searched c at (length l) l r was.items) is was.searched in
    let run = run-of c d given blocks ready r m origin coded.0 was.of.0 was.of.1 coded.1 later was.inner notes in
    let has = run-has c coded.0 phase origin blocks ready r m was.items was.of.1 run.0 searched
    (subst (λ (l : List Bool). AreKnown c.inner c at (length l) r) is was.known) in
    let it = searched-more IsSearched took c at after r m now taker taker_now (bits_of_blocks blocks)
    (bits_of_blocks ready) both
    was.items was.of.1 notes.0 p (all_bits-append blocks ready) (omega (arith, run.0.few))
    (λ n below. symbols-more c phase taken blocks ready n (omega (arith, below, ap length is))) has.0 searched in
    let config = p.config ∙ ap (λ (v : BitReceiver). v.batch.config) notes.0 ∙ was.of.1 in
    record {
      of = (was.of.0, config);
      inner = subst (InnerDecoderStandsFor d given) (sym (append-nil (blocks ++ ready))) was.inner;
      items = was.items ++ p.items;
      searched = subst (λ (l : List Bool). Searched c after (length l) l now (was.items ++ p.items)) (sym is_now) it.0;
      known = subst (λ (l : List Bool). AreKnown c.inner c after (length l) now) (sym is_now)
          (run-known c coded.0 after (length both) m now coded.1 config p.origins
          (has.1 (length both) (run.1 some)) it.1);
      read = was.read;
      first = λ none. inl (given-by c d given (blocks ++ ready) was.of.0 was.inner (some-behind blocks ready some)
          (unread-none d.has_phase d.chosen all none));
      are = further (if d.has_phase then d.chosen else None) done was.items p.items was.are;
    }

-- ---- windows are decoded, one run after another

-- the first run, after which the phase is read
pub decoded-start : {T : Type 0} (took : T → Handed ItemValue → T → Type 0) (a b now : InnerDecoding)
    (bits : BitReceiver)
    (taker taker_now : T) (ready : List WindowBlock) → Runs a b ready
    → now ≡ record b { has_phase = has_phase_now b } → HandedOver took taker (with_phase (unread b) []) taker_now
    → Decoded took (record { inner = a; bits = bits }) (record { inner = now; bits = bits }) taker taker_now ready
decoded-start took a b now bits taker taker_now ready run is phased = record {
  ended = ap (λ (d : InnerDecoding). d.has_ended) is ∙ run.ended;
  stays = λ chosen was. ap (λ (d : InnerDecoding). d.chosen) is ∙ run.on.stays chosen was;
  more = with_phase (unread b) [];
  handed = phased;
  decodes = λ c given taken blocks done p.
      let s = run.stands given blocks (subst (InnerDecoderStandsFor a given) (append-nil blocks) p.inner) in
      let there = phase-read c (record { inner = b; bits = bits }) now given taken blocks ready done is
      (moved c (record { inner = a; bits = bits }) b given given taken blocks [] ready done run.on s.0 p) in
      record {
        next = [];
        progress = subst (λ (l : List WindowBlock). Progress c (record { inner = now; bits = bits }) given taken l ready
            (done ++ with_phase (unread b) [])) (sym (append-nil blocks)) there;
        all = ap (λ (d : InnerDecoding). unread d) is ∙ all-read b;
        so_far = λ going. subst (λ (d : InnerDecoding). IsChosenSoFar c given d.chosen) (sym is)
            (subst (λ (k : Configuration). IsChosenSoFar k given b.chosen) (run.on.config ∙ p.of.0) (s.1 going));
      };
}

-- the bits of the run are searched, and a further one is decoded
pub decoded-more : {T : Type 0} (took_phase : T → ℕ → ℕ → T → Type 0) (took : T → ItemValue → T → Type 0)
    (s b : Stages) (now : InnerDecoding) (noted bits : BitReceiver) (origin : ℕ) (taker middle taker_now : T)
    (ready next : List WindowBlock) → Decoded (on_handed took_phase took) s b taker middle ready → 0 < length ready
    → dropped_of (drop 1 ready) ≡ 0 → NotesRun b.inner b.bits noted origin
    → ReceivedAt took noted bits middle taker_now (bits_of_blocks ready) → Runs b.inner now next
    → Decoded (on_handed took_phase took) s (record { inner = now; bits = bits }) taker taker_now next
decoded-more took_phase took s b now noted bits origin taker middle taker_now ready next d some later notes p run =
    let items = p.items in
    record {
      ended = run.ended ∙ d.ended;
      stays = λ chosen was. run.on.stays chosen (d.stays chosen was);
      more = d.more ++ map Item items;
      handed = HandedOver-append (on_handed took_phase took) taker middle taker_now d.more (map Item items) d.handed
          (HandedOver-items took_phase took middle taker_now items p.handed);
      decodes = λ c given taken blocks done start.
          let was = d.decodes c given taken blocks done start in
          let front = blocks ++ was.next in
          let stands = run.stands given (front ++ ready) was.progress.inner in
          let there = moved c (record { inner = b.inner; bits = bits }) now given given taken (front ++ ready) [] next
          ((done ++ d.more) ++ map Item items) run.on stands.0
          (run-step took c b.inner b.bits noted bits origin middle taker_now given taken front ready
          (done ++ d.more) some
          later notes p was.all was.progress) in
          record {
            next = was.next ++ ready;
            progress = subst (λ (l : List WindowBlock). Progress c
                (record { inner = now; bits = bits }) given taken l next
                (done ++ (d.more ++ map Item items))) (append_assoc blocks was.next ready)
                (subst (Progress c (record { inner = now; bits = bits }) given taken (front ++ ready) next)
                (append_assoc done d.more (map Item items)) there);
            all = still-none b.inner.has_phase now.has_phase now.chosen run.on.phase (λ none.
                given-none now.config (phase_octets now.config given) now.chosen
                ((front ++ ready) ++ next) now.has_ended
                (ap (λ (k : Configuration). k.phase) (run.on.config ∙ was.progress.of.0)
                ∙ given-by c b.inner given (front ++ ready) was.progress.of.0 was.progress.inner
                (some-behind front ready some) (unread-none b.inner.has_phase b.inner.chosen was.all none))
                stands.0.choice);
            so_far = λ going. subst (λ (k : Configuration). IsChosenSoFar k given now.chosen)
                (run.on.config ∙ was.progress.of.0) (stands.1 (d.ended ∙ going));
          };
    }
  where
    still-none : (has has_now : Bool) (chosen : Option Chosen) → has_now ≡ has → (has ≡ false → chosen ≡ None)
        → (if has_now then None else chosen) ≡ None
    still-none has true chosen same none = refl
    still-none has false chosen same none = none (sym same)

-- ---- with no inner code the bits of octets are searched

nil-items : (c : Configuration) (bits : List Bool) (items : List ItemValue) → AreItemsOf c bits [] items → items ≡ []
nil-items c bits [] are = refl
nil-items c bits (item ∷ items) are = absurd are

-- of no bits no item is due
pub due-none-items : (c : Configuration) (bits : List Bool) (items : List ItemValue) → bits ≡ []
    → AreItemsOf c bits (due c bits) items → items ≡ []
due-none-items c bits items none are =
    nil-items c bits items (subst (λ (fs : List Found). AreItemsOf c bits fs items) (ap (due c) none ∙ due-nil c) are)

-- before the phase is settled there are no bits
unsettled-at : (rate : Option Rate) (c : Configuration) (given : List ℕ)
    → (needed_at rate c ≤ length (map (soft_value c) (drop (skipped_at rate c) given)) → ⊥)
    → bits_at rate c given [] ≡ []
unsettled-at None c [] unsettled = bits-nil None c
unsettled-at None c (octet ∷ octets) unsettled = absurd (unsettled (omega (arith, length-map octets (soft_value c))))
unsettled-at (Some rate) c given unsettled = refl

pub unsettled-none : (c : Configuration) (given : List ℕ) → (IsSettled c given → ⊥) → inner_bits c given [] ≡ []
unsettled-none c given unsettled = unsettled-at c.inner c given (λ many. unsettled (inr many))

pub plain-step : {T : Type 0} (took : T → ItemValue → T → Type 0) (c : Configuration) (d : InnerDecoding)
    (r now : BitReceiver) (taker taker_now : T) (given taken : List ℕ) (blocks : List WindowBlock) (piece : List Bool)
    (done : List (Handed ItemValue)) → c.inner ≡ None → (p : ReceivedAt took r now taker taker_now piece)
    → inner_bits c given blocks ≡ inner_bits c taken blocks ++ piece → unread d ≡ None → IsChosenSoFar c given d.chosen
    → Progress c (record { inner = d; bits = r }) given taken blocks [] done
    → Progress c (record { inner = d; bits = now }) given given blocks [] (done ++ map Item p.items)
plain-step took c d r now taker taker_now given taken blocks piece done none p is all so_far was =
    let at = symbol_at c (skip_of d.chosen) blocks in
    let bits = inner_bits c taken blocks in
    let items = was.items ++ p.items in
    let few = was.inner.few in
    let most : length (inner_bits c given blocks) ≤ 8 * length given =
    subst (λ (k : Configuration). length (inner_bits k given blocks) ≤ 8 * length given) was.of.0
    (first-few d.config (skip_of d.chosen) given blocks
    (stands-first d given blocks (subst (InnerDecoderStandsFor d given) (append-nil blocks) was.inner))) in
    let it = searched-more IsSearched took c at at r r now taker taker_now bits piece
    (inner_bits c given blocks) was.items was.of.1
    refl p is (omega (arith, most, few)) (λ n below. refl)
    (plain-has c (skip_of d.chosen) given blocks bits r r was.of.1 none refl few
    (omega (arith, ap length is, length-append bits piece)) was.searched.stored) was.searched in
    record {
      of = (was.of.0, p.config ∙ was.of.1);
      inner = was.inner;
      items = items;
      searched = it.0;
      known = subst (λ (o : Option Rate). AreKnown o c at (length (inner_bits c given blocks)) now) (sym none) tt;
      read = was.read;
      first = λ not. let nothing = unread-none d.has_phase d.chosen all not in
          elim (given_or_find c.phase) as (λ _. (c.phase ≡ Given) ⊎ (items ≡ [])) [
            | inl given_is ↦ inl given_is
            | inr find ↦ inr (due-none-items c (inner_bits c given blocks) items
                (plain-bits c given blocks none ∙ sym (plain-bits c given [] none)
                ∙ unsettled-none c given (λ settled. never_both c.phase
                (subst (IsChosenSoFar c given) nothing so_far settled) find)) it.0.are_items)
          ];
      are = further (if d.has_phase then d.chosen else None) done was.items p.items was.are;
    }
