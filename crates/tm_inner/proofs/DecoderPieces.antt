-- What is handed over of a decoder of an inner code, run after run and piece after piece.
use Rattle.std.proofs.Common.{◌≡◌, inr, ℕ, ◌+◌, ◌<◌, ◌^◌, true, List, [], ◌++◌, length, map, sym, ap, ◌∙◌, subst, arith, append_assoc, Option, Some, None}
use Rattle.std.proofs.lemmas.List.{append-nil}
use Rattle.tm_base.specs.Handed.{Handed, Item, items_of}
use Rattle.tm_base.specs.Takers.{HandedOver}
use Rattle.tm_base.proofs.Handing.{HandedOver-append}
use Rattle.tm_config.specs.Configuration.{Configuration}
use Rattle.tm_viterbi.specs.WindowBlock.{WindowBlock}
use Rattle.tm_windows.specs.declared.choosing.Chosen.{Chosen}
use Rattle.tm_inner.specs.Inner.{inner_bits, reported_slips}
use Rattle.tm_inner.specs.InnerDecoding.{InnerDecoding, InnerDecoderStandsFor, unread}
use Rattle.tm_inner.specs.Phase.{IsChosen, with_phase}
use Rattle.tm_inner.specs.Receiving.{HasHanded, HasRead, Hands}
use Rattle.tm_inner.specs.Handing.{AreHanded, AreHandedPrefix, IsKept, LeavesPhase, ReadsDue}
use Rattle.tm_inner.proofs.DecoderCalls.{Ends, Runs, Settles}
use Rattle.tm_inner.proofs.DecoderReads.{Stays, after_read, read-all, read-on, read-run, read_of}
use Rattle.tm_inner.proofs.PhasePieces.{further, items_of-with_phase}

-- ---- a run of windows

-- a decoder as it was but for the phase, which was chosen since or not
pub record IsLater (d now : InnerDecoding) : Type 0 where
  pub config : now.config ≡ d.config
  pub phase : now.has_phase ≡ d.has_phase
  pub stays : Stays d now

-- and the phase is read
run-read : (d now : InnerDecoding) (ready : List WindowBlock) → IsLater d now → Runs d now ready → (given : List ℕ)
    (done : List (Handed WindowBlock)) → length given + 0 < 2 ^ 60 → HasRead d given done
    → HasRead (after_read now) (given ++ []) (done ++ read_of now ready)
run-read d now ready later runs given done few r =
    subst (λ (l : List ℕ). HasRead (after_read now) l (done ++ read_of now ready)) (sym (append-nil given))
    (read-run d now given done ready later.config later.phase later.stays r (runs given r.blocks r.stands).0)

pub hands-run : {T : Type 0} (took : T → Handed WindowBlock → T → Type 0) (d now : InnerDecoding)
    (taker middle last : T) (ready : List WindowBlock) → IsLater d now → Runs d now ready
    → HandedOver took taker (with_phase (unread now) []) middle → HandedOver took middle (map Item ready) last
    → Hands took HasRead d (after_read now) taker last []
hands-run took d now taker middle last ready later runs first rest = record {
  more = read_of now ready;
  handed = HandedOver-append took taker middle last (with_phase (unread now) []) (map Item ready) first rest;
  stands = run-read d now ready later runs;
}

-- where the phase does nothing to it the taker stays as it is
pub phase-left : {T : Type 0} (took : T → Handed WindowBlock → T → Type 0) → LeavesPhase took → (taker now : T)
    (chosen : Option Chosen) → HandedOver took taker (with_phase chosen []) now → now ≡ taker
phase-left took leaves taker now None handed = sym handed
phase-left took leaves taker now (Some chosen) handed =
    sym handed.2 ∙ leaves taker handed.0 chosen.skip chosen.cost handed.1

-- ---- octets that are put in

-- given more octets a decoder that stood for some stands for these too
abbrev pub Fills : InnerDecoding → InnerDecoding → List ℕ → Type 0
Fills d filled piece =
    (given : List ℕ) (blocks : List WindowBlock) → length given + length piece < 2 ^ 60
    → InnerDecoderStandsFor d given blocks → InnerDecoderStandsFor filled (given ++ piece) blocks

-- ---- the end

-- what was read of it, and its last block, are all
ended-are : (d : InnerDecoding) (given : List ℕ) (done : List (Handed WindowBlock)) (ready : List WindowBlock)
    (r : HasRead d given done) → unread d ≡ None
    → done ++ map Item ready ≡ with_phase d.chosen (r.blocks ++ ready)
ended-are d given done ready r all = further d.chosen done r.blocks ready (read-all d given done r all)

pub ended-handed : (d : InnerDecoding) (ready : List WindowBlock) (left bits : ℕ) (slips : Option ℕ) (lost : ℕ)
    → Ends d ready left bits slips lost → unread d ≡ None → (given : List ℕ) (done : List (Handed WindowBlock))
    → HasRead d given done → IsChosen d.config given d.chosen
    → AreHanded d.config given (done ++ map Item ready) left
    × (bits ≡ length (inner_bits d.config given (items_of (done ++ map Item ready))))
    × (slips ≡ reported_slips d.config (items_of (done ++ map Item ready)))
ended-handed d ready left bits slips lost ends all given done r choice =
    let c = d.config in
    let blocks = r.blocks ++ ready in
    let e = ends given r.blocks r.stands choice in
    let are = ended-are d given done ready r all in
    let items : items_of (done ++ map Item ready) ≡ blocks =
    ap items_of are ∙ items_of-with_phase d.chosen blocks in (
      record { chosen = d.chosen; choice = choice; items = blocks; are_items = e.0; are = are },
      e.1 ∙ ap (λ (l : List WindowBlock). length (inner_bits c given l)) (sym items),
      e.2 ∙ ap (reported_slips c) (sym items),
    )

-- of a decoder that has ended all is read that was
pub settled-read : (d ended : InnerDecoding) → IsLater d ended → Settles d ended → (given : List ℕ)
    (done : List (Handed WindowBlock)) → HasHanded d given done → HasRead ended given done
settled-read d ended later stands given done h =
    read-on d ended given given done later.config later.phase later.stays h.read
    (stands given h.read.blocks h.read.stands).0

-- the phase that is kept then
pub ended-chosen : (d ended now : InnerDecoding) → IsLater d ended → Settles d ended → ended.has_ended ≡ true
    → now.config ≡ ended.config → now.has_ended ≡ ended.has_ended
    → ((given : List ℕ) (done : List (Handed WindowBlock)) → length given + 0 < 2 ^ 60 → HasRead ended given done
    → IsKept now (given ++ []))
    → (given : List ℕ) (done : List (Handed WindowBlock)) → HasHanded d given done → IsChosen d.config given now.chosen
ended-chosen d ended now later stands has_ended config same kept given done h =
    let k = kept given done (omega (arith, h.read.stands.few)) (settled-read d ended later stands given done h) in
    subst (λ (c : Configuration). IsChosen c given now.chosen) (config ∙ later.config)
    (subst (λ (l : List ℕ). IsChosen now.config l now.chosen) (append-nil given) (k.at_end (same ∙ has_ended)))

-- all was handed over, the last block after what was due
pub ended-all : {T : Type 0} (took : T → Handed WindowBlock → T → Type 0) (d ended now : InnerDecoding)
    → IsLater d ended → Settles d ended → ended.has_ended ≡ true → (taker middle : T)
    (r : ReadsDue took ended now taker middle []) (ready : List WindowBlock) (left bits : ℕ) (slips : Option ℕ)
    (lost : ℕ) → Ends now ready left bits slips lost
    → (given : List ℕ) (done : List (Handed WindowBlock)) → HasHanded d given done
    → AreHanded d.config given (done ++ (r.read.more ++ map Item ready)) left
    × (bits ≡ length (inner_bits d.config given (items_of (done ++ (r.read.more ++ map Item ready)))))
    × (slips ≡ reported_slips d.config (items_of (done ++ (r.read.more ++ map Item ready))))
ended-all took d ended now later stands has_ended taker middle r ready left bits slips lost ends given done stood =
    let Said : Configuration → List (Handed WindowBlock) → Type 0 = λ c handed. AreHanded c given handed left
    × (bits ≡ length (inner_bits c given (items_of handed))) × (slips ≡ reported_slips c (items_of handed)) in
    let was = settled-read d ended later stands given done stood in
    let few : length given + 0 < 2 ^ 60 = omega (arith, was.stands.few) in
    let read = subst (λ (l : List ℕ). HasRead now l (done ++ r.read.more)) (append-nil given)
    (r.read.stands given done few was) in
    let chosen = subst (λ (l : List ℕ). IsChosen now.config l now.chosen) (append-nil given)
    ((r.kept given done few was).at_end (r.ended ∙ has_ended)) in
    subst (λ (c : Configuration). Said c (done ++ (r.read.more ++ map Item ready))) (r.config ∙ later.config)
    (subst (Said now.config) (append_assoc done r.read.more (map Item ready))
    (ended-handed now ready left bits slips lost ends r.all given (done ++ r.read.more) read chosen))

-- all is a prefix of all
pub all-prefix : (c : Configuration) (given : List ℕ) (handed : List (Handed WindowBlock)) (left : ℕ)
    → AreHanded c given handed left → AreHandedPrefix c given handed
all-prefix c given handed left h = record {
  chosen = h.chosen;
  choice = h.choice;
  items = h.items;
  are_items = inr (left, h.are_items);
  are = h.are;
}
