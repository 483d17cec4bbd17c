-- How many items come of octets at most, and how many octets their frames have.
use Rattle.std.proofs.Common.{◌≡◌, ◌∙◌, ℕ, suc, ◌+◌, ◌-◌, ◌*◌, ◌/◌, ◌<◌, ◌≤◌, ◌==◌, Bool, true, false, cond, inl, inr, List, [], ◌∷◌, ◌++◌, length, take, drop, map, refl, sym, ap, subst, arith, append_assoc, length-append, length-drop, length-take, mul_comm, mul-le-mul_right, Option, Some, None}
use Rattle.std.proofs.Math.Nat.{lt-div-mul-add, suc-mul}
use Rattle.std.proofs.lemmas.List.{length-map}
use Rattle.tm_base.specs.Handed.{Handed, Item, items_of}
use Rattle.tm_base.proofs.HandedItems.{items_of-append}
use Rattle.tm_config.specs.Configuration.{Configuration, codeblock_length, correctable, data_length, is_uncoded}
use Rattle.tm_config.specs.Accepted.{IsAccepted}
use Rattle.tm_config.proofs.Choices.{uncoded_cases}
use Rattle.tm_config.proofs.Lengths.{codeblock_length-is}
use Rattle.tm_conv.specs.declared.rates.Rate.{Rate}
use Rattle.tm_codeblock.specs.Interleaved.{interleaved}
use Rattle.tm_codeblock.proofs.ColumnLaws.{length-interleaved}
use Rattle.tm_viterbi.specs.WindowBlock.{WindowBlock}
use Rattle.tm_viterbi.specs.Clean.{kept_bits}
use Rattle.tm_windows.specs.declared.choosing.Chosen.{Chosen}
use Rattle.tm_inner.specs.Inner.{AreInnerBlocks, plain_bits, plain_count, bits_at, inner_bits}
use Rattle.tm_inner.specs.Phase.{IsChosen, held_bits, skip_of, with_phase}
use Rattle.tm_inner.specs.Handing.{AreHandedDue}
use Rattle.tm_inner.proofs.DueBits.{kept-append}
use Rattle.tm_inner.proofs.HandedBits.{needed-few, waiting-last-few, waiting-more-few}
use Rattle.tm_inner.proofs.PhasePieces.{items_of-with_phase}
use Rattle.tm_inner.proofs.PlainBits.{length-plain}
use Rattle.tm_sync.specs.declared.found.Found.{Found}
use Rattle.tm_codeblock.specs.ReceivedCodeblock.{codeblock_at, data_octets, frame_of, places_in}
use Rattle.tm_channel.specs.Items.{ItemValue, IsItem, AreItems, AreItemsOf, is_given, frames_of}
use Rattle.tm_channel.specs.Due.{due}
use Rattle.tm_channel.specs.Most.{AreFew, most_bits, most_bits_at, most_items}
use Rattle.tm_channel.specs.Receiving.{waiting_bits}
use Rattle.tm_channel.specs.OctetReceiving.{Stages, StagesFor, StagesOn}
use Rattle.tm_channel.proofs.Apart.{few-found}
use Rattle.tm_channel.proofs.Batches.{batches-le, length-due}
use Rattle.tm_channel.proofs.FurtherBits.{bits_found, further-at, last-at, phased-items}
use Rattle.tm_channel.proofs.ReceivedPieces.{all_bits}
use Rattle.tm_channel.proofs.SentCodeblocks.{octets-received}

-- ---- the octets of frames

frame-few : (c : Configuration) (codeblock : List ℕ) (words : List (List ℕ)) → IsAccepted c
    → length codeblock ≤ codeblock_length c → length (frame_of c codeblock words) ≤ c.frame_length
unfolding frame_of
frame-few c codeblock words ok few =
    elim (uncoded_cases c.code) as
    (λ _. length (cond (is_uncoded c.code) codeblock
    (interleaved c.depth (data_length c) (map (data_octets c) words))) ≤ c.frame_length) [
      | inl none ↦
          let checks : c.depth * (2 * correctable c.code) ≡ 0 = ap (λ code. c.depth * (2 * correctable code)) none.1
          ∙ omega arith in
          rw none.0 (omega (arith, few, codeblock_length-is c ok, checks))
      | inr some ↦ rw some.0 (omega (
        arith,
        length-interleaved c.depth (data_length c) (map (data_octets c) words),
        ok.whole,
      ))
    ]

item-few : (c : Configuration) (bits : List Bool) (f : Found) (item : ItemValue) → IsAccepted c
    → IsItem c f (codeblock_at c bits f) item → length item.frame ≤ c.frame_length
item-few c bits f item ok is = omega (arith, ap length is.frame, go (is_given c item.answers))
  where
    codeblock : length (codeblock_at c bits f) ≤ codeblock_length c
    codeblock =
        let after = take (8 * codeblock_length c) (drop (f.place + 32) bits) in
        omega (
          arith,
          octets-received c f.inverted after,
          length-take (8 * codeblock_length c)
              (drop (f.place + 32) bits),
        )

    go : (given : Bool) → length (cond given (frame_of c (codeblock_at c bits f) is.words) []) ≤ c.frame_length
    go true = frame-few c (codeblock_at c bits f) is.words ok codeblock
    go false = omega arith

frames-few : (c : Configuration) (bits : List Bool) (fs : List Found) (items : List ItemValue) → IsAccepted c
    → AreItemsOf c bits fs items → length (frames_of items) ≤ length items * c.frame_length
frames-few c bits [] [] ok are = omega arith
frames-few c bits [] (item ∷ items) ok are = absurd are
frames-few c bits (f ∷ fs) [] ok are = absurd are
frames-few c bits (f ∷ fs) (item ∷ items) ok are =
    omega (
      arith,
      length-append item.frame (frames_of items),
      item-few c bits f item ok are.0,
      frames-few c bits fs items ok are.1,
      suc-mul (length items) c.frame_length,
    )

-- those after others
after-few : (c : Configuration) (bits : List Bool) (fs : List Found) (before items : List ItemValue) → IsAccepted c
    → AreItemsOf c bits fs (before ++ items) → length (frames_of items) ≤ length items * c.frame_length
after-few c bits fs [] items ok are = frames-few c bits fs items ok are
after-few c bits [] (item ∷ before) items ok are = absurd are
after-few c bits (f ∷ fs) (item ∷ before) items ok are = after-few c bits fs before items ok are.1

-- ---- items of bits that go on

as-many : (c : Configuration) (bits : List Bool) (fs : List Found) (items : List ItemValue)
    → AreItemsOf c bits fs items → length items ≡ length fs
as-many c bits [] [] are = refl
as-many c bits [] (item ∷ items) are = absurd are
as-many c bits (f ∷ fs) [] are = absurd are
as-many c bits (f ∷ fs) (item ∷ items) are = ap suc (as-many c bits fs items are.1)

-- after the items that were due there are these, where so few bits came
items-few : (c : Configuration) (bits piece : List Bool) (before items : List ItemValue) (fs : List Found)
    (octets : ℕ) → IsAccepted c → AreItemsOf c bits (due c bits) before
    → AreItemsOf c (bits ++ piece) fs (before ++ items) → length fs ≤ length (places_in c (bits ++ piece))
    → length piece ≤ most_bits c octets → AreFew c octets items
items-few c bits piece before items fs octets ok were are within few =
    let all = length (places_in c bits) in
    let waits : all < c.batch * (all / c.batch) + c.batch =
    omega (arith, lt-div-mul-add {a = all} {b = c.batch} ok.some_batch, mul_comm (all / c.batch) c.batch) in
    let count : length items ≤ most_items c octets =
    omega (
      arith,
      few-found c bits piece (most_bits c octets) few,
      waits,
      as-many c bits (due c bits) before were,
      length-due c bits,
      as-many c (bits ++ piece) fs (before ++ items) are,
      length-append before items,
      within,
    ) in (
      count,
      le-through (length (frames_of items)) (after-few c (bits ++ piece) fs before items ok are)
          (mul-le-mul_right c.frame_length count),
    )
  where
    le-through : (a : ℕ) {b d : ℕ} → a ≤ b → b ≤ d → a ≤ d
    le-through a ab bd = omega (arith, ab, bd)

-- ---- the bits that come

found-few : (rate : Option Rate) (c : Configuration) (skip : ℕ) (more : List WindowBlock) (octets : List ℕ)
    → length (kept_bits more) ≤ waiting_bits c c.batch + held_bits c + length octets
    → length (bits_found c rate skip more octets) ≤ most_bits_at rate c (length octets)
found-few None c skip more octets few = omega (arith, length-drop skip (plain_bits c octets), length-plain c octets)
found-few (Some rate) c skip more octets few = omega (arith, few, length-map (kept_bits more) (λ bit. bit == 1))

-- at the end with no inner code none
last-few : (rate : Option Rate) (c : Configuration) (given : List ℕ) (blocks last : List WindowBlock)
    (piece : List Bool) → bits_at rate c given (blocks ++ last) ≡ bits_at rate c given blocks ++ piece
    → length (kept_bits last) ≤ waiting_bits c c.batch + held_bits c → length piece ≤ most_bits_at rate c 0
last-few None c given blocks last piece is few =
    omega (arith, ap length is, length-append (drop c.skip (plain_bits c given)) piece)
last-few (Some rate) c given blocks last piece is few =
    omega (
      arith,
      few,
      ap length is,
      length-append (map (λ bit. bit == 1) (kept_bits blocks)) piece,
      length-map (kept_bits blocks) (λ bit. bit == 1),
      length-map (kept_bits (blocks ++ last)) (λ bit. bit == 1),
      ap length (kept-append blocks last),
      length-append (kept_bits blocks) (kept_bits last),
    )

-- ---- what a receiver hands over

-- with further octets
pub stages-few : (s now : Stages) (given octets : List ℕ) (done more : List (Handed ItemValue))
    → IsAccepted s.inner.config → now.inner.config ≡ s.inner.config → (stood : StagesFor s given done)
    → StagesOn now (given ++ octets) (done ++ more) (with_phase s.inner.chosen stood.blocks)
    → AreFew s.inner.config (length octets) (items_of more)
stages-few s now given octets done more ok same stood on =
    let c = s.inner.config in
    let there = on.0 in
    let handed = with_phase s.inner.chosen stood.blocks in
    let was = stood.progress.items in
    let further = items_of on.1 in
    let bits = inner_bits c given stood.blocks in
    let skip = c.skip - plain_count c (length given) in
    let piece = bits_found c c.inner skip further octets in
    let blocks : there.blocks ≡ stood.blocks ++ further =
    sym (items_of-with_phase now.inner.chosen there.blocks) ∙ ap items_of on.2 ∙ items_of-append handed on.1
    ∙ ap (λ (l : List WindowBlock). l ++ further) (items_of-with_phase s.inner.chosen stood.blocks) in
    let is : inner_bits c (given ++ octets) there.blocks ≡ bits ++ piece =
    ap (inner_bits c (given ++ octets)) blocks
    ∙ further-at c.inner c given octets stood.blocks further skip refl in
    let all : there.progress.items ≡ was ++ items_of more =
    sym (phased-items _ there.progress.items (done ++ more) there.progress.are) ∙ items_of-append done more
    ∙ ap (λ l. l ++ items_of more) (phased-items _ was done stood.progress.are) in
    let are = subst (λ (k : Configuration). AreItemsOf k (inner_bits k (given ++ octets) there.blocks)
    (due k (inner_bits k (given ++ octets) there.blocks)) there.progress.items)
    same there.progress.searched.are_items in
    let whole = subst (λ (l : List Bool). AreItemsOf c l (due c l) (was ++ items_of more)) is
    (subst (AreItemsOf c (inner_bits c (given ++ octets) there.blocks)
    (due c (inner_bits c (given ++ octets) there.blocks)))
    all are) in
    let waits = on.1 ++ map Item there.waiting in
    let due_all = subst (λ (k : Configuration). AreHandedDue k (given ++ octets)
    (with_phase now.inner.chosen there.blocks ++ map Item there.waiting)) same there.are_due in
    let due_on = subst (AreHandedDue c (given ++ octets)) (ap (λ l. l ++ map Item there.waiting) on.2
    ∙ append_assoc handed on.1 (map Item there.waiting)) due_all in
    let kept : length (kept_bits further) ≤ length (kept_bits (items_of waits)) =
    omega (
      arith,
      ap (λ (l : List WindowBlock). length (kept_bits l)) (items_of-append on.1 (map Item there.waiting)),
      ap length (kept-append further (items_of (map Item there.waiting))),
      length-append (kept_bits further) (kept_bits (items_of (map Item there.waiting))),
    ) in
    let few = found-few c.inner c skip further octets
    (omega (
      arith,
      kept,
      waiting-more-few c given octets handed stood.waiting waits stood.are_due due_on,
      stood.few,
      needed-few c.inner c,
    )) in
    let within : length (due c (bits ++ piece)) ≤ length (places_in c (bits ++ piece)) =
    omega (arith, length-due c (bits ++ piece), batches-le c.batch (length (places_in c (bits ++ piece)))) in
    items-few c bits piece was (items_of more) (due c (bits ++ piece))
    (length octets) ok stood.progress.searched.are_items
    whole within few

-- at the end, where these are the blocks after those that were handed over
pub ends-few : (s : Stages) (given : List ℕ) (done : List (Handed ItemValue)) (chosen : Option Chosen)
    (next : List WindowBlock) (last : List (Handed WindowBlock)) (left : ℕ) (items : List ItemValue)
    → IsAccepted s.inner.config → (stood : StagesFor s given done) → IsChosen s.inner.config given chosen
    → AreInnerBlocks s.inner.config (skip_of chosen) given (stood.blocks ++ next) left
    → with_phase chosen (stood.blocks ++ next) ≡ with_phase s.inner.chosen stood.blocks ++ last → items_of last ≡ next
    → AreItems s.inner.config (inner_bits s.inner.config given (stood.blocks ++ next)) (stood.progress.items ++ items)
    → AreFew s.inner.config 0 items
ends-few s given done chosen next last left items ok stood choice blocks are is_next all =
    let c = s.inner.config in
    let bits = inner_bits c given stood.blocks in
    let piece = all_bits next in
    let is = last-at c.inner c (skip_of chosen) given stood.blocks next left blocks in
    let few = last-few c.inner c given stood.blocks next piece is
    (omega (
      arith,
      waiting-last-few c given (with_phase s.inner.chosen stood.blocks) stood.waiting last left stood.are_due
          (record {
            chosen = chosen;
            choice = choice;
            items = stood.blocks ++ next;
            are_items = blocks;
            are = sym are;
          }),
      ap (λ (l : List WindowBlock). length (kept_bits l)) is_next,
      stood.few,
      needed-few c.inner c,
    )) in
    items-few c bits piece stood.progress.items items
    (places_in c (bits ++ piece)) 0 ok stood.progress.searched.are_items
    (subst (λ (l : List Bool). AreItems c l (stood.progress.items ++ items)) is all) (omega arith) few
