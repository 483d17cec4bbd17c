-- The bits that blocks keep in windows before which octets may be dropped.
use Rattle.std.proofs.Common.{◌≡◌, inl, inr, ℕ, zero, suc, ◌+◌, ◌-◌, ◌<◌, ◌≤◌, ◌∙◌, ◌++◌, refl, sym, ap, subst, arith, List, [], ◌∷◌, length, take, length-append, length-take}
use Rattle.std.proofs.lemmas.Bool.{cases_lt}
use Rattle.tm_conv.specs.Path.{steps_size}
use Rattle.tm_conv.proofs.Sizes.{steps_size-add, steps_size-least}
use Rattle.tm_viterbi.specs.Settings.{Settings}
use Rattle.tm_viterbi.specs.WindowBlock.{WindowBlock}
use Rattle.tm_viterbi.specs.Blocks.{IsBlock}
use Rattle.tm_viterbi.specs.Clean.{kept_bits}
use Rattle.tm_viterbi.proofs.Closing.{kept_is, more_octets}
use Rattle.tm_conv.proofs.Unique.{IsBest-unique}
use Rattle.tm_viterbi.proofs.OneList.{OneBest}
use Rattle.tm_viterbi.proofs.WholeBlocks.{last_kept}
use Rattle.tm_windows.specs.Windows.{Windows, Beginning, Spot, first_spot, BeginsLast, undropped, spot_after, Followed, AreFirstIn, IsOpenAt, AreDueIn, IsLast, AreBlocksIn, kept_of}
use Rattle.tm_windows.proofs.Beginnings.{begins-one, begins-more, begins-within, longer_beginning, longer_spot}
use Rattle.tm_windows.proofs.FollowedOnce.{closed-more, one-longer, open-stops, last-stops, both-stop}
use Rattle.tm_windows.proofs.FollowedRuns.{kept-append, begun-taken, followed-taken}
use Rattle.tm_inner.proofs.ReceivedBits.{block-bits, kept-le}

-- ---- what blocks keep

-- a block keeps as many bits as it says
block-keeps : (s : Settings) (b : Beginning) (n : ℕ) (x : WindowBlock)
    → steps_size s.rate b.place.t n ≤ length b.place.octets
    → IsBlock s.rate s.invert s.keep s.ahead b.place.starts b.place.t n b.place.octets (undropped x)
    → length (take x.kept x.bits) ≡ x.kept
block-keeps s b n x whole is =
    let less : x.kept ≤ x.steps = omega (arith, is.kept, is.steps, kept-le s.keep s.ahead n) in
    omega (
      arith,
      less,
      length-take x.kept x.bits,
      block-bits s.rate s.invert s.keep s.ahead b.place.starts b.place.t n b.place.octets (undropped x) whole is,
    )

pub followed-keep : (w : Windows) (from to : Spot) (blocks : List WindowBlock) → Followed w from blocks to
    → length (kept_bits blocks) ≡ kept_of blocks
followed-keep w from to [] h = refl
followed-keep w from to (x ∷ xs) h =
    let s = w.settings in
    omega (
      arith,
      length-append (take x.kept x.bits) (kept_bits xs),
      block-keeps s h.0 (s.keep + s.ahead + 1) x h.2.0.room h.2.0.is_block,
      followed-keep w (spot_after s h.0 x) to xs h.3,
    )

pub followed-few : (w : Windows) (octets : List ℕ) (blocks : List WindowBlock) → AreFirstIn w octets blocks
    → length (kept_bits blocks) ≤ length octets
followed-few w octets blocks h =
    let taken = followed-taken w (first_spot w octets) h.0 blocks h.1 in
    omega (
      arith,
      followed-keep w (first_spot w octets) h.0 blocks h.1,
      taken.octets,
      steps_size-least w.settings.rate 0 (kept_of blocks),
    )

-- ---- all blocks

-- what the last window keeps
record KeepsLast (last : List WindowBlock) (n : ℕ) : Type 0 where
  bits : length (kept_bits last) ≡ n
  steps : kept_of last ≡ n

last-keeps : (s : Settings) (b : Beginning) (n : ℕ) (last : List WindowBlock)
    → steps_size s.rate b.place.t n ≤ length b.place.octets → n ≤ s.keep + s.ahead
    → IsLast s b n last → KeepsLast last n
last-keeps s b zero last whole few h =
    subst (λ (v : List WindowBlock). KeepsLast v 0) (sym h) (record { bits = refl; steps = refl })
last-keeps s b (suc n) last whole few h =
    let x = h.0 in
    let kept : x.kept ≡ suc n = h.3.kept ∙ sym (last_kept s.keep s.ahead (suc n) few) in
    let prefix = block-keeps s b (suc n) x whole h.3 in
    subst (λ (v : List WindowBlock). KeepsLast v (suc n)) (sym h.1) (record {
      bits = omega (arith, prefix, kept, length-append (take x.kept x.bits) []);
      steps = omega (arith, kept);
    })

bits-append : (first rest : List WindowBlock) → length (kept_bits (first ++ rest))
    ≡ length (kept_bits first) + length (kept_bits rest)
bits-append [] rest = omega arith
bits-append (x ∷ first) rest = omega (
  arith,
  length-append (take x.kept x.bits) (kept_bits (first ++ rest)),
  length-append (take x.kept x.bits) (kept_bits first),
  bits-append first rest,
)

begins_last-within : (w : Windows) (to : Spot) (b : Beginning) → BeginsLast w to b
    → length b.place.octets ≤ length to.place.octets
begins_last-within w to b (inl begins) = (begins-within w to b begins).1
begins_last-within w to b (inr unseen) = omega (arith, ap (λ (v : Beginning). length v.place.octets) unseen.1)

-- all blocks keep as many bits as they say, and no more than the octets have
pub record WholeKeeps (octets : List ℕ) (blocks : List WindowBlock) (left : ℕ) : Type 0 where
  pub bits : length (kept_bits blocks) ≡ kept_of blocks
  pub few : kept_of blocks + left ≤ length octets

pub followed-whole : (w : Windows) (octets : List ℕ) (blocks : List WindowBlock) (left : ℕ)
    → AreBlocksIn w octets blocks left → WholeKeeps octets blocks left
followed-whole w octets blocks left h =
    let s = w.settings in
    let from = first_spot w octets in
    let at = h.window.place in
    let last = last-keeps s h.window h.count h.last h.steps.whole h.few h.is_last in
    let taken = followed-taken w from h.to h.done h.closed in
    let within = begins_last-within w h.to h.window h.begins in
    let first = followed-keep w from h.to h.done h.closed in
    subst (λ (v : List WindowBlock). WholeKeeps octets v left) (sym h.are) (record {
      bits = omega (arith, bits-append h.done h.last, kept-append h.done h.last, first, last.bits, last.steps);
      few = omega (
        arith,
        kept-append h.done h.last,
        last.steps,
        taken.octets,
        h.rest,
        within,
        steps_size-least s.rate 0 (kept_of h.done),
        steps_size-least s.rate at.t h.count,
      );
    })

pub followed-whole_few : (w : Windows) (octets : List ℕ) (blocks : List WindowBlock) (left : ℕ)
    → AreBlocksIn w octets blocks left → length (kept_bits blocks) ≤ length octets
followed-whole_few w octets blocks left h =
    let k = followed-whole w octets blocks left h in omega (arith, k.bits, k.few)

-- ---- blocks of further octets keep few bits more than those that are due

-- a step has an octet at least, so fewer than `count` octets more are fewer than `count` steps more
few-steps : (s : Settings) (t m k count : ℕ) → steps_size s.rate t m < steps_size s.rate t (k + 1) + count
    → m ≤ k + count
few-steps s t m k count less = elim (cases_lt (k + count) m) as (λ _. m ≤ k + count) [
  | inl more ↦ absurd
      (let split : (k + 1) + (m - (k + 1)) ≡ m = omega (arith, more) in
      omega (
        arith,
        less,
        more,
        ap (steps_size s.rate t) split,
        steps_size-add s.rate t (k + 1) (m - (k + 1)),
        steps_size-least s.rate (t + (k + 1)) (m - (k + 1)),
      ))
  | inr le ↦ le
]

longer-place : (spot : Spot) (octets : List ℕ) → ((longer_spot spot octets).place.t ≡ spot.place.t)
    × (length (longer_spot spot octets).place.octets ≡ length spot.place.octets + length octets)
unfolding more_octets
longer-place spot octets = (refl, length-append spot.place.octets octets)

longer-begun : (b : Beginning) (octets : List ℕ) → ((longer_beginning b octets).place.t ≡ b.place.t)
    × (length (longer_beginning b octets).place.octets ≡ length b.place.octets + length octets)
unfolding more_octets
longer-begun b octets = (refl, length-append b.place.octets octets)

-- windows that further octets close, where none was closed before
rest-few : (w : Windows) (to at : Spot) (octets : List ℕ) (rest : List WindowBlock) → IsOpenAt w to
    → Followed w (longer_spot to octets) rest at
    → kept_of rest ≤ w.settings.keep + w.settings.ahead + length octets
rest-few w to at octets [] is_open h = omega arith
rest-few w to at octets (x ∷ xs) (inl few) h =
    let s = w.settings in
    let taken = followed-taken w (longer_spot to octets) at (x ∷ xs) h in
    let place = longer-place to octets in
    few-steps s to.place.t (kept_of (x ∷ xs)) (s.keep + s.ahead) (length octets)
    (omega (arith, taken.octets, place.1, ap (λ (t : ℕ). steps_size s.rate t (kept_of (x ∷ xs))) place.0, few))
rest-few w to at octets (x ∷ xs) (inr few) h =
    let s = w.settings in
    let b = few.0 in
    let n : ℕ = kept_of (x ∷ xs) in
    let same = begins-one w (longer_spot to octets) h.0 (longer_beginning b octets) h.1
    (begins-more w to b octets few.1) in
    let taken : steps_size s.rate h.0.place.t n ≤ length h.0.place.octets =
    omega (arith, begun-taken w (longer_spot to octets) at x xs h (followed-taken w (spot_after s h.0 x) at xs h.3)) in
    let there = subst (λ (v : Beginning). steps_size s.rate v.place.t n ≤ length v.place.octets) same taken in
    let place = longer-begun b octets in
    few-steps s b.place.t n (s.keep + s.ahead) (length octets)
    (omega (arith, there, place.1, ap (λ (t : ℕ). steps_size s.rate t n) place.0, few.2))

more-few : OneBest → (w : Windows) (given octets : List ℕ) (done all : List WindowBlock)
    → AreDueIn w given done
    → AreFirstIn w (given ++ octets) all → kept_of all
    ≤ kept_of done + w.settings.keep + w.settings.ahead + length octets
more-few one w given octets done all due first =
    elim (one-longer one w (first_spot w (given ++ octets)) (longer_spot due.to octets) first.0 done all
    (closed-more w given octets done due.to due.closed) first.1)
    as (λ _. kept_of all ≤ kept_of done + w.settings.keep + w.settings.ahead + length octets) [
      | inl on ↦ omega (
        arith,
        ap kept_of on.1,
        kept-append done on.0,
        rest-few w due.to first.0 octets on.0 due.is_open on.2,
      )
      | inr on ↦ omega (arith, ap kept_of on.1, kept-append all on.0)
    ]

-- all blocks of the same octets keep at most a window more than those that are due
last-few : OneBest → (w : Windows) (given : List ℕ) (done all : List WindowBlock) (left : ℕ)
    → AreDueIn w given done
    → AreBlocksIn w given all left → kept_of all ≤ kept_of done + w.settings.keep + w.settings.ahead
last-few one w given done all left due whole =
    let s = w.settings in
    let same = both-stop one w (first_spot w given) due.to whole.to done whole.done due.closed whole.closed
    (open-stops w due.to due.is_open)
    (last-stops w whole.to whole.window whole.count whole.begins whole.steps whole.few) in
    let last = last-keeps s whole.window whole.count whole.last whole.steps.whole whole.few whole.is_last in
    omega (arith, ap kept_of whole.are, kept-append whole.done whole.last, last.steps, whole.few, ap kept_of same.0)

-- the same of their bits
pub followed-more_few : (w : Windows) (given octets : List ℕ) (done all : List WindowBlock) → AreDueIn w given done
    → AreFirstIn w (given ++ octets) all → length (kept_bits all)
    ≤ length (kept_bits done) + w.settings.keep + w.settings.ahead + length octets
followed-more_few w given octets done all due first = omega (
  arith,
  more-few IsBest-unique w given octets done all due first,
  followed-keep w (first_spot w given) due.to done due.closed,
  followed-keep w (first_spot w (given ++ octets)) first.0 all first.1,
)

pub followed-last_few : (w : Windows) (given : List ℕ) (done all : List WindowBlock) (left : ℕ)
    → AreDueIn w given done → AreBlocksIn w given all left
    → length (kept_bits all) ≤ length (kept_bits done) + w.settings.keep + w.settings.ahead
followed-last_few w given done all left due whole = omega (
  arith,
  last-few IsBest-unique w given done all left due whole,
  (followed-whole w given all left whole).bits,
  followed-keep w (first_spot w given) due.to done due.closed,
)

-- ---- how many windows there are

-- each closed one keeps a step or more
pub followed-count : (w : Windows) (from to : Spot) (blocks : List WindowBlock) → 0 < w.settings.keep
    → Followed w from blocks to
    → length blocks ≤ kept_of blocks
followed-count w from to [] some h = omega arith
followed-count w from to (x ∷ xs) some h =
    let s = w.settings in
    omega (
      arith,
      some,
      h.2.0.is_block.kept ∙ kept_is s.keep s.ahead,
      followed-count w (spot_after s h.0 x) to xs some h.3,
    )

last-count : (s : Settings) (b : Beginning) (n : ℕ) (last : List WindowBlock) → IsLast s b n last → length last ≤ n
last-count s b zero last h = omega (arith, ap length h)
last-count s b (suc n) last h = omega (arith, ap length h.1)

pub followed-count_all : (w : Windows) (octets : List ℕ) (blocks : List WindowBlock) (left : ℕ) → 0 < w.settings.keep
    → AreBlocksIn w octets blocks left → length blocks ≤ kept_of blocks
followed-count_all w octets blocks left some h =
    let last = last-keeps w.settings h.window h.count h.last h.steps.whole h.few h.is_last in
    omega (
      arith,
      ap length h.are,
      ap kept_of h.are,
      length-append h.done h.last,
      kept-append h.done h.last,
      last.steps,
      last-count w.settings h.window h.count h.last h.is_last,
      followed-count w (first_spot w octets) h.to h.done some h.closed,
    )
