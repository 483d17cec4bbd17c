-- Where no octet is ever dropped, the blocks are those of windows one after another: where the
-- phase is not followed, and
-- where symbols were not disturbed.
use Rattle.std.proofs.Common.{◌≡◌, ◌⊎◌, inl, inr, ℕ, zero, suc, ◌+◌, ◌-◌, ◌<◌, ◌≤◌, ◌∙◌, refl, sym, ap, subst, arith, List, [], ◌∷◌, Option, Some, None, length, take, drop}
use Rattle.std.proofs.lemmas.List.Elements.{All-drop}
use Rattle.tm_conv.specs.Path.{AreBits, complement, path, register_after, steps_size}
use Rattle.tm_conv.specs.Cost.{sure}
use Rattle.tm_conv.proofs.Clean.{bits-path, digits, length-sure}
use Rattle.tm_conv.proofs.Complement.{path-complement}
use Rattle.tm_conv.proofs.Paths.{length-path, steps_size-more}
use Rattle.tm_conv.proofs.Sizes.{step_size_pos}
use Rattle.tm_viterbi.specs.Settings.{Settings}
use Rattle.tm_viterbi.specs.WindowBlock.{WindowBlock}
use Rattle.tm_viterbi.specs.Blocks.{IsBlock, AreBlocks, AreBlocksOf}
use Rattle.tm_viterbi.specs.Due.{Place, Closes, Closed, AreDue, AreFirst, after_block}
use Rattle.tm_viterbi.specs.Clean.{sure_symbols, complemented_octets}
use Rattle.tm_viterbi.proofs.CleanBlocks.{bits_of-digits, complemented-sure, digits-complement, digits-take, prefix-octets, register-small}
use Rattle.tm_viterbi.proofs.Closing.{kept_is}
use Rattle.tm_viterbi.proofs.LeastCost.{steps_le}
use Rattle.tm_viterbi.proofs.OneList.{many}
use Rattle.tm_viterbi.proofs.WholeBlocks.{all_blocks}
use Rattle.tm_windows.specs.Slip.{IsSlip}
use Rattle.tm_windows.specs.Windows.{Windows, Beginning, Spot, first_spot, moved, DropsBy, BeginsBy, Begins, BeginsLast, ClosesAt, spot_after, Followed, AreFirstIn, AreDueIn, closing_size, IsOpenAt, IsLast, AreBlocksIn}
use Rattle.tm_windows.proofs.Slips.{IsSlip-sure}
use Rattle.tm_windows.proofs.Endings.{one_block}
use Rattle.tm_windows.proofs.FollowedExists.{undropped-same}

abbrev unmoved : Place → Beginning
unmoved at = record { dropped = 0; place = at }

-- places at which nothing is dropped, and after a closed window there is again such a place
record NeverDrops (w : Windows) (P : Place → Type 0) : Type 0 where
  none : (at : Place) (b : Beginning) → P at → DropsBy w.settings w.seen at b → b ≡ unmoved at
  next : (at : Place) (x : WindowBlock) → P at → ClosesAt w.settings (unmoved at) x
      → P (after_block w.settings.rate at x)

-- no octet was dropped after the spot
abbrev IsUndropped : Option ℕ → Type 0
IsUndropped decided = (decided ≡ None) ⊎ (decided ≡ Some 0)

begins-unmoved : (w : Windows) (P : Place → Type 0) → NeverDrops w P → (spot : Spot) (b : Beginning) → P spot.place
    → IsUndropped spot.decided
    → Begins w spot b → b ≡ unmoved spot.place
begins-unmoved w P never spot b here (inl undecided) begins =
    never.none spot.place b here (subst (λ (o : Option ℕ). BeginsBy w o spot.place b) undecided begins)
begins-unmoved w P never spot b here (inr known) begins =
    subst (λ (o : Option ℕ). BeginsBy w o spot.place b) known begins

last-unmoved : (w : Windows) (P : Place → Type 0) → NeverDrops w P → (spot : Spot) (b : Beginning) → P spot.place
    → IsUndropped spot.decided
    → BeginsLast w spot b → b ≡ unmoved spot.place
last-unmoved w P never spot b here undropped (inl begins) = begins-unmoved w P never spot b here undropped begins
last-unmoved w P never spot b here undropped (inr unseen) = unseen.1

-- closed windows one after another, and such a place after them
record Plain (w : Windows) (P : Place → Type 0) (from to : Spot) (blocks : List WindowBlock) : Type 0 where
  closed : Closed w.settings.rate w.settings.invert w.settings.keep w.settings.ahead from.place blocks to.place
  place : P to.place
  undropped : IsUndropped to.decided

plain : (w : Windows) (P : Place → Type 0) → NeverDrops w P → (from to : Spot) (blocks : List WindowBlock)
    → P from.place → IsUndropped from.decided
    → Followed w from blocks to → Plain w P from to blocks
plain w P never from to [] here undropped h =
    subst (λ (v : Spot). Plain w P from v []) h (record { closed = refl; place = here; undropped = undropped })
plain w P never from to (x ∷ xs) here undropped h =
    let s = w.settings in
    let is = begins-unmoved w P never from h.0 here undropped h.1 in
    let there = subst (λ (v : Beginning). ClosesAt s v x × Followed w (spot_after s v x) xs to) is (h.2, h.3) in
    let rest = plain w P never (spot_after s (unmoved from.place) x) to xs (never.next from.place x here there.0)
    (inl refl) there.1 in
    let same = undropped-same x there.0.1 in
    record {
      closed = (
        subst (λ (v : WindowBlock). Closes s.rate s.invert s.keep s.ahead from.place v) same there.0.0,
        rest.closed,
      );
      place = rest.place;
      undropped = rest.undropped;
    }

plain_first : (w : Windows) (P : Place → Type 0) → NeverDrops w P → (octets : List ℕ) (blocks : List WindowBlock)
    → P (first_spot w octets).place
    → AreFirstIn w octets blocks → AreFirst w.settings octets blocks
plain_first w P never octets blocks here h =
    (h.0.place, (plain w P never (first_spot w octets) h.0 blocks here (inr refl) h.1).closed)

open-few : (w : Windows) (P : Place → Type 0) → NeverDrops w P → (to : Spot) → P to.place → IsUndropped to.decided
    → IsOpenAt w to
    → length to.place.octets < closing_size w.settings to.place.t
open-few w P never to here undropped (inl few) = few
open-few w P never to here undropped (inr few) =
    subst (λ (v : Beginning). length v.place.octets < closing_size w.settings v.place.t)
    (begins-unmoved w P never to few.0 here undropped few.1) few.2

plain_due : (w : Windows) (P : Place → Type 0) → NeverDrops w P → (octets : List ℕ) (blocks : List WindowBlock)
    → P (first_spot w octets).place
    → AreDueIn w octets blocks → AreDue w.settings octets blocks
plain_due w P never octets blocks here h =
    let there = plain w P never (first_spot w octets) h.to blocks here (inr refl) h.closed in
    record {
      to = h.to.place;
      closed = there.closed;
      few = open-few w P never h.to there.place there.undropped
          h.is_open;
    }

-- the block of a last window is all its blocks
last-blocks : (s : Settings) (at : Place) (n : ℕ) (last : List WindowBlock) → n ≤ s.keep + s.ahead
    → IsLast s (unmoved at) n last
    → AreBlocks s.rate s.invert s.keep s.ahead at.starts at.t n at.octets last
last-blocks s at zero last few h =
    subst (λ (v : List WindowBlock). AreBlocks s.rate s.invert s.keep s.ahead at.starts at.t 0 at.octets v)
    (sym h) refl
last-blocks s at (suc n) last few h =
    let is = subst (λ (v : WindowBlock). IsBlock s.rate s.invert s.keep s.ahead at.starts at.t (suc n) at.octets v)
    (undropped-same h.0 h.2) h.3 in
    subst (λ (v : List WindowBlock). AreBlocks s.rate s.invert s.keep s.ahead at.starts at.t (suc n) at.octets v)
    (sym h.1)
    (one_block s.rate s.invert s.keep s.ahead at.starts at.t (suc n) at.octets h.0 (omega arith) few is)

plain_blocks : (w : Windows) (P : Place → Type 0) → NeverDrops w P
    → (octets : List ℕ) (blocks : List WindowBlock) (left : ℕ) → P (first_spot w octets).place
    → AreBlocksIn w octets blocks left → AreBlocksOf w.settings octets blocks left
plain_blocks w P never octets blocks left here h =
    let s = w.settings in
    let there = plain w P never (first_spot w octets) h.to h.done here (inr refl) h.closed in
    let at = h.to.place in
    let is = last-unmoved w P never h.to h.window there.place there.undropped h.begins in
    let Rest : Beginning → Type 0 = λ v. (length v.place.octets ≡ steps_size s.rate v.place.t h.count + left)
    × (length v.place.octets < steps_size s.rate v.place.t (h.count + 1)) × IsLast s v h.count h.last in
    let rest : Rest (unmoved at) = subst Rest is (h.rest, h.steps.most, h.is_last) in
    subst (λ (v : List WindowBlock). AreBlocksOf s octets v left) (sym h.are)
    (all_blocks s octets h.done h.last at h.count left there.closed rest.0
    (omega (arith, rest.0, rest.1, steps_size-more s.rate at.t h.count))
    (last-blocks s at h.count h.last h.few rest.2))

-- ---- where the phase is not followed

never-unseen : (w : Windows) → w.seen ≡ None → NeverDrops w (λ at. Unit {0})
never-unseen w none = record {
  none = λ at b here drops. subst (λ (o : Option ℕ). DropsBy w.settings o at b) none drops;
  next = λ at x here closes. tt;
}

pub unseen-first : (w : Windows) → w.seen ≡ None → (octets : List ℕ) (blocks : List WindowBlock)
    → AreFirstIn w octets blocks → AreFirst w.settings octets blocks
unseen-first w none octets blocks = plain_first w (λ at. Unit {0}) (never-unseen w none) octets blocks tt

pub unseen-due : (w : Windows) → w.seen ≡ None → (octets : List ℕ) (blocks : List WindowBlock)
    → AreDueIn w octets blocks → AreDue w.settings octets blocks
unseen-due w none octets blocks = plain_due w (λ at. Unit {0}) (never-unseen w none) octets blocks tt

pub unseen-blocks : (w : Windows) → w.seen ≡ None → (octets : List ℕ) (blocks : List WindowBlock) (left : ℕ)
    → AreBlocksIn w octets blocks left
    → AreBlocksOf w.settings octets blocks left
unseen-blocks w none octets blocks left = plain_blocks w (λ at. Unit {0}) (never-unseen w none) octets blocks left tt

-- ---- undisturbed symbols

-- the octets from there on are symbols of some path, undisturbed
record IsSure (s : Settings) (at : Place) : Type 0 where
  register : ℕ
  bits : List ℕ
  small : register < 64
  are : AreBits bits
  octets : at.octets ≡ sure (path s.rate s.invert at.t register bits)

sure-length : (s : Settings) (at : Place) (h : IsSure s at) → length at.octets ≡ steps_size s.rate at.t (length h.bits)
sure-length s at h =
    ap length h.octets ∙ length-sure (path s.rate s.invert at.t h.register h.bits)
    ∙ length-path s.rate s.invert at.t h.register h.bits

sure-none : (s : Settings) (seen : Option ℕ) (at : Place) (b : Beginning) → IsSure s at → DropsBy s seen at b
    → b ≡ unmoved at
sure-none s None at b h drops = drops
sure-none s (Some steps) at b h drops =
    let few : steps ≤ length h.bits = steps_le s.rate at.t steps (length h.bits)
    (omega (arith, drops.0, sure-length s at h)) in
    let slip = subst (λ (v : List ℕ). IsSlip s.rate s.invert at.t steps v b.dropped) h.octets drops.1 in
    let none : b.dropped ≡ 0 = IsSlip-sure s.rate s.invert at.t steps h.register h.bits b.dropped h.are h.small few
    slip in
    let place : b.place ≡ at = drops.2 ∙ ap (λ (k : ℕ). moved k at) none in
    λ i. record { dropped = none i; place = place i }

sure-next : (s : Settings) (at : Place) (x : WindowBlock) → IsSure s at → ClosesAt s (unmoved at) x
    → IsSure s (after_block s.rate at x)
sure-next s at x h closes =
    let kept : x.kept ≡ s.keep = closes.0.is_block.kept ∙ kept_is s.keep s.ahead in
    let inside : x.kept ≤ length h.bits = omega (
      arith,
      kept,
      many s.rate at.t (length h.bits) (s.keep + s.ahead + 1) (length at.octets)
          (omega (
            arith,
            sure-length s at h,
            steps_size-more s.rate at.t (length h.bits),
            step_size_pos s.rate (at.t + length h.bits),
          )) closes.0.room,
    ) in
    record {
      register = register_after h.register (take x.kept h.bits);
      bits = drop x.kept h.bits;
      small = register-small h.register (take x.kept h.bits) h.small (digits-take x.kept h.bits (digits h.bits h.are));
      are = All-drop (λ bit. bit < 2) x.kept h.bits h.are;
      octets =
          ap (drop (steps_size s.rate at.t x.kept)) h.octets
          ∙ (prefix-octets s.rate s.invert at.t h.register x.kept h.bits inside).1;
    }

never-sure : (w : Windows) → NeverDrops w (IsSure w.settings)
never-sure w = record { none = sure-none w.settings w.seen; next = sure-next w.settings }

pub sure-blocks : (w : Windows) (register : ℕ) (bits : List ℕ) (blocks : List WindowBlock) (left : ℕ) → AreBits bits
    → register < 64
    → AreBlocksIn w (sure_symbols w.settings register bits) blocks left
    → AreBlocksOf w.settings (sure_symbols w.settings register bits) blocks left
sure-blocks w register bits blocks left are small =
    plain_blocks w (IsSure w.settings) (never-sure w) (sure_symbols w.settings register bits) blocks left
    (record { register = register; bits = bits; small = small; are = are; octets = refl })

-- symbols complemented are those of the bits and the register complemented
pub complemented-blocks : (w : Windows) (register : ℕ) (bits : List ℕ) (blocks : List WindowBlock) (left : ℕ)
    → AreBits bits → register < 64
    → AreBlocksIn w (complemented_octets (sure_symbols w.settings register bits)) blocks left
    → AreBlocksOf w.settings (complemented_octets (sure_symbols w.settings register bits)) blocks left
complemented-blocks w register bits blocks left are small h =
    let s = w.settings in
    let octets : complemented_octets (sure_symbols s register bits) ≡ sure_symbols s (63 - register) (complement bits) =
    complemented-sure (path s.rate s.invert 0 register bits) (bits-path s.rate s.invert 0 register bits)
    ∙ ap sure (sym (path-complement s.rate s.invert 0 register bits small are)) in
    subst (λ (v : List ℕ). AreBlocksOf s v blocks left) (sym octets)
    (sure-blocks w (63 - register) (complement bits) blocks left
    (bits_of-digits (complement bits) (digits-complement bits)) (omega arith)
    (subst (λ (v : List ℕ). AreBlocksIn w v blocks left) octets h))
