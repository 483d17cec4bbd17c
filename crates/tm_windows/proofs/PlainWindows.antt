-- Where no slip is looked for the blocks are the plain list of those of windows one after another.
use Rattle.std.proofs.Common.{◌≡◌, ◌↔◌, inl, ℕ, ◌<◌, ◌∙◌, refl, sym, subst, List, [], ◌∷◌, None, length}
use Rattle.tm_viterbi.specs.WindowBlock.{WindowBlock}
use Rattle.tm_viterbi.specs.Blocks.{AreBlocksOf}
use Rattle.tm_viterbi.specs.Due.{Place, Closed, AreDue, AreFirst, first_place}
use Rattle.tm_viterbi.proofs.HasBlocks.{HasBest}
use Rattle.tm_viterbi.proofs.OneList.{OneBest, only_list}
use Rattle.tm_windows.specs.Windows.{Windows, Spot, first_spot, Followed, AreFirstIn, AreDueIn, AreBlocksIn, IsSeen, closing_size}
use Rattle.tm_windows.proofs.FollowedExists.{followed-exists}
use Rattle.tm_windows.proofs.FollowedRuns.{run-followed, unfollowed-all}
use Rattle.tm_windows.proofs.Undisturbed.{unseen-blocks, unseen-due, unseen-first}

unseen-seen : (w : Windows) → w.seen ≡ None → IsSeen w
unseen-seen w none = λ steps is. absurd (let both = sym none ∙ is in cc)

-- windows that are closed one after another, with no octet dropped between them
record Unmoved (w : Windows) (octets : List ℕ) (blocks : List WindowBlock) (place : Place) : Type 0 where
  to : Spot
  closed : Followed w (first_spot w octets) blocks to
  at : to.place ≡ place

unmoved : (w : Windows) → w.seen ≡ None → (octets : List ℕ) (blocks : List WindowBlock) (place : Place)
    → Closed w.settings.rate w.settings.invert w.settings.keep w.settings.ahead (first_place w.settings octets) blocks
    place → Unmoved w octets blocks place
unmoved w none octets [] place h = record { to = first_spot w octets; closed = refl; at = h }
unmoved w none octets (x ∷ xs) place h =
    let at = first_place w.settings octets in
    record {
      to = record { place = place; decided = None };
      closed = run-followed w (first_spot w octets) at place x xs refl h
          (unfollowed-all w none at.t (length (x ∷ xs)) at.octets);
      at = refl;
    }

pub plain-first : (w : Windows) (octets : List ℕ) (blocks : List WindowBlock) → w.seen ≡ None
    → AreFirstIn w octets blocks ↔ AreFirst w.settings octets blocks
plain-first w octets blocks none = (
  unseen-first w none octets blocks,
  λ first. (let there = unmoved w none octets blocks first.0 first.1 in (there.to, there.closed)),
)

pub plain-due : (w : Windows) (octets : List ℕ) (blocks : List WindowBlock) → w.seen ≡ None
    → AreDueIn w octets blocks ↔ AreDue w.settings octets blocks
plain-due w octets blocks none = (
  unseen-due w none octets blocks,
  λ due. (let there = unmoved w none octets blocks due.to due.closed in record {
    to = there.to;
    closed = there.closed;
    is_open = inl
        (subst (λ (p : Place). length p.octets < closing_size w.settings p.t) (sym there.at) due.few);
  }),
)

pub plain-blocks : HasBest → OneBest → (w : Windows) (octets : List ℕ) (blocks : List WindowBlock) (left : ℕ)
    → w.seen ≡ None → 0 < w.settings.keep
    → AreBlocksIn w octets blocks left ↔ AreBlocksOf w.settings octets blocks left
plain-blocks best one w octets blocks left none wide = (
  unseen-blocks w none octets blocks left,
  λ are. (let other = followed-exists best w octets wide (unseen-seen w none) in
      let same = only_list one w.settings octets other.0 blocks other.1 left
      (unseen-blocks w none octets other.0 other.1 other.2) are in
      subst (λ (n : ℕ). AreBlocksIn w octets blocks n) same.1
      (subst (λ (b : List WindowBlock). AreBlocksIn w octets b other.1) same.0 other.2)),
)
