-- Octets come to few windows: each but the last keeps as many bits as the configuration says.
use Rattle.std.proofs.Common.{◌≡◌, inl, inr, ℕ, zero, suc, ◌+◌, ◌*◌, ◌/◌, ◌≤◌, ◌∙◌, ◌++◌, refl, sym, ap, subst, arith, List, [], ◌∷◌, length, Option, Some, None, if◌then◌else◌, length-append, mul-le-mul_right, add-mul}
use Rattle.std.proofs.lemmas.List.{append-nil}
use Rattle.std.proofs.lemmas.Nat.{le-div}
use Rattle.std.specs.Option.{is_some}
use Rattle.tm_config.specs.Configuration.{Configuration}
use Rattle.tm_conv.specs.declared.rates.Rate.{Rate}
use Rattle.tm_viterbi.specs.Clean.{kept_bits}
use Rattle.tm_viterbi.specs.Settings.{Settings}
use Rattle.tm_viterbi.specs.WindowBlock.{WindowBlock}
use Rattle.tm_windows.proofs.FollowedRuns.{followed-steps, kept-append}
use Rattle.tm_windows.proofs.Phases.{IsPhase-one, IsPhase-prefix}
use Rattle.tm_windows.specs.Windows.{Beginning, IsLast, first_spot, kept_of}
use Rattle.tm_windows.specs.declared.choosing.Chosen.{Chosen}
use Rattle.tm_inner.specs.Inner.{AreInnerBlocks, AreInnerDue, BlocksAt, soft_octets, windows_of}
use Rattle.tm_inner.specs.InnerWindows.{AreFurtherWindows, AreLastWindows, AreWindows, AreWindowsDue, WindowsWith, windows_after}
use Rattle.tm_inner.specs.Phase.{IsChosen, IsSettled, held_bits, skip_of, with_phase}
use Rattle.tm_inner.specs.Receiving.{FirstAt}
use Rattle.tm_inner.specs.declared.window.Window.{Window}
use Rattle.tm_inner.proofs.FewBits.{first-of-due, last-few, more-few}
use Rattle.tm_inner.proofs.FollowedBits.{followed-keep, followed-whole}
use Rattle.tm_inner.proofs.HandedBits.{handed-last-few, handed-more-few, needed-few}
use Rattle.tm_inner.proofs.PhasePieces.{items_of-with_phase}
use Rattle.tm_inner.proofs.WithPhase.{choice-stays, one-choice}
use Rattle.tm_buffers.specs.Windows.{most_windows}

-- ---- what windows keep

-- each the same; with no inner code there are none
closed-keep : (rate : Option Rate) (c : Configuration) (phase : ℕ) (octets : List ℕ) (blocks : List WindowBlock)
    → FirstAt rate c phase octets blocks
    → (length (kept_bits blocks) ≡ length blocks * c.keep) × (rate ≡ None → length blocks ≡ 0)
closed-keep None c phase octets blocks none = (grind (arith, none), λ _. ap length none)
closed-keep (Some rate) c phase octets blocks h =
    let w = windows_of c rate in
    let from = first_spot w (soft_octets c phase octets) in
    (followed-keep w from h.0 blocks h.1 ∙ followed-steps w from h.0 blocks h.1, λ none. absurd cc)

last-one : (s : Settings) (b : Beginning) (n : ℕ) (last : List WindowBlock) → IsLast s b n last → length last ≤ 1
last-one s b zero last h = omega (arith, ap length h)
last-one s b (suc n) last h = omega (arith, ap length h.1)

-- but for the last
whole-keep : (rate : Option Rate) (c : Configuration) (phase : ℕ) (octets : List ℕ) (blocks : List WindowBlock)
    (left : ℕ) → BlocksAt rate c phase octets blocks left
    → (length blocks * c.keep ≤ length (kept_bits blocks) + c.keep) × (rate ≡ None → length blocks ≡ 0)
whole-keep None c phase octets blocks left none = (grind (arith, none), λ _. ap length none.0)
whole-keep (Some rate) c phase octets blocks left h =
    let w = windows_of c rate in
    let soft = soft_octets c phase octets in
    let few = last-one w.settings h.window h.count h.last h.is_last in
    let many : length blocks ≤ length h.done + 1 = omega (arith, few, ap length h.are, length-append h.done h.last) in (
      omega (
        arith,
        mul-le-mul_right c.keep many,
        add-mul (length h.done) 1 c.keep,
        followed-steps w (first_spot w soft) h.to h.done h.closed,
        (followed-whole w soft blocks left h).bits,
        ap kept_of h.are,
        kept-append h.done h.last,
      ),
      λ none. absurd cc,
    )

-- ---- how many there are

windows-length : (c : Configuration) (phase : ℕ) (octets : List ℕ) (before blocks : List WindowBlock)
    → length (windows_after c phase octets before blocks) ≡ length blocks
windows-length c phase octets before [] = refl
windows-length c phase octets before (block ∷ blocks) =
    omega (arith, windows-length c phase octets (before ++ block ∷ []) blocks)

-- this many windows are few for so many octets
record AreFewFor (c : Configuration) (octets count : ℕ) : Type 0 where
  keep : count * c.keep ≤ held_bits c + octets + c.keep
  none : c.inner ≡ None → count ≡ 0

-- Windows after those that are due: these are the blocks of all, which keep no more bits than these octets come to, or
-- than they come to after the blocks that are due.
module _ (c : Configuration) (given octets all : List ℕ) (size : ℕ) (Are : ℕ → List WindowBlock → Type 0)
    (before windows : List Window) (w : WindowsWith Are c all (before ++ windows))
    (choice : IsChosen c (given ++ octets) w.chosen)
    (keeps : (length w.blocks * c.keep ≤ length (kept_bits w.blocks) + c.keep)
    × (c.inner ≡ None → length w.blocks ≡ 0))
    (unsettled : (IsSettled c given → ⊥) → length (kept_bits w.blocks) ≤ held_bits c + size)
    (settled : (blocks : List WindowBlock) → AreInnerDue c (skip_of w.chosen) given blocks
    → length (kept_bits w.blocks) ≤ length (kept_bits blocks) + held_bits c + size) where
  few-after : AreWindowsDue c given before → AreFewFor c size (length windows)
  few-after due = record {
    keep = elim due as (λ _. length windows * c.keep ≤ held_bits c + size + c.keep) [
      | inl none ↦ omega (
        arith,
        keeps.0,
        unsettled none.0,
        ap (λ (n : ℕ). n * c.keep) both,
        ap (λ (l : List Window). length l * c.keep) none.1,
        add-mul (length before) (length windows) c.keep,
      )
      | inr is ↦
          let g = is.1 in
          let phase = skip_of g.chosen in
          let same = one-choice IsPhase-one c (given ++ octets) g.chosen w.chosen
          (choice-stays IsPhase-prefix c given octets g.chosen is.0 g.choice) choice in
          omega (
            arith,
            keeps.0,
            settled g.blocks
                (subst (λ (o : Option Chosen). AreInnerDue c (skip_of o) given g.blocks) same g.are_blocks),
            ap (λ (n : ℕ). n * c.keep) (ap length g.are ∙ windows-length c phase given [] g.blocks),
            ap (λ (n : ℕ). n * c.keep) both,
            add-mul (length before) (length windows) c.keep,
            (closed-keep c.inner c phase given g.blocks (first-of-due c phase given g.blocks g.are_blocks)).0,
          )
    ];
    none = λ none. omega (arith, both, keeps.1 none);
  }
    where
      both : length before + length windows ≡ length w.blocks
      both = sym (length-append before windows) ∙ ap length w.are ∙ windows-length c (skip_of w.chosen) all [] w.blocks

further-few : (c : Configuration) (given octets : List ℕ) (before windows : List Window) → AreWindowsDue c given before
    → AreWindowsDue c (given ++ octets) (before ++ windows) → AreFewFor c (length octets) (length windows)
further-few c given octets before windows due (inl now) =
    let none : length windows ≡ 0 = omega (arith, ap length now.1, length-append before windows) in
    record { keep = omega (arith, ap (λ (n : ℕ). n * c.keep) none); none = λ _. none }
further-few c given octets before windows due (inr now) =
    let h = now.1 in
    let phase = skip_of h.chosen in
    let first = first-of-due c phase (given ++ octets) h.blocks h.are_blocks in
    let closed = closed-keep c.inner c phase (given ++ octets) h.blocks first in
    few-after c given octets (given ++ octets) (length octets) (λ phase. AreInnerDue c phase (given ++ octets)) before
    windows h h.choice (omega (arith, closed.0), closed.1)
    (λ none. omega (
      arith,
      ap (λ (l : List WindowBlock). length (kept_bits l)) (items_of-with_phase h.chosen h.blocks),
      needed-few c.inner c,
      handed-more-few c given octets [] (with_phase h.chosen h.blocks) (inl (none, refl)) (inr (
        now.0,
        record {
          chosen = h.chosen;
          choice = h.choice;
          items = h.blocks;
          are_items = h.are_blocks;
          are = refl;
        },
      )),
    ))
    (λ blocks is. omega (arith, more-few c phase given octets blocks h.blocks is first)) due

ending-few : (c : Configuration) (given : List ℕ) (before windows : List Window) → AreWindowsDue c given before
    → AreWindows c given (before ++ windows) → AreFewFor c 0 (length windows)
ending-few c given before windows due h =
    let phase = skip_of h.chosen in
    let left = h.are_blocks.0 in
    few-after c given [] given 0 (λ phase blocks. (left : ℕ) × AreInnerBlocks c phase given blocks left) before windows
    h (subst (λ (l : List ℕ). IsChosen c l h.chosen) (sym (append-nil given)) h.choice)
    (whole-keep c.inner c phase given h.blocks left h.are_blocks.1)
    (λ none. omega (
      arith,
      ap (λ (l : List WindowBlock). length (kept_bits l)) (items_of-with_phase h.chosen h.blocks),
      needed-few c.inner c,
      handed-last-few c given [] (with_phase h.chosen h.blocks) left (inl (none, refl)) (record {
        chosen = h.chosen;
        choice = h.choice;
        items = h.blocks;
        are_items = h.are_blocks.1;
        are = refl;
      }),
    ))
    (λ blocks is. omega (arith, last-few c phase given blocks h.blocks left is h.are_blocks.1)) due

-- so the room that is said for these octets, or for more, is enough
below : (n bits keep : ℕ) → 1 ≤ keep → n * keep ≤ bits + keep → n ≤ bits / keep + 1
below zero bits keep some few = omega arith
below (suc n) bits keep some few =
    let one : n * keep ≤ bits = omega (arith, few, add-mul n 1 keep) in omega (arith, le-div n bits keep some one)

few-most : (rate : Option Rate) (count bits keep : ℕ) → 1 ≤ keep → count * keep ≤ bits + keep
    → (rate ≡ None → count ≡ 0) → count ≤ (if is_some rate then bits / keep + 1 else 0)
few-most None count bits keep some few nothing = omega (arith, nothing refl)
few-most (Some rate) count bits keep some few nothing = below count bits keep some few

pub further-most : (c : Configuration) (given octets : List ℕ) (windows : List Window) (most : ℕ) → 1 ≤ c.keep
    → AreFurtherWindows c given octets windows → length octets ≤ most → length windows ≤ most_windows c most
further-most c given octets windows most some are more =
    let few = further-few c given octets are.0 windows are.1 are.2 in
    few-most c.inner (length windows) (held_bits c + most) c.keep some (omega (arith, few.keep, more)) few.none

pub last-most : (c : Configuration) (given : List ℕ) (windows : List Window) (most : ℕ) → 1 ≤ c.keep
    → AreLastWindows c given windows → 0 ≤ most → length windows ≤ most_windows c most
last-most c given windows most some are more =
    let few = ending-few c given are.0 windows are.1 are.2 in
    few-most c.inner (length windows) (held_bits c + most) c.keep some (omega (arith, few.keep)) few.none
