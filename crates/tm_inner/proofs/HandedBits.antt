-- What is handed over after the choice of the phase comes to few bits.
use Rattle.std.proofs.Common.{◌⊎◌, ℕ, ◌≡◌, ◌+◌, ◌-◌, ◌*◌, ◌≤◌, ◌<◌, ◌^◌, ◌∙◌, refl, List, [], ◌∷◌, ◌++◌, length, drop, map, ap, sym, subst, arith, inl, inr, Option, Some, None, length-append, length-drop}
use Rattle.std.proofs.lemmas.List.{append-nil, length-map}
use Rattle.std.proofs.lemmas.Bool.{cases_lt}
use Rattle.tm_base.specs.Handed.{Handed, Item, items_of}
use Rattle.tm_base.proofs.HandedItems.{items_of-append, items_of-items}
use Rattle.tm_config.specs.Accepted.{IsAccepted}
use Rattle.tm_config.specs.Configuration.{Configuration}
use Rattle.tm_config.specs.declared.values.Sought.TheVariants.{Given, Find}
use Rattle.tm_config.proofs.Choices.{given_or_find, never_both}
use Rattle.tm_conv.specs.declared.rates.Rate.{Rate}
use Rattle.tm_conv.proofs.Sizes.{steps_size-most}
use Rattle.tm_viterbi.specs.WindowBlock.{WindowBlock}
use Rattle.tm_viterbi.specs.Clean.{kept_bits}
use Rattle.tm_windows.specs.declared.choosing.Chosen.{Chosen}
use Rattle.tm_windows.proofs.Phases.{period_size_most}
use Rattle.tm_inner.specs.Inner.{windows_of, soft_value, soft_octets, BlocksAt, AreInnerBlocks}
use Rattle.tm_inner.specs.Phase.{IsChosenBy, IsSettled, needed_at, skipped_at, phase_octets, skip_of, with_phase}
use Rattle.tm_inner.specs.Receiving.{FirstAt, AreInnerFirst}
use Rattle.tm_inner.specs.Handing.{AreHanded, AreHandedDue}
use Rattle.tm_inner.proofs.DueBits.{kept-append}
use Rattle.tm_inner.proofs.ReceivedBits.{length-soft}
use Rattle.tm_inner.proofs.PhasePieces.{items_of-with_phase}
use Rattle.tm_inner.proofs.WithPhase.{settled-stays}
use Rattle.tm_inner.proofs.HandedPieces.{needed-some}
use Rattle.tm_inner.proofs.FollowedBits.{followed-few, followed-whole_few}
use Rattle.tm_inner.proofs.FewBits.{due-none, first-of-due, more-few, last-few}

-- ---- the phase needs few octets

pub needed-few : (rate : Option Rate) (c : Configuration) → needed_at rate c ≤ 2 * (c.keep + c.ahead) + 7
needed-few None c = omega arith
needed-few (Some rate) c = omega (arith, steps_size-most rate 0 (c.keep + c.ahead), period_size_most rate)

-- ---- the blocks of octets with the phase found

-- before the choice there are few octets
unsettled-few : (c : Configuration) (given : List ℕ) → (IsSettled c given → ⊥)
    → length (phase_octets c given) < needed_at c.inner c
unsettled-few c given unsettled =
    elim (cases_lt (length (phase_octets c given)) (needed_at c.inner c)) as
    (λ _. length (phase_octets c given) < needed_at c.inner c) [
      | inl less ↦ less
      | inr many ↦ absurd (unsettled (inr many))
    ]

length-phase : (c : Configuration) (octets : List ℕ) → length (phase_octets c octets)
    ≡ length octets - skipped_at c.inner c
length-phase c octets =
    length-map (drop (skipped_at c.inner c) octets) (soft_value c) ∙ length-drop (skipped_at c.inner c) octets

skip-most : (rate : Option Rate) (c : Configuration) → skipped_at rate c ≤ c.skip
skip-most None c = omega arith
skip-most (Some rate) c = omega arith

-- with 2^60-1 octets or more the phase is settled
pub many-settled : (c : Configuration) → IsAccepted c → (octets : List ℕ) → 2 ^ 60 ≤ length octets + 1
    → IsSettled c octets
many-settled c ok octets many = inr (omega (
  arith,
  many,
  needed-few c.inner c,
  length-phase c octets,
  skip-most c.inner c,
  ok.skip,
  ok.keep,
  ok.ahead,
))

-- what the first blocks of octets keep is no more than the soft octets that are decoded
first-bits : (rate : Option Rate) (c : Configuration) (phase : ℕ) (octets : List ℕ) (blocks : List WindowBlock)
    → FirstAt rate c phase octets blocks
    → length (kept_bits blocks) ≤ length octets - skipped_at rate c
first-bits None c phase octets blocks are = omega (arith, ap (λ (l : List WindowBlock). length (kept_bits l)) are)
first-bits (Some rate) c phase octets blocks are =
    let w = windows_of c rate in
    omega (arith, followed-few w (soft_octets c phase octets) blocks are, length-soft c phase octets)

whole-bits : (rate : Option Rate) (c : Configuration) (phase : ℕ) (octets : List ℕ) (blocks : List WindowBlock)
    (left : ℕ) → BlocksAt rate c phase octets blocks left
    → length (kept_bits blocks) ≤ length octets - skipped_at rate c
whole-bits None c phase octets blocks left are =
    omega (arith, ap (λ (l : List WindowBlock). length (kept_bits l)) are.0)
whole-bits (Some rate) c phase octets blocks left are =
    let w = windows_of c rate in
    omega (arith, followed-whole_few w (soft_octets c phase octets) blocks left are, length-soft c phase octets)

-- what was handed over, and blocks or anything else after it
items-of : (chosen : Option Chosen) (items : List WindowBlock) (done more : List (Handed WindowBlock))
    → done ++ more ≡ with_phase chosen items → items_of done ++ items_of more ≡ items
items-of chosen items done more are =
    sym (items_of-append done more) ∙ ap items_of are ∙ items_of-with_phase chosen items

nothing : (done more : List (Handed WindowBlock)) → done ++ more ≡ [] → (done ≡ []) × (more ≡ [])
nothing [] more none = (refl, none)
nothing (x ∷ done) more none = absurd cc

-- where blocks wait after what was handed over, it begins with the phase that it goes on with
same-skip : (c : Configuration) (soft soft_now : List ℕ) (chosen other : Option Chosen)
    (waiting items all : List WindowBlock) (done more : List (Handed WindowBlock))
    → IsChosenBy c soft chosen → IsChosenBy c soft_now other → done ++ map Item waiting ≡ with_phase chosen items
    → done ++ more ≡ with_phase other all → skip_of chosen ≡ skip_of other
same-skip c soft soft_now None None waiting items all done more is now are whole = refl
same-skip c soft soft_now None (Some b) waiting items all done more is now are whole =
    absurd (never_both c.phase is now.0)
same-skip c soft soft_now (Some a) None waiting items all done more is now are whole =
    absurd (never_both c.phase now is.0)
same-skip c soft soft_now (Some a) (Some b) [] items all [] more is now are whole = absurd cc
same-skip c soft soft_now (Some a) (Some b) (w ∷ waiting) items all [] more is now are whole = absurd cc
same-skip c soft soft_now (Some a) (Some b) waiting items all (x ∷ done) more is now are whole = cc

length-kept : (xs ys all : List WindowBlock) → xs ++ ys ≡ all
    → length (kept_bits all) ≡ length (kept_bits xs) + length (kept_bits ys)
length-kept xs ys all is =
    sym (ap (λ (l : List WindowBlock). length (kept_bits l)) is) ∙ ap length (kept-append xs ys)
    ∙ length-append (kept_bits xs) (kept_bits ys)

-- further blocks, where some wait
pub waiting-more-few : (c : Configuration) (given octets : List ℕ) (done : List (Handed WindowBlock))
    (waiting : List WindowBlock) (more : List (Handed WindowBlock))
    → AreHandedDue c given (done ++ map Item waiting) → AreHandedDue c (given ++ octets) (done ++ more)
    → length (kept_bits (items_of more)) ≤ length (kept_bits waiting) + needed_at c.inner c + c.keep + c.ahead +
    length octets
waiting-more-few c given octets done waiting more (inl before) (inl now) =
    omega (arith, ap (λ (l : List (Handed WindowBlock)). length (kept_bits (items_of l))) (nothing done more now.1).1)
waiting-more-few c given octets done waiting more (inr before) (inl now) =
    absurd (now.0 (settled-stays c given octets before.0))
waiting-more-few c given octets done waiting more (inl before) (inr now) =
    let h = now.1 in
    let all = length-kept (items_of done) (items_of more) h.items (items-of h.chosen h.items done more h.are) in
    let first = first-bits c.inner c (skip_of h.chosen) (given ++ octets) h.items
    (first-of-due c (skip_of h.chosen) (given ++ octets) h.items h.are_items) in
    omega (arith, all, first, length-append given octets, length-phase c given, unsettled-few c given before.0)
waiting-more-few c given octets done waiting more (inr before) (inr now) =
    let g = before.1 in
    let h = now.1 in
    let skip = same-skip c (phase_octets c given) (phase_octets c (given ++ octets)) g.chosen h.chosen waiting g.items
    h.items done more g.choice h.choice g.are h.are in
    let first : AreInnerFirst c (skip_of g.chosen) (given ++ octets) h.items =
    subst (λ (n : ℕ). AreInnerFirst c n (given ++ octets) h.items) (sym skip)
    (first-of-due c (skip_of h.chosen) (given ++ octets) h.items h.are_items) in
    let was = length-kept (items_of done) (items_of (map Item waiting)) g.items
    (items-of g.chosen g.items done (map Item waiting) g.are) in
    let all = length-kept (items_of done) (items_of more) h.items (items-of h.chosen h.items done more h.are) in
    omega (
      arith,
      more-few c (skip_of g.chosen) given octets g.items h.items g.are_items first,
      was,
      all,
      ap (λ (l : List WindowBlock). length (kept_bits l)) (items_of-items waiting),
    )

-- the blocks of the end
pub waiting-last-few : (c : Configuration) (given : List ℕ) (done : List (Handed WindowBlock))
    (waiting : List WindowBlock) (last : List (Handed WindowBlock)) (left : ℕ)
    → AreHandedDue c given (done ++ map Item waiting) → AreHanded c given (done ++ last) left
    → length (kept_bits (items_of last)) ≤ length (kept_bits waiting) + needed_at c.inner c + c.keep + c.ahead
waiting-last-few c given done waiting last left (inl before) h =
    let all = length-kept (items_of done) (items_of last) h.items (items-of h.chosen h.items done last h.are) in
    let whole = whole-bits c.inner c (skip_of h.chosen) given h.items left h.are_items in
    omega (arith, all, whole, length-phase c given, unsettled-few c given before.0)
waiting-last-few c given done waiting last left (inr before) h =
    let g = before.1 in
    let skip = same-skip c (phase_octets c given) (phase_octets c given) g.chosen h.chosen waiting g.items h.items
    done last g.choice h.choice g.are h.are in
    let whole : AreInnerBlocks c (skip_of g.chosen) given h.items left =
    subst (λ (n : ℕ). AreInnerBlocks c n given h.items left) (sym skip) h.are_items in
    let was = length-kept (items_of done) (items_of (map Item waiting)) g.items
    (items-of g.chosen g.items done (map Item waiting) g.are) in
    let all = length-kept (items_of done) (items_of last) h.items (items-of h.chosen h.items done last h.are) in
    omega (
      arith,
      last-few c (skip_of g.chosen) given g.items h.items left g.are_items whole,
      was,
      all,
      ap (λ (l : List WindowBlock). length (kept_bits l)) (items_of-items waiting),
    )

-- the same where none waits
pub handed-more-few : (c : Configuration) (given octets : List ℕ) (done more : List (Handed WindowBlock))
    → AreHandedDue c given done → AreHandedDue c (given ++ octets) (done ++ more)
    → length (kept_bits (items_of more)) ≤ needed_at c.inner c + c.keep + c.ahead + length octets
handed-more-few c given octets done more due now =
    omega (
      arith,
      waiting-more-few c given octets done [] more
          (subst (AreHandedDue c given) (sym (append-nil done)) due) now,
    )

pub handed-last-few : (c : Configuration) (given : List ℕ) (done last : List (Handed WindowBlock)) (left : ℕ)
    → AreHandedDue c given done → AreHanded c given (done ++ last) left
    → length (kept_bits (items_of last)) ≤ needed_at c.inner c + c.keep + c.ahead
handed-last-few c given done last left due h =
    omega (
      arith,
      waiting-last-few c given done [] last left
          (subst (AreHandedDue c given) (sym (append-nil done)) due) h,
    )

-- no octets have nothing that is due
pub handed-due-none : (c : Configuration) → 1 ≤ c.keep → AreHandedDue c [] []
handed-due-none c some = by_phase (given_or_find c.phase)
  where
    by_phase : (c.phase ≡ Given) ⊎ (c.phase ≡ Find) → AreHandedDue c [] []
    by_phase (inl given) =
        inr (inl given, record { chosen = None; choice = given; items = []; are_items = due-none c; are = refl })
    by_phase (inr find) = inl (unsettled, refl)
      where
        unsettled : IsSettled c [] → ⊥
        unsettled (inl given) = never_both c.phase given find
        unsettled (inr many) = omega (arith, many, length-phase c [], needed-some c.inner c some)
