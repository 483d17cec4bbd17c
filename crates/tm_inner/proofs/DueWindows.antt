-- What is said of windows that are due is said first of the windows of longer octets.
use Rattle.std.proofs.Common.{◌≡◌, ◌∙◌, inl, inr, ℕ, ◌-◌, ◌++◌, List, length, drop, map, sym, ap, subst, Option, Some, None, []}
use Rattle.tm_config.specs.Configuration.{Configuration}
use Rattle.tm_conv.specs.declared.rates.Rate.{Rate}
use Rattle.tm_viterbi.specs.WindowBlock.{WindowBlock}
use Rattle.tm_windows.specs.declared.choosing.Chosen.{Chosen}
use Rattle.tm_windows.specs.Windows.{AreDueIn, Windows}
use Rattle.tm_inner.specs.Inner.{AreInnerBlocks, AreInnerDue, DueAt, soft_octets, soft_value, windows_of}
use Rattle.tm_inner.specs.InnerWindows.{AreWindows, AreWindowsDue, WindowsWith, windows_after}
use Rattle.tm_inner.specs.Phase.{skip_of}
use Rattle.tm_inner.specs.declared.window.Window.{Window}
use Rattle.tm_inner.proofs.DueBits.{StandFirst, StayClosed, blocks-first, soft-more}
use Rattle.tm_inner.proofs.FewBits.{first-of-due}
use Rattle.tm_inner.proofs.KeptOctets.{windows-first}
use Rattle.tm_inner.proofs.PhasePieces.{PhaseStays}
use Rattle.tm_inner.proofs.WatchedWindows.{windows-append}
use Rattle.tm_inner.proofs.WithPhase.{GoOn, OnePhase, choice-stays, one-choice, settled-stays}

-- the blocks that are due for longer octets go on
abbrev pub GoesOn : Type 0
GoesOn = (w : Windows) (octets more : List ℕ) (due later : List WindowBlock)
    → AreDueIn w octets due → AreDueIn w (octets ++ more) later
    → (rest : List WindowBlock) × (later ≡ due ++ rest)

due-later : GoesOn → (rate : Option Rate) (c : Configuration) (phase : ℕ) (octets more : List ℕ)
    (due later : List WindowBlock) → DueAt rate c phase octets due → DueAt rate c phase (octets ++ more) later
    → (rest : List WindowBlock) × (later ≡ due ++ rest)
due-later longer None c phase octets more due later is then_is =
    ([], then_is ∙ ap (λ (l : List WindowBlock). l ++ []) (sym is))
due-later longer (Some rate) c phase octets more due later is then_is =
    let w = windows_of c rate in
    let back = map (soft_value c) (drop (phase - length (drop c.skip octets)) (drop (c.skip - length octets) more)) in
    longer w (soft_octets c phase octets) back due later is
    (subst (λ (l : List ℕ). AreDueIn w l later) (soft-more c phase octets more) then_is)

module _ (stays : PhaseStays) (one : OnePhase) (c : Configuration) (octets more : List ℕ) where
  -- of blocks of the longer octets that go on from those that are due
  due-of : (Are : ℕ → List WindowBlock → Type 0) (due windows : List Window)
      → GoOn (λ phase blocks. AreInnerDue c phase octets blocks) Are → AreWindowsDue c octets due
      → WindowsWith Are c (octets ++ more) windows → (rest : List Window) × (windows ≡ due ++ rest)
  due-of Are due windows on (inl none) w = (windows, ap (λ (l : List Window). l ++ windows) (sym none.1))
  due-of Are due windows on (inr is) w =
      let phase = skip_of w.chosen in
      let all = octets ++ more in
      let same : is.1.chosen ≡ w.chosen = one-choice one c all is.1.chosen w.chosen
      (choice-stays stays c octets more is.1.chosen is.0 is.1.choice) w.choice in
      let due_are = subst (λ (o : Option Chosen). AreInnerDue c (skip_of o) octets is.1.blocks) same
      is.1.are_blocks in
      let split = on phase is.1.blocks w.blocks due_are w.are_blocks in
      let rest = windows_after c phase all is.1.blocks split.0 in
      let first : windows_after c phase all [] is.1.blocks ≡ due =
      sym (is.1.are ∙ ap (λ (o : Option Chosen). windows_after c (skip_of o) octets [] is.1.blocks) same
      ∙ windows-first c phase octets more is.1.blocks (first-of-due c phase octets is.1.blocks due_are)) in (
        rest,
        w.are ∙ ap (windows_after c phase all []) split.1
            ∙ windows-append c phase all [] is.1.blocks split.0 ∙ ap (λ (l : List Window). l ++ rest) first,
      )

  pub windows-later : GoesOn → (due later : List Window) → AreWindowsDue c octets due
      → AreWindowsDue c (octets ++ more) later → (rest : List Window) × (later ≡ due ++ rest)
  windows-later longer due later (inl none) is = (later, ap (λ (l : List Window). l ++ later) (sym none.1))
  windows-later longer due later (inr settled) (inl none) =
      absurd (none.0 (settled-stays c octets more settled.0))
  windows-later longer due later (inr settled) (inr is) =
      due-of (λ phase blocks. AreInnerDue c phase (octets ++ more) blocks) due later
      (λ phase. due-later longer c.inner c phase octets more) (inr settled) is.1

  pub windows-all : StayClosed → StandFirst → (due windows : List Window) → AreWindowsDue c octets due
      → AreWindows c (octets ++ more) windows → (rest : List Window) × (windows ≡ due ++ rest)
  windows-all stay first due windows =
      due-of (λ phase blocks. (left : ℕ) × AreInnerBlocks c phase (octets ++ more) blocks left) due windows
      (λ phase due_blocks blocks is all. blocks-first stay first c.inner c phase octets more due_blocks blocks all.0 is
      all.1)
