-- What is due, and then the rest of all that is handed over.
use Rattle.std.proofs.Common.{ℕ, List, ◌++◌, subst}
use Rattle.tm_base.specs.Handed.{Handed}
use Rattle.tm_config.specs.Accepted.{IsAccepted}
use Rattle.tm_config.specs.Configuration.{Configuration}
use Rattle.tm_viterbi.specs.WindowBlock.{WindowBlock}
use Rattle.tm_inner.specs.Handing.{AreHanded, AreHandedDue}
use Rattle.tm_inner.specs.Inner.{AreInnerBlocks, AreInnerDue}
use Rattle.tm_inner.proofs.DueBits.{StandFirst, StayClosed, blocks-first}
use Rattle.tm_inner.proofs.InnerBits.{HasBlocks, has_blocks}
use Rattle.tm_inner.proofs.PhasePieces.{PhaseStays}
use Rattle.tm_inner.proofs.WithPhase.{HasPhase, OnePhase, with_phase-exists, with_phase-so_far}

pub due-then-all : HasBlocks → StandFirst → HasPhase → OnePhase → StayClosed → PhaseStays → (c : Configuration)
    (octets more : List ℕ) (due : List (Handed WindowBlock)) → IsAccepted c → AreHandedDue c octets due
    → (rest : List (Handed WindowBlock)) × (left : ℕ) × AreHanded c (octets ++ more) (due ++ rest) left
due-then-all exists first phase one stay stays c octets more due accepted is =
    let whole = octets ++ more in
    let all = with_phase-exists (λ n blocks. (left : ℕ) × AreInnerBlocks c n whole blocks left) phase c whole
    (λ n. let b = has_blocks exists c n whole accepted in (b.0, (b.1, b.2))) in
    let left = all.1.are_items.0 in
    let handed : AreHanded c whole all.0 left = record {
      chosen = all.1.chosen;
      choice = all.1.choice;
      items = all.1.items;
      are_items = all.1.are_items.1;
      are = all.1.are;
    } in
    let split = with_phase-so_far (λ n. AreInnerDue c n octets) (λ n blocks. AreInnerBlocks c n whole blocks left)
    stays one c octets more due all.0
    (λ n some blocks p q. blocks-first stay first c.inner c n octets more some blocks left p q) is handed in
    (split.0, left, subst (λ (l : List (Handed WindowBlock)). AreHanded c whole l left) split.1 handed)
