-- Of received octets few windows are handed over, which keep few bits; and what is due comes first.
use Rattle.std.proofs.Common.{ℕ, ◌<◌, ◌≤◌, List, [], ◌++◌, length, sym, ◌∙◌, ap, subst, arith, length-append, Option, Some, None}
use Rattle.std.proofs.lemmas.List.{append-nil}
use Rattle.tm_base.specs.Handed.{Handed, items_of}
use Rattle.tm_base.proofs.HandedItems.{items_of-append}
use Rattle.tm_config.specs.Configuration.{Configuration}
use Rattle.tm_config.specs.Accepted.{IsAccepted}
use Rattle.tm_conv.specs.declared.rates.Rate.{Rate}
use Rattle.tm_viterbi.specs.WindowBlock.{WindowBlock}
use Rattle.tm_windows.specs.Windows.{kept_of}
use Rattle.tm_windows.proofs.FollowedRuns.{kept-append}
use Rattle.tm_inner.specs.Inner.{windows_of, soft_octets, BlocksAt}
use Rattle.tm_inner.specs.Phase.{skip_of}
use Rattle.tm_inner.specs.Handing.{AreHanded, AreHandedDue}
use Rattle.tm_inner.proofs.FollowedBits.{followed-count_all, followed-whole}
use Rattle.tm_inner.proofs.ReceivedBits.{length-soft}
use Rattle.tm_inner.proofs.PhasePieces.{items_of-with_phase}

-- windows that are at most as many as octets, and keep no more bits than these are
abbrev pub AreFew : List WindowBlock → List ℕ → Type 0
AreFew blocks octets = (length blocks ≤ length octets) × (kept_of blocks ≤ length octets)

few-at : (rate : Option Rate) (c : Configuration) (phase : ℕ) (octets : List ℕ) (blocks : List WindowBlock) (left : ℕ)
    → 0 < c.keep → BlocksAt rate c phase octets blocks left → AreFew blocks octets
few-at None c phase octets blocks left some are = (omega (arith, ap length are.0), omega (arith, ap kept_of are.0))
few-at (Some rate) c phase octets blocks left some are =
    let w = windows_of c rate in
    let soft = soft_octets c phase octets in
    let kept : kept_of blocks ≤ length octets = omega
    (arith, (followed-whole w soft blocks left are).few, length-soft c phase octets) in
    (omega (arith, followed-count_all w soft blocks left some are, kept), kept)

pub few-handed : (c : Configuration) (octets : List ℕ) (handed : List (Handed WindowBlock)) (left : ℕ) → IsAccepted c
    → AreHanded c octets handed left → AreFew (items_of handed) octets
few-handed c octets handed left accepted h =
    let keep = accepted.some_keep in
    subst (λ (l : List WindowBlock). AreFew l octets) (sym (ap items_of h.are ∙ items_of-with_phase h.chosen h.items))
    (few-at c.inner c (skip_of h.chosen) octets h.items left (omega (arith, keep)) h.are_items)

-- what is due comes first of all, whatever octets come
abbrev pub DueFirst : Type 0
DueFirst = (c : Configuration) (octets more : List ℕ) (due : List (Handed WindowBlock)) → IsAccepted c
    → AreHandedDue c octets due → (rest : List (Handed WindowBlock)) × (left : ℕ)
    × AreHanded c (octets ++ more) (due ++ rest) left

pub few-due : DueFirst → (c : Configuration) (octets : List ℕ) (handed : List (Handed WindowBlock)) → IsAccepted c
    → AreHandedDue c octets handed → AreFew (items_of handed) octets
few-due law c octets handed accepted due =
    let all = law c octets [] handed accepted due in
    let few = few-handed c (octets ++ []) (handed ++ all.0) all.1 accepted all.2 in
    let same = ap length (append-nil octets) in
    let items = items_of-append handed all.0 in (
      omega (arith, few.0, same, ap length items, length-append (items_of handed) (items_of all.0)),
      omega (arith, few.1, same, ap kept_of items, kept-append (items_of handed) (items_of all.0)),
    )
