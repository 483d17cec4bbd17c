-- A queue of windows whose phase is given.
use Rattle.std.proofs.Common.{◌≡◌, ◌∙◌, ◌++◌, ◌∷◌, ◌+◌, ◌-◌, ◌≤◌, ℕ, refl, sym, ap, subst, arith, append_assoc, false, List, [], Option, Some, None, drop, length, length-append, take, take-add}
use Rattle.std.proofs.lemmas.List.{map-id, nil_from_length, take-append-drop, take_rest}
use Rattle.tm_base.specs.SoftForm.{from_form}
use Rattle.tm_base.specs.Takers.{HandedOver, HandedPart}
use Rattle.tm_viterbi.specs.WindowBlock.{WindowBlock}
use Rattle.tm_windows.specs.declared.choosing.Chosen.{Chosen}
use Rattle.tm_windows.specs.Queue.{Queueing, AwaitsPhase, IsChoice, IsOpen, IsSameQueue, QueueEndsFor, QueueStandsFor, skip_of}
use Rattle.tm_windows.specs.Windows.{Windows, AreBlocksIn, AreDueIn, AreFirstIn}
use Rattle.tm_windows.proofs.FollowedOnce.{followed-prefix}
use Rattle.tm_windows.proofs.HeldOctets.{after_phase, open-due, open-few}

pub same-twice : (first second third : Queueing) → IsSameQueue first second → IsSameQueue second third
    → IsSameQueue first third
same-twice first second third h k = record {
  windows = k.windows ∙ h.windows;
  find = k.find ∙ h.find;
  most = k.most ∙ h.most;
  workers = k.workers ∙ h.workers;
}

pub chosen-none : (q : Queueing) → q.find ≡ false → AwaitsPhase q → ⊥
chosen-none q given awaits = let both = sym given ∙ awaits.0 in cc

-- no octet stands before the first window
skip-none : (q : Queueing) (octets all : List ℕ) (chosen : Option Chosen) → q.find ≡ false → IsChoice q octets chosen
    → drop (skip_of chosen) all ≡ all
skip-none q octets all None given choice = refl
skip-none q octets all (Some chosen) given choice = absurd (let both = sym given ∙ choice.0 in cc)

pub given-first : (q : Queueing) (octets : List ℕ) (done : List WindowBlock) → q.find ≡ false
    → QueueStandsFor q octets done → AreFirstIn q.windows octets done
given-first q octets done given stands =
    let after = after_phase q octets done stands (chosen-none q given) in
    subst (λ (v : List ℕ). AreFirstIn q.windows v done) (skip-none q octets octets q.chosen given after.choice)
    (after.to, after.closed)

pub given-due : (q : Queueing) (octets : List ℕ) (done : List WindowBlock) → q.find ≡ false
    → QueueStandsFor q octets done → IsOpen q → AreDueIn q.windows octets done
given-due q octets done given stands is =
    let none = chosen-none q given in
    let after = after_phase q octets done stands none in
    subst (λ (v : List ℕ). AreDueIn q.windows v done) (skip-none q octets octets q.chosen given after.choice)
    (open-due q octets done after (open-few q is none))

pub given-blocks : (q : Queueing) (octets : List ℕ) (blocks : List WindowBlock) (left : ℕ) → q.find ≡ false
    → QueueEndsFor q octets blocks left → AreBlocksIn q.windows octets blocks left
given-blocks q octets blocks left given ends =
    subst (λ (v : List ℕ). AreBlocksIn q.windows v blocks left) (skip-none q octets octets q.chosen given ends.choice)
    ends.blocks

-- ---- a piece of octets

-- some octets more of it, after those before
pub piece-more : (given piece : List ℕ) (at n : ℕ)
    → (given ++ take at piece) ++ from_form false (take n (take (length piece - at) (drop at piece)))
    ≡ given ++ take (at + n) piece
piece-more given piece at n =
    append_assoc given (take at piece) (from_form false (take n (take (length piece - at) (drop at piece))))
    ∙ ap (λ (v : List ℕ). given ++ (take at piece ++ v))
    (map-id (take n (take (length piece - at) (drop at piece))) ∙ ap (take n) (take_rest piece at))
    ∙ ap (λ (v : List ℕ). given ++ v) (sym (take-add at n piece))

-- the blocks of first windows are those of the whole piece as well
pub piece-first : (w : Windows) (given piece : List ℕ) (n : ℕ) (done : List WindowBlock)
    → AreFirstIn w (given ++ take n piece) done → AreFirstIn w (given ++ piece) done
piece-first w given piece n done first =
    subst (λ (v : List ℕ). AreFirstIn w v done)
    (append_assoc given (take n piece) (drop n piece) ∙ ap (λ (v : List ℕ). given ++ v) (take-append-drop n piece))
    (followed-prefix w (given ++ take n piece) (drop n piece) done first)

-- windows before which no octet is dropped
pub plain-windows : (w : Windows) → w.seen ≡ None → w ≡ record { settings = w.settings; seen = None }
plain-windows w none = λ i. record { settings = w.settings; seen = none i }

-- ---- blocks that are handed over

-- where the taker failed at one of at most one
pub one-broke : {T I : Type 0} (took broke : T → I → T → Type 0) (before now : T) (items : List I) → length items ≤ 1
    → HandedPart took broke before items now → (item : I) × broke before item now × (items ≡ item ∷ [])
one-broke took broke before now items few part =
    let long : length items ≡ length part.prefix + (length part.rest + 1) =
    omega (arith, ap length part.split, length-append part.prefix (part.next ∷ part.rest)) in
    let none = nil_from_length part.prefix (omega (arith, few, long)) in
    let last = nil_from_length part.rest (omega (arith, few, long)) in
    let same = subst (λ (v : List _). HandedOver took before v part.middle) none part.handed in (
      part.next,
      subst (λ t. broke t part.next now) (sym same) part.failed,
      part.split ∙ ap (λ (v : List _). v ++ part.next ∷ part.rest) none ∙ ap (λ (v : List _). part.next ∷ v) last,
    )
