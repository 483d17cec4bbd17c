-- What the calls of an inner receiver promise.
use Rattle.std.specs.Prelude.{◌≡◌, ◌↔◌, ℕ, ◌+◌, ◌<◌, ◌≤◌, ◌++◌, true, false, List, length, Result, IfOk, OnOk, IsErrOf, IsTrue}
use Rattle.tm_base.specs.Calls.{CallAnswers, TakerCall}
use Rattle.tm_base.specs.Handed.{Handed, items_of}
use Rattle.tm_viterbi.specs.WindowBlock.{WindowBlock}
use Rattle.tm_viterbi.specs.WindowSizes.{stream_bound}
use Rattle.tm_windows.specs.declared.decoder.FeedError.{FeedError}
use Rattle.tm_windows.specs.declared.decoder.FeedError.TheVariants.{Stopped, Taker}
use Rattle.tm_inner.specs.declared.decoder.InnerEnd.{InnerEnd}
use Rattle.tm_inner.specs.Inner.{inner_bits, reported_slips}
use Rattle.tm_inner.specs.Phase.{IsChosen, IsChosenSoFar}
use Rattle.tm_inner.specs.Receiving.{HasHanded, InnerReceiving}
use Rattle.tm_inner.specs.Handing.{AreHanded, AreHandedDue, AreHandedFirst, AreHandedPrefix}

-- it is refused once the receiver has stopped, and fails only where the taker does
abbrev pub Calls : {R : Type 0} → (before now : InnerReceiving) → TakerCall (Handed WindowBlock)
    → Result R FeedError → Type 0
Calls before now taker result = CallAnswers Stopped Taker before.has_stopped before now
    taker.unchanged taker.before taker.now taker.is_last result

-- with these octets what is due was handed over, or the first of it until the taker failed; the
-- phase that is kept now is the one that is chosen of all octets so far, if one is
pub record Feeds {R : Type 0} (before now : InnerReceiving) (octets : List ℕ)
    (taker : TakerCall (Handed WindowBlock)) (result : Result R FeedError) : Type 0 where
  pub call : Calls before now taker result
  pub stops : IsTrue now.has_stopped ↔ OnOk result ⊥
  pub config : now.decoder.config ≡ before.decoder.config
  pub chosen : (given : List ℕ) (done : List (Handed WindowBlock))
      → HasHanded before.decoder given done
      → before.has_stopped ≡ false
      → IsChosenSoFar before.decoder.config (given ++ octets) now.decoder.chosen
  pub handed : OnOk result ((more : List (Handed WindowBlock)) × taker.took more
      × ((given : List ℕ) (done : List (Handed WindowBlock))
      → length given + length octets < stream_bound
      → HasHanded before.decoder given done
      → HasHanded now.decoder (given ++ octets) (done ++ more)
      × AreHandedDue before.decoder.config (given ++ octets) (done ++ more)))
  pub prefix : IsErrOf result Taker → (tried : List (Handed WindowBlock)) × taker.broke tried
      × ((given : List ℕ) (done : List (Handed WindowBlock))
      → length given + length octets < stream_bound
      → HasHanded before.decoder given done
      → AreHandedFirst before.decoder.config (given ++ octets) (done ++ tried))

-- at the end what is left was handed over, or the first of it until the taker failed; the result
-- has how many bits were received, how often octets were dropped, and how many are left over
pub record Finishes (before now : InnerReceiving) (taker : TakerCall (Handed WindowBlock))
    (result : Result InnerEnd FeedError) : Type 0 where
  pub call : Calls before now taker result
  pub stops : now.has_stopped ≡ true
  pub config : now.decoder.config ≡ before.decoder.config
  pub chosen : (given : List ℕ) (done : List (Handed WindowBlock))
      → HasHanded before.decoder given done
      → before.has_stopped ≡ false → IsChosen before.decoder.config given now.decoder.chosen
  pub handed : IfOk result (λ end. (last : List (Handed WindowBlock)) × taker.took last
      × ((given : List ℕ) (done : List (Handed WindowBlock))
      → HasHanded before.decoder given done
      → AreHanded before.decoder.config given (done ++ last) end.leftover
      × (end.bits ≡ length (inner_bits before.decoder.config given (items_of (done ++ last))))
      × (end.slips ≡ reported_slips before.decoder.config (items_of (done ++ last)))))
  pub prefix : IsErrOf result Taker → (tried : List (Handed WindowBlock)) × taker.broke tried
      × ((given : List ℕ) (done : List (Handed WindowBlock))
      → HasHanded before.decoder given done
      → AreHandedPrefix before.decoder.config given (done ++ tried))
  pub left : IfOk result (λ end. end.leftover ≤ 1)
