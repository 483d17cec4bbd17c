-- What the calls of a receiver promise.
use Rattle.std.specs.Prelude.{◌≡◌, ◌↔◌, ℕ, Bool, true, false, List, Option, None, Result, IfOk, IfSome, OnOk, IsErrOf, IsTrue}
use Rattle.tm_base.specs.Calls.{CallAnswers}
use Rattle.tm_base.specs.Handed.{Handed}
use Rattle.tm_channel.specs.declared.totals.Totals.{Totals}
use Rattle.tm_channel.specs.declared.receiver.RecvError.{RecvError}
use Rattle.tm_channel.specs.declared.receiver.RecvError.TheVariants.{Stopped, Taker}
use Rattle.tm_channel.specs.Items.{ItemValue}
use Rattle.tm_channel.specs.OctetReceiving.{FeedBreaks, FeedChooses, FeedHands, FinishBreaks, FinishChooses, FinishHands, OctetReceiving}

-- it is refused once the receiver has stopped, and fails only where the taker does
abbrev pub Calls : {T R : Type 0} → (faults : T → ℕ) → (is_last : T → Type 0)
    → (before now : OctetReceiving) → (taker taker_now : T) → Result R RecvError → Type 0
Calls faults is_last before now taker taker_now result = CallAnswers Stopped Taker
    before.has_stopped before now (taker_now ≡ taker) (faults taker) (faults taker_now)
    (is_last taker_now) result

-- with these octets what is due was handed over, or the first of it until the taker failed
pub record Feeds {T R : Type 0} (took broke : T → Handed ItemValue → T → Type 0) (faults : T → ℕ)
    (is_last : T → Type 0) (before now : OctetReceiving) (taker taker_now : T) (octets : List ℕ)
    (result : Result R RecvError) : Type 0 where
  pub call : Calls faults is_last before now taker taker_now result
  pub stops : IsTrue now.has_stopped ↔ OnOk result ⊥
  pub config : now.config ≡ before.config
  pub handed : OnOk result (FeedHands took before now taker taker_now octets)
  pub prefix : IsErrOf result Taker → FeedBreaks took broke before taker taker_now octets
  pub chosen : FeedChooses before now octets

-- at the end what is left was handed over, or the first of it until the taker failed
pub record Finishes {T : Type 0} (took broke : T → Handed ItemValue → T → Type 0) (faults : T → ℕ)
    (is_last : T → Type 0) (before now : OctetReceiving) (taker taker_now : T)
    (result : Result Totals RecvError) : Type 0 where
  pub call : Calls faults is_last before now taker taker_now result
  pub stops : now.has_stopped ≡ true
  pub config : now.config ≡ before.config
  pub handed : IfOk result (FinishHands took before taker taker_now)
  pub prefix : IsErrOf result Taker → FinishBreaks took broke before taker taker_now
  pub chosen : FinishChooses before now

-- With these octets what is due was handed over to what never fails; or the receiver had stopped.
pub record Tells {T : Type 0} (took : T → Handed ItemValue → T → Type 0)
    (before now : OctetReceiving) (watch watch_now : T) (octets : List ℕ) (went : Bool)
    : Type 0 where
  pub stopped : (went ≡ false) ↔ IsTrue before.has_stopped
  pub unchanged : went ≡ false → (now ≡ before) × (watch_now ≡ watch)
  pub going : IsTrue went → now.has_stopped ≡ false
  pub config : now.config ≡ before.config
  pub handed : IsTrue went → FeedHands took before now watch watch_now octets
  pub chosen : FeedChooses before now octets

-- and at the end what is left
pub record TellsLast {T : Type 0} (took : T → Handed ItemValue → T → Type 0)
    (before now : OctetReceiving) (watch watch_now : T) (result : Option Totals) : Type 0 where
  pub stopped : (result ≡ None) ↔ IsTrue before.has_stopped
  pub unchanged : result ≡ None → (now ≡ before) × (watch_now ≡ watch)
  pub stops : now.has_stopped ≡ true
  pub config : now.config ≡ before.config
  pub handed : IfSome result (FinishHands took before watch watch_now)
  pub chosen : FinishChooses before now
