-- What contracts see of a decoder, and for which octets, given so far, and which blocks, handed
-- over so far, it stands.
use Rattle.std.specs.Prelude.{ℕ, ◌≡◌, Bool, List, length, None, Result}
use Rattle.tm_base.specs.Calls.{CallAnswers, TakerCall}
use Rattle.tm_viterbi.specs.Settings.{Settings}
use Rattle.tm_viterbi.specs.WindowBlock.{WindowBlock}
use Rattle.tm_windows.specs.Queue.{Queueing, QueueStandsFor}
use Rattle.tm_windows.specs.declared.decoder.FeedError.{FeedError}
use Rattle.tm_windows.specs.declared.decoder.FeedError.TheVariants.{Stopped, Taker}

-- what contracts see of a decoder
pub record Decoding : Type 0 where
  pub settings : Settings
  -- an earlier call answered Taker, or `finish` was called
  pub has_stopped : Bool
  -- how many octets were given
  pub count : ℕ
  -- its windows
  pub queue : Queueing

-- a decoder that was given these octets and no others, and has handed over these blocks
pub record DecoderStandsFor (d : Decoding) (given : List ℕ) (done : List WindowBlock) : Type 0 where
  pub settings : d.queue.windows ≡ record { settings = d.settings; seen = None }
  pub count : length given ≡ d.count
  pub stands : QueueStandsFor d.queue given done

-- a call of it is refused once it has stopped, and fails only where the taker does
abbrev pub Calls : {R : Type 0} → (before now : Decoding) → TakerCall WindowBlock
    → Result R FeedError → Type 0
Calls before now taker result = CallAnswers Stopped Taker before.has_stopped before now
    taker.unchanged taker.before taker.now taker.is_last result
