-- What certifying gives of the octets that were read.
use Rattle.std.specs.Prelude.{◌≡◌, ℕ, ◌<◌, ◌≤◌, false, List, [], ◌∷◌, length, take, Option, Some, None}
use Rattle.tm_config.specs.Accepted.{IsAccepted}
use Rattle.tm_config.specs.Configuration.{Configuration}
use Rattle.tm_conv.specs.Columns.{last_certified}
use Rattle.tm_driver.specs.Writing.{Text, AreOut, TookOut}
use Rattle.tm_viterbi.specs.Starts.{first_start}
use Rattle.tm_viterbi.specs.WindowBlock.{WindowBlock}
use Rattle.tm_windows.specs.Queue.{Queueing, octets_of, step_of, window_size}
use Rattle.tm_inner.specs.InnerDecoding.{HasChosen, InnerDecoding, InnerDecoderStandsFor, IsDrained, IsQueueOf, ready_in}
use Rattle.tm_inner.specs.Phase.{IsSoFarBy, phase_octets, skip_of}
use Rattle.tm_cert_file.specs.Certificate.{AreCertified, IsCertified}
use Rattle.tm_path_commands.specs.Certify.{IsCertifiedAll, TextAt}

-- from which registers the window after these blocks starts
abbrev pub starts_after : Option ℕ → List WindowBlock → Option ℕ
starts_after start [] = start
starts_after start (block ∷ blocks) = starts_after (Some block.end_state) blocks

-- ---- the windows that are ready

-- a window of a queue was given, whose paths start from `start`
pub record GaveWindow {T : Type 0} (took : T → Text → T → Type 0) (q : Queueing) (index : ℕ)
    (start : Option ℕ) (block : WindowBlock) (texts texts_now : T) : Type 0 where
  pub text : List ℕ
  pub gave : TookOut took texts texts_now text
  pub is : step_of q index ≤ last_certified
      → IsCertified q.windows.settings.rate q.windows.settings.invert start (step_of q index)
      (take (window_size q index block) (octets_of q index)) block text

-- windows that are ready begin at steps that are certified
abbrev pub BeginEarly : Queueing → (count : ℕ) → Type 0
BeginEarly q count = (index : ℕ) → index < count → step_of q index ≤ last_certified

-- this is the certificate of blocks that are ready
abbrev pub IsReadyText : Option Queueing → (start : Option ℕ) → List ℕ → Type 0
IsReadyText None start text = text ≡ []
IsReadyText (Some q) start text = BeginEarly q (length q.ready) → AreCertified
    q.windows.settings.rate q.windows.settings.invert start q.run_t q.read q.ready text

-- it was given, by a decoder whose queue is that of its configuration, and so the next window starts
pub record GaveReady {T : Type 0} (took : T → Text → T → Type 0) (d : InnerDecoding)
    (start start_now : Option ℕ) (texts texts_now : T) : Type 0 where
  pub of : IsQueueOf d.config d.queue
  pub same : HasChosen d.queue d.chosen
  pub text : List ℕ
  pub gave : TookOut took texts texts_now text
  pub is : IsReadyText d.queue start text
  pub next : start_now ≡ starts_after start (ready_in d.queue)

-- ---- what was given of the octets

-- a decoder whose windows are certified, and from which registers the next one starts
pub record Certifier : Type 0 where
  pub decoder : InnerDecoding
  pub start : Option ℕ

abbrev pub certifier : InnerDecoding → Option ℕ → Certifier
certifier decoder start = record { decoder = decoder; start = start }

-- It does not follow a phase. It was given these octets, and the certificate of the windows that
-- were decoded was given.
pub record Certifies (s : Certifier) (octets : List ℕ) (texts : List Text) : Type 0 where
  pub accepted : IsAccepted s.decoder.config
  pub unfollowed : s.decoder.config.follow ≡ false
  pub blocks : List WindowBlock
  pub stands : InnerDecoderStandsFor s.decoder octets blocks
  pub start : s.start ≡ starts_after (first_start s.decoder.config.start) blocks
  pub text : List ℕ
  pub is_text : TextAt s.decoder.config.inner s.decoder.config (skip_of s.decoder.chosen) octets
      blocks text
  pub are : AreOut texts text

-- by a configuration, and all windows that are due were decoded
pub record CertifiesDue (c : Configuration) (s : Certifier) (octets : List ℕ) (texts : List Text)
    : Type 0 where
  pub config : s.decoder.config ≡ c
  pub drained : IsDrained s.decoder.queue
  pub so_far : IsSoFarBy s.decoder.config (phase_octets s.decoder.config octets) s.decoder.chosen
  pub certifies : Certifies s octets texts

-- the certificate of all windows of these octets was given
pub record CertifiesAll (c : Configuration) (octets : List ℕ) (texts : List Text) : Type 0 where
  pub text : List ℕ
  pub is_text : IsCertifiedAll c octets text
  pub are : AreOut texts text
