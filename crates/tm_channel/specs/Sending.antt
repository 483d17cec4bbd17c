-- What a sender keeps, and for which octets, given so far, it stands.
use Rattle.std.specs.Prelude.{◌≡◌, ℕ, ◌+◌, ◌*◌, ◌/◌, ◌≤◌, List, ◌++◌, length, Option}
use Rattle.tm_base.specs.Pieces.{Fed, FedPrefix, further}
use Rattle.tm_config.specs.Configuration.{Configuration}
use Rattle.tm_inner.specs.Sending.{InnerSending, InnerSenderStandsFor, most_symbols}
use Rattle.tm_codeblock.specs.Frames.{after_frames}
use Rattle.tm_codeblock.specs.Cadu.{unit_size}
use Rattle.tm_channel.specs.Sent.{cadus, sent}

-- what contracts see of a sender: its configuration, a prefix of a frame, and its last stage
pub record Sending : Type 0 where
  pub config : Configuration
  pub held : List ℕ
  pub inner : InnerSending

-- it holds what follows the last whole frame, and its last stage was given the whole frames'
-- units
pub record SenderStandsFor (sender : Sending) (octets : List ℕ) : Type 0 where
  pub held : sender.held ≡ after_frames sender.config.frame_length octets
  pub inner : InnerSenderStandsFor sender.inner (cadus sender.config octets)

-- given these octets, a sender went on, and these symbols are due for them
pub record Makes (before now : Sending) (octets symbols : List ℕ) : Type 0 where
  pub config : now.config ≡ before.config
  pub stands : (given : List ℕ) → SenderStandsFor before given
      → SenderStandsFor now (given ++ octets)
  pub due : (given : List ℕ) → SenderStandsFor before given
      → further (sent before.config) given octets ≡ symbols

-- What is held after these octets, and the unit of the frame that is whole with them, or nothing
-- where none is.
pub record Framed (c : Configuration) (held octets now unit : List ℕ) : Type 0 where
  pub rest : now ≡ after_frames c.frame_length (held ++ octets)
  pub made : unit ≡ cadus c (held ++ octets)
  pub frames : ℕ
  pub one : frames ≤ 1
  pub whole : length held + length octets ≡ frames * c.frame_length + length now
  pub size : length unit ≡ frames * unit_size c

-- the most symbols that come of this many octets: of a unit for each frame that is whole with them
abbrev pub most_made : Sending → ℕ → ℕ
most_made s octets = (length s.held + octets) / s.config.frame_length * unit_size s.config
    * most_symbols s.config

-- given these octets, a sender went on and wrote what is due for them
pub record Sends (before now : Sending) (taken taken_now : Option (List ℕ))
    (octets : List ℕ) : Type 0 where
  pub config : now.config ≡ before.config
  pub fed : Fed SenderStandsFor (sent before.config) before now taken taken_now octets

-- given these octets, a sender wrote a prefix of what is due for them
abbrev pub SendsPrefix : Sending → Option (List ℕ) → Option (List ℕ) → List ℕ → Type 0
SendsPrefix before taken taken_now octets =
    FedPrefix SenderStandsFor (sent before.config) before taken taken_now octets
