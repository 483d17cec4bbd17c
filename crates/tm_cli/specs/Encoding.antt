-- How far frames are sent.
use Rattle.std.specs.Prelude.{◌≡◌, ℕ, List, [], ◌∷◌, ◌++◌}
use Rattle.tm_config.specs.Configuration.{Configuration}
use Rattle.tm_channel.specs.Sending.{SenderStandsFor}
use Rattle.tm_channel.specs.Sent.{sent}
use Rattle.tm_driver.specs.Lines.{left_over_text}
use Rattle.tm_driver.specs.Writing.{Text, Note, AreOut}
use Rattle.tm_cli.specs.Encode.{left_over}
use Rattle.tm_cli.specs.declared.encode_command.Encoding.{Encoding}

-- since it was new a sender was given these octets, and their symbols were written
pub record Encodes (new now : Encoding) (octets : List ℕ) (texts : List Text) : Type 0 where
  pub config : now.sender.config ≡ new.sender.config
  pub stands : SenderStandsFor now.sender octets
  pub are : AreOut texts (sent new.sender.config octets)

-- the symbols of all octets were written, and then on the notes how many are left over
pub record EncodesAll (c : Configuration) (octets : List ℕ) (texts : List Text) : Type 0 where
  pub symbols : List Text
  pub are : AreOut symbols (sent c octets)
  pub all : texts ≡ symbols ++ Note (left_over_text (left_over c octets)) ∷ []
