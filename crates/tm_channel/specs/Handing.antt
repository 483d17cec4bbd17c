-- What a receiver hands over for received octets: the symbol phase, where it is to be found, and
-- then items.
use Rattle.std.specs.Prelude.{◌≡◌, ℕ, Bool, if◌then◌else◌, List, length, Some, None}
use Rattle.tm_base.specs.Handed.{Handed}
use Rattle.tm_config.specs.Configuration.{Configuration}
use Rattle.tm_viterbi.specs.WindowBlock.{WindowBlock}
use Rattle.tm_inner.specs.Inner.{Inner, reported_slips}
use Rattle.tm_inner.specs.SymbolPlaces.{symbol_at}
use Rattle.tm_inner.specs.Phase.{WithPhase, WithPhaseSettled, WithPhaseSoFar}
use Rattle.tm_channel.specs.declared.totals.Totals.{Totals}
use Rattle.tm_channel.specs.Items.{ItemValue, AreItems, HaveSymbols}
use Rattle.tm_channel.specs.Receive.{ReceiveDue, ReceiveFirst, ReceivePrefix}

-- what octets come to that are received as these bits, in these blocks
abbrev pub totals_of : Configuration → List Bool → List WindowBlock → Totals
totals_of c bits blocks = record { bits = length bits; slips = reported_slips c blocks }

-- what octets come to that were not disturbed: this many bits, and no octet was dropped
abbrev pub clean_totals : Configuration → ℕ → Totals
clean_totals c count = record { bits = count; slips = if c.follow then Some 0 else None }

-- these are the items of received octets, and what the octets come to
abbrev pub ReceiveAll : Configuration → ℕ → List ℕ → Totals → List ItemValue → Type 0
ReceiveAll c phase octets totals items = (bits : List Bool) × (inner : Inner c phase octets bits)
    × (totals ≡ totals_of c bits inner.blocks) × AreItems c bits items
    × HaveSymbols (symbol_at c phase inner.blocks) items

-- all that is handed over, and what the octets come to
abbrev pub AreReceived : Configuration → List ℕ → List (Handed ItemValue) → Totals → Type 0
AreReceived c octets handed totals = WithPhase
    (λ phase. ReceiveAll c phase octets totals) c octets handed

-- what is due, whatever octets come: the phase, once it is settled, and the items that are due
abbrev pub AreReceivedDue : Configuration → List ℕ → List (Handed ItemValue) → Type 0
AreReceivedDue c octets = WithPhaseSoFar (λ phase. ReceiveDue c phase octets) c octets

-- the first of what is handed over, whatever octets come
abbrev pub AreReceivedFirst : Configuration → List ℕ → List (Handed ItemValue) → Type 0
AreReceivedFirst c octets = WithPhaseSettled (λ phase. ReceiveFirst c phase octets) c octets

-- the first of all
abbrev pub AreReceivedPrefix : Configuration → List ℕ → List (Handed ItemValue) → Type 0
AreReceivedPrefix c octets = WithPhase (λ phase. ReceivePrefix c phase octets) c octets
