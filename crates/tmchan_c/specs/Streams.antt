-- What a call does with the stream behind a handle.
use Rattle.std.specs.Prelude.{◌≡◌, ◌==◌, ℕ, ℤ, Bool, if◌then◌else◌, pos, negsuc, List, Option, Some, None, unwrap_or}
use Rattle.std.specs.Option.{option_or}
use Rattle.tm_channel.specs.OctetReceiving.{OctetReceiving}
use Rattle.tm_channel.specs.Sending.{Sending}
use Rattle.tm_channel.specs.declared.totals.Totals.{Totals}
use Rattle.tm_inner.specs.InnerDecoding.{InnerDecoding}
use Rattle.tm_windows.specs.declared.choosing.Chosen.{Chosen}
use Rattle.tm_buffers.specs.Buffer.{has_room}
use Rattle.tm_buffers.specs.Decoding.{bits_room}
use Rattle.tm_buffers.specs.Sending.{symbols_room}
use Rattle.tm_buffers.specs.Windows.{windows_room}
use Rattle.tm_buffers.specs.declared.items.Written.{Written}
use Rattle.tmchan_c.specs.Refusal.{config_refusal, number_answer, refused, unless}
use Rattle.tmchan_c.specs.declared.phase.PhaseState.{PhaseState}
use Rattle.tmchan_c.specs.declared.refusal.Refusal.{Refusal}
use Rattle.tmchan_c.specs.declared.refusal.Refusal.TheVariants.{Room, Closed, Open, Memory}
use Rattle.tmchan_c.specs.declared.stream.Stream.{Stream}
use Rattle.tmchan_c.specs.declared.stream.Stream.TheVariants.{Sender, Decoder, Receiver}
use Rattle.tmchan_c.specs.declared.totals.TotalsState.{TotalsState}

-- the sender, the decoder and the receiver that a handle holds, or none
abbrev pub sender_in : Option Stream → Option Sending
sender_in (Some (Sender sender)) = Some sender
sender_in held = None

abbrev pub decoder_in : Option Stream → Option InnerDecoding
decoder_in (Some (Decoder decoder)) = Some decoder
decoder_in held = None

abbrev pub receiver_in : Option Stream → Option OctetReceiving
receiver_in (Some (Receiver receiver)) = Some receiver
receiver_in held = None

-- the first reason to refuse to open a handle, where it is open or not, or none
abbrev pub open_refusal : Bool → List ℕ → Option Refusal
open_refusal is_open options = if is_open then Some Open else config_refusal options

-- the reason to refuse a call on a stream that is there or not, or none
abbrev pub closed_refusal : {T : Type 0} → Option T → Option Refusal
closed_refusal None = Some Closed
closed_refusal (Some stream) = None

-- the first reason to refuse such a call that needs room, of which there is `room`, or none
abbrev pub room_refusal : {T : Type 0} → Option T → (T → Option ℕ) → ℕ → Option Refusal
room_refusal None needed room = Some Closed
room_refusal (Some stream) needed room = unless (has_room (needed stream) room) Room None

-- so of a sender that is given `octets` octets, with room for `room` symbols
abbrev pub sender_refusal : Option Stream → ℕ → ℕ → Option Refusal
sender_refusal held octets room =
    room_refusal (sender_in held) (λ sender. symbols_room sender.config octets) room

-- of a decoder, at its end too, with room for `room` bits
abbrev pub decoder_refusal : Option Stream → ℕ → ℕ → Option Refusal
decoder_refusal held octets room =
    room_refusal (decoder_in held) (λ decoder. bits_room decoder.config octets) room

-- and with room for this many windows
abbrev pub windows_refusal : Option Stream → ℕ → (bits windows : ℕ) → Option Refusal
windows_refusal held octets bits windows = option_or (decoder_refusal held octets bits)
    (room_refusal (decoder_in held) (λ decoder. windows_room decoder.config octets) windows)

-- a stream was opened, of which this is true, or there was not enough memory
abbrev pub Opens : ℤ → Option Stream → (Option Stream → Type 0) → Type 0
Opens answer (Some stream) Is = (answer ≡ pos 0) × Is (Some stream)
Opens answer None Is = answer ≡ refused Memory

-- the answer is a number, or that there was not the room, and this is true of it
abbrev pub AnswersNumber : ℤ → (Option ℕ → Type 0) → Type 0
AnswersNumber answer Is = (count : Option ℕ) × (answer ≡ number_answer None count) × Is count

abbrev pub none_written : Written
none_written = record { reports = 0; octets = 0; windows = 0 }

-- what a call has written whose answer is how many octets these are: none where it is refused
abbrev pub written_by : ℤ → Written
written_by (pos count) = record none_written { octets = count }
written_by (negsuc n) = none_written

-- the symbol phase as a program in C has it: the one that was chosen, or none
abbrev pub chosen_of : PhaseState → Option Chosen
chosen_of phase = if phase.is_chosen == 0 then None
    else Some (record { skip = phase.skip; cost = phase.cost })

-- and what received octets come to: 0 slips where the phase is not followed
abbrev pub totals_state : Totals → TotalsState
totals_state totals = record { bits = totals.bits; slips = unwrap_or totals.slips 0 }
