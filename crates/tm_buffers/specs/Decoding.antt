-- A decoder of the inner code whose bits go to a buffer.
use Rattle.std.specs.Prelude.{◌≡◌, ℕ, ◌+◌, ◌≤◌, nat_le, false, if◌then◌else◌, List, ◌++◌, length, take, Option, Some, None, unwrap_or}
use Rattle.tm_base.specs.Handed.{Handed, items_of, on_handed}
use Rattle.tm_base.specs.Takers.{HandedOver}
use Rattle.tm_config.specs.Configuration.{Configuration}
use Rattle.tm_inner.specs.Handing.{AreHanded, AreHandedDue}
use Rattle.tm_inner.specs.InnerDecoding.{InnerDecoding}
use Rattle.tm_inner.specs.InnerWindows.{AreFurtherWindows, AreLastWindows}
use Rattle.tm_inner.specs.Phase.{IsChosen, held_bits}
use Rattle.tm_inner.specs.Receiving.{HasHanded}
use Rattle.tm_inner.specs.declared.window.Window.{Window}
use Rattle.tm_viterbi.specs.Clean.{kept_bits}
use Rattle.tm_viterbi.specs.WindowBlock.{WindowBlock}
use Rattle.tm_buffers.specs.Buffer.{Fills, most_taken}
use Rattle.tm_buffers.specs.Windows.{HasWrittenWindows}
use Rattle.tm_buffers.specs.declared.bits.BufferBits.{BufferBits}
use Rattle.tm_buffers.specs.declared.items.Written.{Written}

-- For how many bits there has to be room where `count` more octets are given, or at the end, with a
-- `count` of 0: for those of a window, of the octets buffered until the phase is chosen, and of
-- these. No more than 2^40 octets are taken at a time.
abbrev pub bits_room : Configuration → ℕ → Option ℕ
bits_room c count = if nat_le count most_taken then Some (held_bits c + count)
    else None

-- how much was written: this many bits and windows
abbrev pub bits_written : (bits windows : ℕ) → Written
bits_written bits windows = record { reports = 0; octets = bits; windows = windows }

-- a buffer, at whose start `count` bits stand
pub record BitsAt : Type 0 where
  pub count : ℕ
  pub buffer : List ℕ

abbrev pub bits_at : ℕ → List ℕ → BitsAt
bits_at count buffer = record { count = count; buffer = buffer }

-- it has this size, and these bits stand there, where there is room for them
pub record HoldsBits (size : ℕ) (bits : List ℕ) (at : BitsAt) : Type 0 where
  pub long : length at.buffer ≡ size
  pub hold : length bits ≤ size → take at.count at.buffer ≡ bits

-- the bits that a block keeps follow the others
abbrev pub keeps_bits : BitsAt → WindowBlock → BitsAt → Type 0
keeps_bits a block b = (size : ℕ) (bits : List ℕ) → HoldsBits size bits a
    → HoldsBits size (bits ++ take block.kept block.bits) b

-- a phase writes no bit
abbrev pub keeps_handed : BitsAt → Handed WindowBlock → BitsAt → Type 0
keeps_handed = on_handed (λ a skip cost b. b ≡ a) keeps_bits

-- so of a buffer that is lent, and of a watch behind it, each by what is lent
abbrev pub writes : {W : Type 0} → BufferBits W → Handed WindowBlock → BufferBits W → Type 0
writes = on_handed (λ a skip cost b. b ≡ a) (λ a block b. (b.bits.ghost_name ≡ a.bits.ghost_name)
    × keeps_bits (bits_at a.count a.bits.now) block (bits_at b.count b.bits.now))

abbrev pub watches : {W : Type 0} → (W → Window → W → Type 0) → BufferBits W → Window → BufferBits W
    → Type 0
watches took a window b = (b.watch.ghost_name ≡ a.watch.ghost_name)
    × took a.watch.now window b.watch.now

-- at the end of its octets, the bits that the last blocks keep were written
pub record WritesLastBits (before now : InnerDecoding) (buffer : List ℕ) (count_now : ℕ)
    (buffer_now : List ℕ) : Type 0 where
  pub last : List (Handed WindowBlock)
  pub left : ℕ
  pub written : HandedOver keeps_handed (bits_at 0 buffer) last (bits_at count_now buffer_now)
  pub all : (given : List ℕ) (done : List (Handed WindowBlock)) → HasHanded before given done
      → AreHanded before.config given (done ++ last) left × IsChosen before.config given now.chosen

-- a decoder that was given these octets and no others, and has handed over this, all that is due
pub record IsDecoding (decoder : InnerDecoding) (given : List ℕ)
    (done : List (Handed WindowBlock)) : Type 0 where
  pub going : decoder.has_ended ≡ false
  pub stands : HasHanded decoder given done
  pub due : AreHandedDue decoder.config given done

-- given further octets, a decoder goes on, and the bits that its further blocks keep were written
pub record Decodes (now : InnerDecoding) (given octets : List ℕ) (done : List (Handed WindowBlock))
    (count : Option ℕ) (bits : List ℕ) : Type 0 where
  pub more : List (Handed WindowBlock)
  pub decoding : IsDecoding now (given ++ octets) (done ++ more)
  pub fills : Fills count bits (kept_bits (items_of more))

-- at the end of its octets, the bits that the last blocks keep were written, and the phase is
-- chosen, where it is to be found
pub record DecodesLast (decoder now : InnerDecoding) (given : List ℕ)
    (done : List (Handed WindowBlock)) (count : Option ℕ) (bits : List ℕ) : Type 0 where
  pub last : List (Handed WindowBlock)
  pub left : ℕ
  pub all : AreHanded decoder.config given (done ++ last) left
  pub fills : Fills count bits (kept_bits (items_of last))
  pub chosen : IsChosen decoder.config given now.chosen

-- what is said of windows of which this is true was written to an array, beside `bits` bits
pub record WritesAll (Are : List Window → Type 0) (array array_now : List Window) (bits : Option ℕ)
    (said : Written) : Type 0 where
  pub windows : List Window
  pub are : Are windows
  pub written : HasWrittenWindows windows array array_now (length windows)
  pub counts : said ≡ bits_written (unwrap_or bits 0) (length windows)

-- so of the windows that are due with further octets, and at the end of those that are left
abbrev pub DecodesWindows : Configuration → (given octets : List ℕ)
    → (array array_now : List Window) → Option ℕ → Written → Type 0
DecodesWindows c given octets = WritesAll (AreFurtherWindows c given octets)

abbrev pub DecodesLastWindows : Configuration → (given : List ℕ)
    → (array array_now : List Window) → Option ℕ → Written → Type 0
DecodesLastWindows c given = WritesAll (AreLastWindows c given)
