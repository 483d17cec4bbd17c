-- The items of received octets.
use Rattle.std.proofs.Common.{◌≡◌, ◌<◌, ◌+◌, ◌*◌, ◌/◌, ℕ, zero, suc, Bool, List, [], ◌∷◌, ◌++◌, length, drop, flat_map, refl, ap, ◌∙◌, subst, arith}
use Rattle.std.specs.List.{AllByRecursion, concat}
use Rattle.std.proofs.lemmas.List.Elements.{All-take, All-drop}
use Rattle.tm_base.specs.Bits.{AreOctets, bits_of}
use Rattle.tm_base.proofs.Packing.{bits_of-append}
use Rattle.tm_config.specs.Configuration.{Configuration, codeblock_length}
use Rattle.tm_config.specs.Accepted.{IsAccepted}
use Rattle.tm_inner.specs.Inner.{Inner, IsStartKnown}
use Rattle.tm_inner.specs.SymbolPlaces.{symbol_at, symbols_before}
use Rattle.tm_inner.specs.Symbols.{symbols_of_octets}
use Rattle.tm_viterbi.specs.WindowBlock.{WindowBlock}
use Rattle.tm_codeblock.specs.Frames.{first_frames, whole_frames, HaveSize}
use Rattle.tm_codeblock.specs.Cadu.{cadu}
use Rattle.tm_codeblock.proofs.Frames.{splits}
use Rattle.tm_channel.specs.Sent.{cadus, sent}
use Rattle.tm_channel.specs.Items.{ItemValue, AreItems, HaveSymbols, frames_of}
use Rattle.tm_channel.specs.Receive.{Receive}
use Rattle.tm_channel.specs.SentStream.{IsFrame, SentUnit, IsSent, unit_places, AreAsSent, AreNear, unit_frames, sent_bits, clean_items, found_frames}
use Rattle.tm_channel.proofs.Repairs.{items-as_sent, frames-sent}
use Rattle.tm_channel.proofs.CleanStreams.{items-clean}
use Rattle.tm_channel.proofs.CleanSymbols.{clean-symbols, slips-sent}
use Rattle.tm_channel.proofs.HandedItems.{OneBlocks}
use Rattle.tm_channel.proofs.OnlyItems.{items-only}
use Rattle.tm_channel.proofs.Symbols.{have-same}

-- octets come to one list of bits
abbrev pub OneBits : Type 0
OneBits =
    (c : Configuration) (phase : ℕ) (octets : List ℕ) (bits others : List Bool) → Inner c phase octets bits
    → Inner c phase octets others → bits ≡ others

-- received octets have items of the bits that they come to
pub items-at : OneBits → (c : Configuration) (phase : ℕ) (octets : List ℕ) (bits : List Bool) (items : List ItemValue)
    → Inner c phase octets bits → Receive c phase octets items → AreItems c bits items
items-at one c phase octets bits items inner r =
    subst (λ (l : List Bool). AreItems c l items) (one c phase octets r.bits bits r.inner inner) r.are_items

-- their symbols are by the blocks that they come to
pub symbols-at : OneBlocks → (c : Configuration) (phase : ℕ) (octets : List ℕ) (bits others : List Bool)
    (items : List ItemValue) (p : Inner c phase octets bits) (q : Inner c phase octets others)
    → HaveSymbols (symbol_at c phase p.blocks) items → HaveSymbols (symbol_at c phase q.blocks) items
symbols-at one c phase octets bits others items p q have =
    subst (λ (l : List WindowBlock). HaveSymbols (symbol_at c phase l) items)
    (one c phase octets p.blocks q.blocks p.left q.left p.are_blocks q.are_blocks) have

pub received-only : OneBits → OneBlocks → (c : Configuration) (phase : ℕ) (octets : List ℕ)
    (items others : List ItemValue)
    → IsAccepted c → Receive c phase octets items → Receive c phase octets others → items ≡ others
received-only one blocks c phase octets items others ok p q =
    items-only c (symbol_at c phase q.inner.blocks) q.bits items others ok
    (items-at one c phase octets q.bits items q.inner p)
    (symbols-at blocks c phase octets p.bits q.bits items p.inner q.inner p.symbols) q.are_items q.symbols

-- the items of units, however disturbed, and their frames
abbrev pub SentItems : Type 0
SentItems =
    (c : Configuration) (phase : ℕ) (octets : List ℕ) (bits : List Bool) (units : List SentUnit) (last : List Bool)
    (items : List ItemValue)
    → IsAccepted c → Inner c phase octets bits → IsSent c bits units last → Receive c phase octets items
    → AreAsSent c (unit_places c units) units items

abbrev pub SentFrames : Type 0
SentFrames =
    (c : Configuration) (phase : ℕ) (octets : List ℕ) (bits : List Bool) (units : List SentUnit) (last : List Bool)
    (items : List ItemValue)
    → IsAccepted c → Inner c phase octets bits → IsSent c bits units last → Receive c phase octets items
    → AreNear c (unit_places c units) units → frames_of items ≡ unit_frames units

pub received-as_sent : OneBits → SentItems
received-as_sent one c phase octets bits units last items ok inner sent r =
    items-as_sent c bits units last items ok sent (items-at one c phase octets bits items inner r)

pub received-frames : OneBits → SentFrames
received-frames one c phase octets bits units last items ok inner sent r near =
    frames-sent c (unit_places c units) units items (received-as_sent one c phase octets bits units last items ok
    inner sent r) near

-- ---- nothing disturbed

-- what is sent for octets comes to the bits that were sent
abbrev pub CleanBits : Type 0
CleanBits =
    (c : Configuration) (octets : List ℕ) (bits : List Bool) → IsAccepted c → c.skip ≡ 0 → IsStartKnown c
    → Inner c 0 (symbols_of_octets c octets) bits → bits ≡ bits_of octets

bits-of_cadus : (c : Configuration) (frames : List (List ℕ)) → bits_of (flat_map (cadu c) frames) ≡ sent_bits c frames
bits-of_cadus c [] = refl
bits-of_cadus c (frame ∷ frames) =
    bits_of-append (cadu c frame) (flat_map (cadu c) frames)
    ∙ ap (λ l. bits_of (cadu c frame) ++ l) (bits-of_cadus c frames)

frames-small : (c : Configuration) (count : ℕ) (octets : List ℕ) → AreOctets octets
    → HaveSize c.frame_length (first_frames c.frame_length count octets)
    → AllByRecursion (IsFrame c) (first_frames c.frame_length count octets)
frames-small c zero octets small sized = tt
frames-small c (suc count) octets small sized = (
  (sized.0, All-take (λ octet. octet < 256) c.frame_length octets small),
  frames-small c count (drop c.frame_length octets) (All-drop (λ octet. octet < 256) c.frame_length octets small)
      sized.1,
)

some-frame : (c : Configuration) → IsAccepted c → 0 < c.frame_length
some-frame c ok = grind (arith, ok.whole, ok.some_data, ok.some_depth)

-- the whole frames of octets are frames
pub are_frames : (c : Configuration) (octets : List ℕ) → IsAccepted c → AreOctets octets
    → AllByRecursion (IsFrame c) (whole_frames c.frame_length octets)
unfolding whole_frames
are_frames c octets ok small =
    frames-small c (length octets / c.frame_length) octets small
    (splits c.frame_length octets (some-frame c ok)).sized

-- the bits of the units of octets
pub bits-sent : (c : Configuration) (octets : List ℕ) → bits_of (cadus c octets)
    ≡ sent_bits c (whole_frames c.frame_length octets)
bits-sent c octets = bits-of_cadus c (whole_frames c.frame_length octets)

pub received-clean : CleanBits → (c : Configuration) (octets : List ℕ) (items : List ItemValue) → IsAccepted c
    → c.skip ≡ 0 → IsStartKnown c → AreOctets octets
    → Receive c 0 (sent c octets) items → items ≡ clean_items c 0 (found_frames c (whole_frames c.frame_length octets))
received-clean clean c octets items ok none known small r =
    items-clean c (whole_frames c.frame_length octets) items ok (are_frames c octets ok small)
    (have-same (symbol_at c 0 r.inner.blocks) (symbols_before c.inner) items
    (clean-symbols c c.inner r.inner.blocks none
    (slips-sent c.inner c (cadus c octets) r.inner.blocks r.inner.left none r.inner.are_blocks)) r.symbols)
    (subst (λ (l : List Bool). AreItems c l items) (clean c (cadus c octets) r.bits ok none known r.inner
    ∙ bits-sent c octets) r.are_items)

pub frames-clean : (c : Configuration) (at : ℕ) (frames : List (List ℕ))
    → frames_of (clean_items c at frames) ≡ concat frames
frames-clean c at [] = refl
frames-clean c at (frame ∷ frames) = ap (λ l. frame ++ l) (frames-clean c (at + 32 + 8 * codeblock_length c) frames)
