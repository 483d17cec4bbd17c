-- What `decode` makes of octets in which transfer frames were sent.
use Rattle.std.specs.Prelude.{◌≡◌, ℕ, ◌*◌, Bool, true, List, length, map, Option, Some, None}
use Rattle.std.specs.List.{concat}
use Rattle.tm_base.specs.Bits.{AreOctets}
use Rattle.tm_base.specs.Written.{Wrote}
use Rattle.tm_config.specs.Configuration.{Configuration}
use Rattle.tm_config.specs.declared.values.Sought.TheVariants.{Find}
use Rattle.tm_conv.specs.declared.rates.Rate.TheVariants.{R12}
use Rattle.tm_viterbi.specs.declared.block.Start.TheVariants.{Any}
use Rattle.tm_windows.specs.declared.choosing.Chosen.{Chosen}
use Rattle.tm_inner.specs.Inner.{Inner, IsStartKnown}
use Rattle.tm_inner.specs.Phase.{IsChosen, skip_of, with_phase}
use Rattle.tm_codeblock.specs.Frames.{whole_frames}
use Rattle.tm_channel.specs.Sent.{cadus, sent, sent_phase}
use Rattle.tm_viterbi.specs.Clean.{complemented_octets}
use Rattle.tm_channel.specs.Handing.{clean_totals, totals_of}
use Rattle.tm_channel.specs.Items.{ItemValue, AreItems, frames_of, complemented_item}
use Rattle.tm_channel.specs.SentStream.{SentUnit, IsSent, AreAsSent, AreNear, unit_frames, unit_places, clean_items, found_frames}
use Rattle.tm_channel.specs.SoundCodeblocks.{IsFoundAt, IsSoundAt}
use Rattle.tm_driver.specs.Meaning.{Taken}
use Rattle.tm_cli.specs.Report.{report_text}

-- Octets that `encode` sends for an input come back as its whole frames, where nothing was
-- disturbed, none is skipped and it is known where the first path starts; but of no more frames
-- than further markers are to verify the first none comes. The report says so of the phase, where
-- it is to be found, and of each frame that nothing was wrong, and that no octet was dropped, where
-- the phase is followed; the status is 0.
abbrev pub KeepsCleanLink : ℕ → Configuration → List ℕ → Taken → Type 0
KeepsCleanLink status c octets taken =
    (input : List ℕ) → c.skip ≡ 0 → IsStartKnown c → AreOctets input → octets ≡ sent c input
    → (status ≡ 0)
    × Wrote taken.out taken.out_now (concat (found_frames c (whole_frames c.frame_length input)))
    × Wrote taken.notes taken.notes_now (report_text
    (with_phase (sent_phase c) (clean_items c 0
    (found_frames c (whole_frames c.frame_length input))))
    (clean_totals c (8 * length (cadus c input))))

-- Where the octets after the phase come to the bits of units, however disturbed and with gaps
-- between them, the output is the frames, and the notes are the report, of items that stand exactly
-- at the units' markers. Where no codeblock is disturbed beyond the repair bound, the output is the
-- frames that were sent, in order, and the status is 0.
abbrev pub KeepsDisturbedLink : ℕ → Configuration → List ℕ → Taken → Type 0
KeepsDisturbedLink status c octets taken =
    (bits : List Bool) (units : List SentUnit) (last : List Bool) (chosen : Option Chosen)
    → IsChosen c octets chosen → (inner : Inner c (skip_of chosen) octets bits)
    → IsSent c bits units last
    → (items : List ItemValue) × AreAsSent c (unit_places c units) units items
    × Wrote taken.out taken.out_now (frames_of items)
    × Wrote taken.notes taken.notes_now
    (report_text (with_phase chosen items) (totals_of c bits inner.blocks))
    × (AreNear c (unit_places c units) units → (status ≡ 0)
    × Wrote taken.out taken.out_now (unit_frames units))

-- With no inner code and inverted markers, the octets complemented, each 255 less what it was, have
-- the same frames, and the report says of each codeblock that it was received in the other
-- polarity.
abbrev pub KeepsComplementedInput : Configuration → List ℕ → Taken → Type 0
KeepsComplementedInput c octets taken =
    (other : List ℕ) (bits : List Bool) (items : List ItemValue) (chosen : Option Chosen)
    → c.inner ≡ None → c.polarity ≡ Find → AreOctets other → octets ≡ complemented_octets other
    → IsChosen c other chosen → (inner : Inner c (skip_of chosen) other bits)
    → AreItems c bits items
    → Wrote taken.out taken.out_now (frames_of items)
    × Wrote taken.notes taken.notes_now
    (report_text (with_phase chosen (map complemented_item items)) (totals_of c bits inner.blocks))

-- At rate 1/2 with inverted markers, where paths start from any register and none is skipped, the
-- symbols that `encode` sends for an input, each complemented, come back as its whole frames, as
-- above, each in the other polarity and with nothing wrong, and the status is 0.
abbrev pub KeepsComplementedSymbols : ℕ → Configuration → List ℕ → Taken → Type 0
KeepsComplementedSymbols status c octets taken =
    (input : List ℕ) → c.inner ≡ Some R12 → c.polarity ≡ Find → c.start ≡ Any → c.skip ≡ 0
    → AreOctets input → octets ≡ complemented_octets (sent c input)
    → (status ≡ 0)
    × Wrote taken.out taken.out_now (concat (found_frames c (whole_frames c.frame_length input)))
    × Wrote taken.notes taken.notes_now (report_text
    (with_phase (sent_phase c) (map complemented_item
    (clean_items c 0 (found_frames c (whole_frames c.frame_length input)))))
    (clean_totals c (8 * length (cadus c input))))

-- Where codeblocks are looked for inside others too, and no further markers are to verify one, the
-- output is the frames, and the notes are the report, of items among which each whole codeblock has
-- its own that is correctable and follows a marker, whatever comes before; but where that marker
-- stands inside another correctable one, and not at its end.
abbrev pub KeepsFound : Configuration → List ℕ → Taken → Type 0
KeepsFound c octets taken =
    (bits : List Bool) (chosen : Option Chosen) → c.rescan ≡ true → c.verify ≡ 0
    → IsChosen c octets chosen → (inner : Inner c (skip_of chosen) octets bits)
    → (items : List ItemValue)
    × Wrote taken.out taken.out_now (frames_of items)
    × Wrote taken.notes taken.notes_now
    (report_text (with_phase chosen items) (totals_of c bits inner.blocks))
    × ((at : ℕ) (inverted : Bool) → IsSoundAt c bits at inverted
    → IsFoundAt c bits at inverted items)
