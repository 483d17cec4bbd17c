-- The lines of a report, and of a refusal, each ended by one line feed.
use Rattle.std.specs.Prelude.{ℕ, Bool, if◌then◌else◌, List, [], ◌∷◌, ◌++◌, codes, decimal, flat_map}
use Rattle.tm_driver.specs.Lines.{line_end, slips_text}
use Rattle.tm_rs.specs.declared.answers.Answer.{Answer}
use Rattle.tm_rs.specs.declared.answers.Answer.TheVariants.{Fixed, Beyond}
use Rattle.tm_channel.specs.declared.totals.Totals.{Totals}
use Rattle.tm_channel.specs.Items.{ItemValue}
use Rattle.tm_cli.specs.declared.counts.Counts.{Counts}

-- that the words are refused, for this reason
abbrev pub refusal_text : List ℕ → List ℕ
refusal_text reason = codes "refused: " ++ reason ++ line_end

-- how a marker matched, and in which polarity
abbrev pub marker_text : (bridged : Bool) (distance : ℕ) (inverted : Bool) → List ℕ
marker_text bridged distance inverted =
    (if bridged then codes " bridged " else codes " marker ") ++ decimal distance ++
    (if inverted then codes " inverted" else [])

-- what became of a column: how many symbols were repaired, or x where it is uncorrectable
abbrev pub answer_text : Answer → List ℕ
answer_text (Fixed count) = codes " " ++ decimal count
answer_text Beyond = codes " x"

-- the most octets that it has: a space and a number
abbrev pub answer_room : ℕ
answer_room = 21

-- what became of the columns, of which there are none with no outer code
abbrev pub answers_text : List Answer → List ℕ
answers_text [] = codes " uncoded"
answers_text (answer ∷ answers) = codes " words" ++ flat_map answer_text (answer ∷ answers)

-- what was received at a place
abbrev pub item_text : ℕ → ItemValue → List ℕ
item_text number item =
    codes "frame " ++ decimal number ++ codes " at " ++ decimal item.found.place
    ++ marker_text item.found.bridged item.found.distance item.found.inverted
    ++ answers_text item.answers ++ line_end

-- the end of a report: the codeblocks without and with an uncorrectable column, the symbols
-- repaired, and the bits received
abbrev pub report_end_text : (good bad fixed bits : ℕ) → List ℕ
report_end_text good bad fixed bits =
    codes "frames " ++ decimal good ++ codes " bad " ++ decimal bad ++ codes " fixed "
    ++ decimal fixed ++ codes " bits " ++ decimal bits ++ line_end

-- the same with how often octets were dropped before it, where the phase is followed
abbrev pub totals_text : Counts → Totals → List ℕ
totals_text counts totals = slips_text totals.slips
    ++ report_end_text counts.good counts.bad counts.fixed totals.bits
