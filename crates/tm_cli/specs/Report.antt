-- The report of what was received.
use Rattle.std.specs.Prelude.{ℕ, ◌+◌, if◌then◌else◌, List, [], ◌∷◌, ◌++◌}
use Rattle.tm_rs.specs.declared.answers.Answer.{Answer}
use Rattle.tm_rs.specs.declared.answers.Answer.TheVariants.{Fixed, Beyond}
use Rattle.tm_base.specs.Handed.{Handed, Phase, Item, items_of}
use Rattle.tm_channel.specs.declared.totals.Totals.{Totals}
use Rattle.tm_channel.specs.Items.{ItemValue, are_fixed}
use Rattle.tm_driver.specs.Lines.{phase_text, slips_text}
use Rattle.tm_cli.specs.Lines.{item_text, report_end_text}

-- how many codeblocks have no uncorrectable column
abbrev pub good : List ItemValue → ℕ
good [] = 0
good (item ∷ items) = (if are_fixed item.answers then 1 else 0) + good items

-- how many have one
abbrev pub bad : List ItemValue → ℕ
bad [] = 0
bad (item ∷ items) = (if are_fixed item.answers then 0 else 1) + bad items

-- the sum of the counts of a codeblock's line
abbrev pub fixed_of : List Answer → ℕ
fixed_of [] = 0
fixed_of (Fixed count ∷ answers) = count + fixed_of answers
fixed_of (Beyond ∷ answers) = fixed_of answers

-- the sum of all counts, those of codeblocks with an uncorrectable column too
abbrev pub fixed : List ItemValue → ℕ
fixed [] = 0
fixed (item ∷ items) = fixed_of item.answers + fixed items

-- the line of the phase, or that of the next item
abbrev pub handed_item_text : ℕ → Handed ItemValue → List ℕ
handed_item_text number (Phase skip cost) = phase_text skip cost
handed_item_text number (Item item) = item_text number item

-- the lines of what was handed over, with the items numbered from `number` on
abbrev pub items_text : ℕ → List (Handed ItemValue) → List ℕ
items_text number [] = []
items_text number (Phase skip cost ∷ handed) = phase_text skip cost ++ items_text number handed
items_text number (Item item ∷ handed) = item_text number item ++ items_text (number + 1) handed

-- the line of these codeblocks: how many are good and how many bad, how many symbols were repaired
-- in them, and how many bits were received
abbrev pub counts_text : List ItemValue → ℕ → List ℕ
counts_text items bits = report_end_text (good items) (bad items) (fixed items) bits

-- the end of the report of these items: how often octets were dropped, where the phase is followed,
-- and then that line
abbrev pub items_end_text : List ItemValue → Totals → List ℕ
items_end_text items totals = slips_text totals.slips ++ counts_text items totals.bits

-- the report of what was handed over of octets that come to this
abbrev pub report_text : List (Handed ItemValue) → Totals → List ℕ
report_text handed totals = items_text 0 handed ++ items_end_text (items_of handed) totals
