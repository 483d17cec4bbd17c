-- What the takers of items give and count.
use Rattle.std.specs.Prelude.{◌≡◌, ℕ, ◌+◌, ◌*◌, ◌≤◌, if◌then◌else◌, List, [], ◌∷◌, ◌++◌, length}
use Rattle.tm_base.specs.Count.{raised_by}
use Rattle.tm_base.specs.Handed.{Handed, Phase, Item, items_of, on_handed}
use Rattle.tm_base.specs.Takers.{HandedOver}
use Rattle.tm_config.specs.Configuration.{longest_codeblock}
use Rattle.tm_rs.specs.declared.answers.Answer.{Answer}
use Rattle.tm_channel.specs.declared.totals.Totals.{Totals}
use Rattle.tm_channel.specs.Items.{ItemValue, are_fixed, frames_of}
use Rattle.tm_driver.specs.Lines.{phase_text}
use Rattle.tm_driver.specs.Writing.{Text, Out, Note}
use Rattle.tm_driver.specs.declared.ending.Outcome.{Outcome}
use Rattle.tm_driver.specs.declared.ending.Outcome.TheVariants.{Done, Bad, LeftOver}
use Rattle.tm_cli.specs.Lines.{item_text}
use Rattle.tm_cli.specs.Report.{fixed_of, good, bad, fixed, items_end_text}
use Rattle.tm_cli.specs.declared.counts.Counts.{Counts}

-- before the first item
abbrev pub no_counts : Counts
no_counts = record { good = 0; bad = 0; fixed = 0 }

-- the number of the next item
abbrev pub number_of : Counts → ℕ
number_of counts = raised_by counts.bad counts.good

-- the counts with one codeblock more, whose columns have these answers
abbrev pub counts_after : Counts → List Answer → Counts
counts_after counts answers = record {
  good = raised_by (if are_fixed answers then 1 else 0) counts.good;
  bad = raised_by (if are_fixed answers then 0 else 1) counts.bad;
  fixed = raised_by (fixed_of answers) counts.fixed;
}

-- an item was counted
pub record Counted (was : Counts) (item : ItemValue) (counts : Counts) : Type 0 where
  pub counted : counts ≡ counts_after was item.answers
  pub few : fixed_of item.answers ≤ longest_codeblock

-- an item was counted, and no phase
abbrev pub CountedHanded : Counts → Handed ItemValue → Counts → Type 0
CountedHanded = on_handed (λ before skip cost now. now ≡ before) Counted

-- what is counted of items
pub record AreCounted (items : List ItemValue) (counts : Counts) : Type 0 where
  pub good : counts.good ≡ good items
  pub bad : counts.bad ≡ bad items
  pub fixed : counts.fixed ≡ fixed items
  pub few : counts.fixed ≤ longest_codeblock * length items

-- the frame of an item was given and then its line, and the item counted
pub record Reported {T : Type 0} (took : T → Text → T → Type 0) (was counts : Counts)
    (before now : T) (item : ItemValue) : Type 0 where
  pub given : HandedOver took before
      (Out item.frame ∷ Note (item_text (number_of was) item) ∷ []) now
  pub counted : Counted was item counts

-- the line of the phase was given, and nothing counted
abbrev pub reported_phase : {T : Type 0} → (T → Text → T → Type 0) → (was counts : Counts)
    → (before now : T) → (skip cost : ℕ) → Type 0
reported_phase took was counts before now skip cost =
    took before (Note (phase_text skip cost)) now × (counts ≡ was)

-- the texts of what was handed over, with the items numbered from `number` on: the line of the
-- phase, and of each item its frame and then its line
abbrev pub texts_from : ℕ → List (Handed ItemValue) → List Text
texts_from number [] = []
texts_from number (Phase skip cost ∷ handed) = Note (phase_text skip cost)
    ∷ texts_from number handed
texts_from number (Item item ∷ handed) = Out item.frame ∷ Note (item_text number item)
    ∷ texts_from (number + 1) handed

-- the same with the items numbered by the counts of those before them
abbrev pub texts_by : Counts → List (Handed ItemValue) → List Text
texts_by counts [] = []
texts_by counts (Phase skip cost ∷ handed) = Note (phase_text skip cost)
    ∷ texts_by counts handed
texts_by counts (Item item ∷ handed) = Out item.frame
    ∷ Note (item_text (number_of counts) item)
    ∷ texts_by (counts_after counts item.answers) handed

-- all texts of what was handed over of octets that come to this
abbrev pub all_texts : List (Handed ItemValue) → Totals → List Text
all_texts handed totals =
    texts_from 0 handed ++ Note (items_end_text (items_of handed) totals) ∷ []

-- what came of an input in which this many codeblocks have an uncorrectable column
abbrev pub IsOutcome : (bad : ℕ) → Outcome → Type 0
IsOutcome bad Done = bad ≡ 0
IsOutcome bad Bad = bad ≡ 0 → ⊥
IsOutcome bad LeftOver = ⊥

-- the frames of the items of what was handed over
abbrev pub handed_frames : List (Handed ItemValue) → List ℕ
handed_frames handed = frames_of (items_of handed)
