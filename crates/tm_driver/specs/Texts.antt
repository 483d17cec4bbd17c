-- What a sink took of a text.
use Rattle.std.specs.Prelude.{◌≡◌, ◌⊎◌, ℕ, ◌<◌, ◌≤◌, List, ◌++◌, length, take, Option}
use Rattle.tm_base.specs.Outside.{Rose}
use Rattle.tm_base.specs.Written.{Wrote}
use Rattle.tm_driver.specs.Courses.{SinkState}

-- it took the whole of a text
pub record TookText (before now : SinkState) (text : List ℕ) : Type 0 where
  pub written : Wrote before.taken now.taken text
  pub same : now.faults ≡ before.faults

-- it took the whole of `first`, and failed in the text after it, which is not empty
pub record BrokeText (before now : SinkState) (is_last : Type 0)
    (first text : List ℕ) : Type 0 where
  pub some : 0 < length text
  pub written : (count : ℕ) × Wrote before.taken now.taken (first ++ take count text)
  pub later : before.faults ≤ now.faults
  pub rose : Rose before.faults now.faults is_last

-- Two sinks, one written after the other, took what stands before. Then the first took a part of
-- what comes next, and the second nothing more; or the first took that whole, and the second a part
-- of what it is given after it.
abbrev pub StopsAt : (before noted_before next after : List ℕ)
    → (taken taken_now noted noted_now : Option (List ℕ)) → Type 0
StopsAt before noted_before next after taken taken_now noted noted_now =
    (((count : ℕ) × Wrote taken taken_now (before ++ take count next))
    × Wrote noted noted_now noted_before)
    ⊎ (Wrote taken taken_now (before ++ next) × ((count : ℕ)
    × Wrote noted noted_now (noted_before ++ take count after)))
