-- The lines that several commands write.
use Rattle.std.specs.Prelude.{ℕ, ◌==◌, if◌then◌else◌, List, [], ◌∷◌, ◌++◌, Option, Some, None, codes, decimal}
use Rattle.tm_driver.specs.declared.ending.Outcome.{Outcome}
use Rattle.tm_driver.specs.declared.ending.Outcome.TheVariants.{Done, LeftOver}

-- the line feed that ends each line
abbrev pub line_end : List ℕ
line_end = 10 ∷ []

-- the most octets of a line
abbrev pub line_room : ℕ
line_room = 560

-- the most decimal digits of a number below 2^64
abbrev pub most_digits : ℕ
most_digits = 20

-- how many octets follow the last whole frame or record; no line where there are none
abbrev pub left_over_text : ℕ → List ℕ
left_over_text rest = if rest == 0 then [] else codes "left over " ++ decimal rest ++ line_end

-- the symbol phase that was chosen: the octets skipped, and what the best path after them costs
abbrev pub phase_text : (skip cost : ℕ) → List ℕ
phase_text skip cost = codes "phase " ++ decimal skip ++ codes " cost " ++ decimal cost ++ line_end

-- before how many windows octets were dropped; no line where the symbol phase is not followed
abbrev pub slips_text : Option ℕ → List ℕ
slips_text None = []
slips_text (Some count) = codes "slips " ++ decimal count ++ line_end

-- what came of an input by how many octets are left over
abbrev pub outcome_by : ℕ → Outcome
outcome_by rest = if rest == 0 then Done else LeftOver
