-- How a command ends by what came of its input, and the exit status.
use Rattle.std.specs.Prelude.{ℕ, Bool, true, false}
use Rattle.tm_driver.specs.declared.ending.Ending.{Ending}
use Rattle.tm_driver.specs.declared.ending.Ending.TheVariants.{Done, Bad, BadWindow, LeftOver, SourceFault, SinkFault, PastLimit}
use Rattle.tm_driver.specs.declared.ending.Outcome.{Outcome}
use Rattle.tm_driver.specs.declared.ending.Outcome.TheVariants as outcome

-- the exit status
abbrev pub status_of : Ending → ℕ
status_of Done = 0
status_of Bad = 1
status_of BadWindow = 1
status_of SourceFault = 3
status_of SinkFault = 4
status_of LeftOver = 6
status_of PastLimit = 7

-- the input was read to its end, and all is written
abbrev pub ending_at_end : Outcome → Ending
ending_at_end outcome.Done = Done
ending_at_end outcome.Bad = Bad
ending_at_end outcome.LeftOver = LeftOver

-- a sink failed
abbrev pub is_sink_fault : Ending → Bool
is_sink_fault SinkFault = true
is_sink_fault ending = false
