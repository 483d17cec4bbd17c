-- A sink in memory: which call fails, and how many octets each other call takes.
use Rattle.std.specs.Prelude.{ℕ, ◌-◌, ◌==◌, ◌&&◌, if◌then◌else◌, min, nat_lt, List, [], ◌++◌, length, take, Result, Ok, Err}
use Rattle.tm_base.specs.declared.outside.Failed.{Failed}
use Rattle.tm_base.specs.Count.{raised_by, is_failing}

-- what a sink in memory has taken, its room in octets, the calls that are to fail, and what it has
-- counted
pub record SinkState : Type 0 where
  pub octets : List ℕ
  pub room : ℕ
  pub fails : List ℕ
  pub calls : ℕ
  pub faults : ℕ

-- before its first call
abbrev pub sink_of : ℕ → List ℕ → SinkState
sink_of room fails = record { octets = []; room = room; fails = fails; calls = 0; faults = 0 }

-- how many octets of a piece still fit
abbrev pub fit_of : SinkState → List ℕ → ℕ
fit_of sink piece = min (length piece) (sink.room - length sink.octets)

-- what the next call answers
abbrev pub taken_by : SinkState → List ℕ → Result ℕ Failed
taken_by sink piece = if is_failing sink.fails sink.calls then Err record {}
    else Ok (fit_of sink piece)

-- the sink after its next call
abbrev pub after_write : SinkState → List ℕ → SinkState
after_write sink piece =
    if is_failing sink.fails sink.calls
    then record sink { calls = raised_by 1 sink.calls; faults = raised_by 1 sink.faults }
    else record sink {
      octets = sink.octets ++ take (fit_of sink piece) piece;
      calls = raised_by 1 sink.calls;
      faults = if (fit_of sink piece == 0) && nat_lt 0 (length piece) then raised_by 1 sink.faults
          else sink.faults;
    }
