-- A source in memory: which call fails, and how many octets each other call gives.
use Rattle.std.specs.Prelude.{ℕ, ◌==◌, ◌&&◌, ◌||◌, Bool, false, if◌then◌else◌, min, max, nat_lt, List, [], ◌++◌, length, take, drop, slice_get, Option, Some, None, Result, Ok, Err}
use Rattle.tm_base.specs.declared.outside.Failed.{Failed}
use Rattle.tm_base.specs.Count.{raised_by, is_failing}

-- what a source in memory has given and has left, how it is to cut and to fail, and what it has
-- counted
pub record SourceState : Type 0 where
  pub given : List ℕ
  pub left : List ℕ
  pub cuts : List ℕ
  pub fails : List ℕ
  pub calls : ℕ
  pub faults : ℕ
  pub ended : Bool

-- before its first call
abbrev pub source_of : List ℕ → List ℕ → List ℕ → SourceState
source_of content cuts fails = record {
  given = [];
  left = content;
  cuts = cuts;
  fails = fails;
  calls = 0;
  faults = 0;
  ended = false;
}

-- the most octets that a call may give: its cut, where 0 is read as 1, or as many as there is room
-- for
abbrev pub most_of : Option ℕ → ℕ → ℕ
most_of (Some cut) room = max cut 1
most_of None room = room

-- how many octets the next call gives, unless it fails
abbrev pub share_of : SourceState → ℕ → ℕ
share_of source room =
    min (min (length source.left) (most_of (slice_get source.cuts source.calls) room)) room

-- what the next call answers
abbrev pub given_by : SourceState → ℕ → Result ℕ Failed
given_by source room = if is_failing source.fails source.calls then Err record {}
    else Ok (share_of source room)

-- the source after its next call
abbrev pub after_read : SourceState → ℕ → SourceState
after_read source room =
    if is_failing source.fails source.calls
    then record source { calls = raised_by 1 source.calls; faults = raised_by 1 source.faults }
    else record source {
      given = source.given ++ take (share_of source room) source.left;
      left = drop (share_of source room) source.left;
      calls = raised_by 1 source.calls;
      ended = source.ended || ((share_of source room == 0) && nat_lt 0 room);
    }
