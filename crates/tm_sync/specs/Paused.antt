-- A search as plain values.
use Rattle.std.specs.Prelude.{Bool, ◌&&◌, nat_le}
use Rattle.tm_base.specs.Marker.{most_tolerance}
use Rattle.tm_sync.specs.declared.found.Paused.{Paused}
use Rattle.tm_sync.specs.Searching.{Searching, inside_by}

-- the search that goes on from these values
abbrev pub resumed : Paused → Searching
resumed p = record {
  rules = record {
    tolerance = p.tolerance;
    fly = p.fly;
    either = p.either;
    block_bits = p.block_bits;
    verify = p.verify;
  };
  pushed = p.pushed;
  received = p.received;
  start = p.start;
  before = p.before;
  awaited = p.awaited;
  after = p.after;
}

-- a search can have these values
abbrev pub is_resumable : Paused → Bool
is_resumable p =
    nat_le p.tolerance most_tolerance && nat_le p.after (inside_by p.verify p.block_bits)
