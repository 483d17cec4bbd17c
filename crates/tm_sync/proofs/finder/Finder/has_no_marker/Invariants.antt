use Rattle.std.proofs.Common.{◌≡◌, ◌≤◌, ◌+◌, ◌-◌, ◌*◌, drop, is_none}
use Rattle.std.specs.List.{list_all, range_with_len}
use Rattle.tm_sync.specs.Places.{match_of}
use Rattle.tm_sync.proofs.finder.Finder.has_no_marker.Given as goal

abbrev pub invariant-loop-seen : goal.invariant-loop-seen
invariant-loop-seen l = record {
  fewer : l.seen ≤ l.columns.strength;
  held : list_all (λ k. is_none (match_of l.self.rules (drop (l.columns.stride * k) l.recent.bits)))
      (range_with_len 1 l.columns.strength)
      ≡ list_all (λ k. is_none (match_of l.self.rules (drop (l.columns.stride * k) l.recent.bits)))
      (range_with_len (1 + l.seen) (l.columns.strength - l.seen));
}

abbrev pub decreases-loop-seen : goal.decreases-loop-seen
decreases-loop-seen l = l.columns.strength - l.seen
