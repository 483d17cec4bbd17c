use Rattle.std.proofs.Common.{◌≡◌, ◌≤◌, ◌+◌, ◌-◌, ◌*◌, drop}
use Rattle.tm_sync.specs.Places.{are_verified}
use Rattle.tm_sync.proofs.finder.Finder.is_verified.Given as goal

abbrev pub invariant-loop-seen : goal.invariant-loop-seen
invariant-loop-seen l = record {
  fewer : l.seen ≤ l.self.rules.verify;
  held : are_verified l.self.rules l.inverted l.self.rules.verify l.recent.bits
      ≡ are_verified l.self.rules l.inverted (l.self.rules.verify - l.seen)
      (drop (l.seen * (32 + l.self.rules.block_bits)) l.recent.bits);
}

abbrev pub decreases-loop-seen : goal.decreases-loop-seen
decreases-loop-seen l = l.self.rules.verify - l.seen
