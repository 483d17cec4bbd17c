use Rattle.std.proofs.Common.{◌≡◌, ◌<◌, ◌≤◌, ◌-◌, ◌*◌, ◌∷◌, [], drop, length, map, take}
use Rattle.tm_base.specs.Marker.{marker_size}
use Rattle.tm_config.specs.Configuration.{codeblock_length}
use Rattle.tm_channel.specs.Receiving.{stored_of}
use Rattle.tm_channel.specs.Storing.{place_in, stored_in}
use Rattle.tm_channel.proofs.expected.read_expected.Given as goal

abbrev pub invariant-loop-count : goal.invariant-loop-count
invariant-loop-count l = record {
  some : 0 < l.count;
  count : l.count ≤ length l.slots;
  at : l.at ≤ length l.recent.bits;
  stored : map (stored_in (codeblock_length l.config)) (take 1 l.slots) ≡ stored_of l.config l.found
      (take (8 * codeblock_length l.config) (drop marker_size l.recent.bits)) ∷ [];
  places : map place_in (take 1 l.slots) ≡ record { place = l.found.place; symbol = l.symbol } ∷ [];
}

abbrev pub decreases-loop-count : goal.decreases-loop-count
decreases-loop-count l = length l.slots - l.count
