-- Windows that are closed stay so, whatever octets follow.
use Rattle.std.proofs.Common.{ℕ, List, ◌++◌}
use Rattle.tm_viterbi.specs.Settings.{Settings}
use Rattle.tm_viterbi.specs.WindowBlock.{WindowBlock}
use Rattle.tm_viterbi.specs.Due.{AreFirst, first_place}
use Rattle.tm_viterbi.proofs.Closing.{more_octets, Closed-append}

pub first-longer : (s : Settings) (octets more : List ℕ) (first : List WindowBlock) → AreFirst s octets first
    → AreFirst s (octets ++ more) first
unfolding more_octets
first-longer s octets more first h =
    (more_octets h.0 more, Closed-append s.rate s.invert s.keep s.ahead (first_place s octets) h.0 first more h.1)
