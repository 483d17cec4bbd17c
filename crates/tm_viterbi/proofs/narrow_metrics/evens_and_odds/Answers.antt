use Rattle.tm_viterbi.proofs.Halves.{sorted_fits, even_parts, odd_parts}
use Rattle.tm_viterbi.proofs.narrow_metrics.evens_and_odds.Goals as goal

pub swizzle-sorted : goal.swizzle-sorted
swizzle-sorted c = sorted_fits c.args.half c.args.places c.requires

pub returns-clause-even : goal.returns-clause-even
returns-clause-even c = even_parts c.args.half c.args.places c.requires

pub returns-clause-odd : goal.returns-clause-odd
returns-clause-odd c = odd_parts c.args.half c.args.places c.requires
