use Rattle.std.proofs.Common.{◌+◌}
use Rattle.tm_base.specs.Bits.{bits_of}
use Rattle.tm_buffers.proofs.Spans.{takes-more}
use Rattle.tm_buffers.proofs.searching.find_in_octets.Goals as goal

pub loop-search-preserved : goal.loop-search-preserved
loop-search-preserved c =
    let l = c.loop-search in
    let took = c.take_some-taken in record {
      within = took.ensures.within;
      takes = takes-more c.args.search.now l.search took.new.search c.args.room.now l.room took.new.room
          (bits_of c.args.octets.now) c.args.from l.taken (l.taken + took.result) l.invariant.takes took.ensures.takes;
    }
