use Rattle.std.proofs.Common.{arith, rules, ◌+◌}
use Rattle.tm_buffers.specs.Searching.{bits_in}
use Rattle.tm_buffers.proofs.Spans.{span-number, takes-bit, takes-more}
use Rattle.tm_buffers.proofs.searching.find_in_bits.Goals as goal

pub loop-search-preserved : goal.loop-search-preserved
loop-search-preserved c =
    let l = c.loop-search in
    let bits = bits_in c.args.bits.now in
    let p = c.push_bit in record {
      within = omega (arith, c.if-end-bits.true);
      takes = takes-more c.args.search.now l.search p.new.self c.args.room.now l.room p.new.room bits c.args.from l.end
          (l.end + 1) l.invariant.takes (takes-bit l.search p.new.self l.room p.new.room bits l.end _ (search rules)
          p.ensures.rules (span-number l.end c.args.bits.now (omega arith)) p.ensures.stands);
    }
