use Rattle.std.proofs.Common.{rules, ◌+◌, ◌-◌, ◌*◌, ◌∙◌, arith}
use Rattle.tm_inner.proofs.Symbols.{spread-next}
use Rattle.tm_inner.proofs.spreading.spread.Goals as goal

pub loop-k-preserved : goal.loop-k-preserved
loop-k-preserved c =
    let k = c.loop-k.k in
    record {
      long = search rules;
      prefix =
          spread-next c.args.low k (8 * k + 8 - 8 * k) c.args.octets.now c.loop-k.room c.copy_from_slice.new.self
          (omega arith)
          (omega (arith, c.requires, c.loop-k.invariant.long))
          (c.copy_from_slice.ensures.after ∙ c.spread_octet.ensures) c.loop-k.invariant.prefix;
    }
