use Rattle.std.proofs.Common.{◌∙◌, take, arith}
use Rattle.std.proofs.Math.Seq.{map-set_same}
use Rattle.std.proofs.lemmas.List.{get_or-set_other}
use Rattle.tm_config.specs.Configuration.{codeblock_length}
use Rattle.tm_channel.specs.Storing.{place_in, stored_in}
use Rattle.tm_channel.proofs.Repaired.{item-more, items-are}
use Rattle.tm_channel.proofs.repair.write_items.Goals as goal

pub loop-index-preserved : goal.loop-index-preserved
loop-index-preserved c =
    let config = c.args.config.now in
    let l = c.loop-index in record {
      stored = map-set_same (stored_in (codeblock_length config)) l.slots l.index c.write_item.new.self _
          (λ k. record {
            found = c.write_item.ensures.found k;
            codeblock = take (codeblock_length config) (c.write_item.ensures.octets k);
          }) ∙ l.invariant.stored;
      places = map-set_same place_in l.slots l.index c.write_item.new.self _
          (λ k. record {
            place = (c.write_item.ensures.found k).place;
            symbol = c.write_item.ensures.symbol k;
          }) ∙ l.invariant.places;
      rest =
          λ j slot above. get_or-set_other l.slots l.index j c.write_item.new.self slot (λ e. absurd (omega arith))
          ∙ l.invariant.rest j slot (omega arith);
      done =
          item-more config c.args.slots.now l.slots l.index c.write_item.new.self _ c.loop-index-test.true
          l.auto.slots (l.invariant.rest l.index _ (omega arith)) c.write_item.ensures.item l.invariant.done;
    }

pub returns-clause-items : goal.returns-clause-items
returns-clause-items c =
    items-are c.args.config.now c.args.slots.now c.loop-index.slots c.loop-index.auto.slots
    (λ j slot below. c.loop-index.invariant.done j slot (omega (arith, below, c.loop-index-test.false)))
