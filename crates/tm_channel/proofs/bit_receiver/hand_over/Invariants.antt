use Rattle.std.proofs.Common.{◌≡◌, take, map, List}
use Rattle.tm_base.specs.Takers.{HandedOver}
use Rattle.tm_channel.specs.Items.{ItemValue}
use Rattle.tm_channel.specs.Origins.{place_symbol}
use Rattle.tm_channel.specs.Receiving.{AreItemsFor}
use Rattle.tm_channel.proofs.bit_receiver.hand_over.Given as goal

abbrev pub invariant-loop-i : goal.invariant-loop-i
invariant-loop-i g l = record {
  handed : (items : List ItemValue) × AreItemsFor l.batch.config (take l.i l.batch.stored) items
      × HandedOver g.T.ItemWatch.took l.initial.taker items l.taker
      × (map place_symbol items ≡ take l.i l.batch.symbols);
}
