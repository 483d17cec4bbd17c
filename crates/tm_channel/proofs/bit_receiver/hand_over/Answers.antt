use Rattle.std.proofs.Common.{◌∷◌, ◌++◌, ◌∙◌, List, [], arith, subst}
use Rattle.std.proofs.lemmas.List.{take_all}
use Rattle.tm_base.proofs.Handing.{HandedOver-push}
use Rattle.tm_channel.specs.Receiving.{AreItemsFor, StoredCodeblock}
use Rattle.tm_channel.proofs.Handing.{items-for-more}
use Rattle.tm_channel.proofs.KeptSymbols.{symbols-next}
use Rattle.tm_channel.proofs.bit_receiver.hand_over.Goals as goal

pub loop-i-preserved : goal.loop-i-preserved
loop-i-preserved g c =
    let was = c.loop-i.invariant.handed in
    let b = c.args.batch.now in
    let item = c.item-item.result in record {
      handed = (
        was.0 ++ item ∷ [],
        items-for-more b.config b.stored c.loop-i.i was.0 item (omega arith) was.1 c.item-item.ensures.item,
        HandedOver-push g.T.ItemWatch.took c.args.taker.now c.loop-i.taker c.item.new.self was.0 item was.2
            c.item.ensures,
        symbols-next b.symbols c.loop-i.i was.0 item was.3 c.item-item.ensures.symbol,
      );
    }

pub returns : goal.returns
returns g c =
    let was = c.loop-i.invariant.handed in
    let b = c.args.batch.now in
    let count = c.count-i-end.ensures in (
      was.0,
      subst (λ (stored : List StoredCodeblock). AreItemsFor b.config stored was.0)
          (take_all c.loop-i.i b.stored (omega (arith, count.value, c.loop-i-test.false))) was.1,
      was.2,
      was.3 ∙ take_all c.loop-i.i b.symbols (omega (arith, count.symbols, c.loop-i-test.false)),
    )
