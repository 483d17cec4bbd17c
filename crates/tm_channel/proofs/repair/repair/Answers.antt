use Rattle.std.proofs.Common.{◌∙◌, List, map, take, drop, sym, ap, subst}
use Rattle.std.proofs.lemmas.List.{take_at, length-take-le}
use Rattle.tm_config.specs.Configuration.{codeblock_length}
use Rattle.tm_channel.specs.Receiving.{AreItemsFor}
use Rattle.tm_channel.specs.Storing.{item_in, place_in, stored_in}
use Rattle.tm_channel.specs.declared.slot.Slot.{Slot}
use Rattle.tm_channel.proofs.repair.repair.Goals as goal

pub returns-clause-stored : goal.returns-clause-stored
returns-clause-stored g c =
    let prefix = take_at c.write_items.new.slots (drop c.args.count c.args.slots.now) c.args.count
    (c.write_items.ensures.length ∙ length-take-le c.args.count c.args.slots.now c.requires.count) in
    ap (map (stored_in (codeblock_length c.args.config.now))) prefix ∙ c.write_items.ensures.stored

pub returns-clause-places : goal.returns-clause-places
returns-clause-places g c =
    let prefix = take_at c.write_items.new.slots (drop c.args.count c.args.slots.now) c.args.count
    (c.write_items.ensures.length ∙ length-take-le c.args.count c.args.slots.now c.requires.count) in
    ap (map place_in) prefix ∙ c.write_items.ensures.places

pub returns-clause-items : goal.returns-clause-items
returns-clause-items g c =
    let prefix = take_at c.write_items.new.slots (drop c.args.count c.args.slots.now) c.args.count
    (c.write_items.ensures.length ∙ length-take-le c.args.count c.args.slots.now c.requires.count) in
    subst (λ (slots : List Slot). AreItemsFor c.args.config.now
    (map (stored_in (codeblock_length c.args.config.now)) (take c.args.count c.args.slots.now))
    (map (item_in c.args.config.now) slots))
    (sym prefix) c.write_items.ensures.items
