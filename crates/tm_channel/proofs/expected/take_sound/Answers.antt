use Rattle.std.proofs.Common.{rules, ◌∙◌, drop, set, sym, ap, subst, arith}
use Rattle.std.proofs.lemmas.List.{take-set}
use Rattle.tm_base.specs.Marker.{marker_size}
use Rattle.tm_channel.specs.Items.{ItemValue, are_fixed}
use Rattle.tm_channel.specs.Storing.{AreItemsIn}
use Rattle.tm_channel.proofs.ExpectedItems.{in-fewer, probe-sound}
use Rattle.tm_channel.proofs.expected.take_sound.Goals as goal

pub returns-then-not-are_fixed-clause-sound : goal.returns-then-not-are_fixed-clause-sound
returns-then-not-are_fixed-clause-sound c =
    sym c.if-not-are_fixed.true ∙ c.are_fixed.ensures
    ∙ ap (λ (v : ItemValue). are_fixed v.answers) (c.item-2.view_is ∙ c.item.ensures)
    ∙ probe-sound c.args.config.now c.args.found (drop marker_size c.args.recent.now.bits) c.args.slots.now
    c.min-index.result c.codeblock_size.result c.fill.new.self c.repair_slot.new.slot _
    (omega (arith, c.min-index.ensures)) c.codeblock_size.ensures.value c.fill.ensures.stored c.repair_slot.ensures.item

pub returns-then-not-are_fixed-clause-left : goal.returns-then-not-are_fixed-clause-left
returns-then-not-are_fixed-clause-left c = λ none.
    let index = c.min-index.result in
    let slots = c.args.slots.now in (
      search rules,
      subst (AreItemsIn c.args.config.now) (sym (take-set (set slots index c.fill.new.self) index c.repair_slot.new.slot
          ∙ take-set slots index c.fill.new.self))
          (in-fewer c.args.config.now index _ slots (omega (arith, c.min-index.ensures)) c.requires.expected.1),
    )

pub returns-clause-sound : goal.returns-clause-sound
returns-clause-sound c =
    sym c.if-not-are_fixed.false ∙ c.are_fixed.ensures
    ∙ ap (λ (v : ItemValue). are_fixed v.answers) (c.item-2.view_is ∙ c.item.ensures)
    ∙ probe-sound c.args.config.now c.args.found (drop marker_size c.args.recent.now.bits) c.args.slots.now
    c.min-index.result c.codeblock_size.result c.fill.new.self c.repair_slot.new.slot _
    (omega (arith, c.min-index.ensures)) c.codeblock_size.ensures.value c.fill.ensures.stored c.repair_slot.ensures.item
