use Rattle.std.proofs.Common.{◌∙◌, [], false, ◌*◌, length, take, sym, ap, arith}
use Rattle.std.proofs.lemmas.List.{get_or_default}
use Rattle.tm_codeblock.specs.ReceivedCodeblock.{received_columns}
use Rattle.tm_channel.specs.declared.slot.Slot.{Slot}
use Rattle.tm_channel.proofs.Repaired.{read-more, within}
use Rattle.tm_channel.proofs.repair.read_slots.Goals as goal

abbrev none : Slot
none =
    record {
      found = record { place = 0; distance = 0; bridged = false; inverted = false };
      symbol = 0;
      octets = [];
      answers = [];
      frame = [];
    }

pub loop-index-preserved : goal.loop-index-preserved
loop-index-preserved c =
    read-more c.args.config.now c.args.slots.now c.loop-index.words c.read_columns.new.words c.depth-depth.result
    c.loop-index.index _ c.depth-depth.ensures.value
    (omega (arith, c.read_columns.auto.words, c.read_columns.ensures.length))
    (within c.loop-index.index (length c.args.slots.now) c.depth-depth.result
    (length c.loop-index.words) c.loop-index-test.true
    (c.loop-index.auto.words ∙ c.requires.words
    ∙ ap (λ n. length c.args.slots.now * n) (sym c.depth-depth.ensures.value)))
    c.loop-index.invariant (λ slot. c.read_columns.ensures.columns
    ∙ ap (received_columns c.args.config.now)
    (λ k. take (c.codeblock_size-size.ensures.value k)
    (get_or_default c.args.slots.now c.loop-index.index none slot c.loop-index-test.true k).octets))
