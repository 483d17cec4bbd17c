use Rattle.std.proofs.Common.{◌∙◌, ◌+◌, ◌*◌, drop, take, ap, arith}
use Rattle.tm_base.specs.Marker.{marker_size}
use Rattle.tm_config.specs.Configuration.{codeblock_length}
use Rattle.tm_channel.specs.Items.{ItemValue, are_fixed}
use Rattle.tm_channel.proofs.ExpectedItems.{in-fewer, next-sound}
use Rattle.tm_channel.proofs.expected.take_next.Goals as goal

pub returns-clause-sound : goal.returns-clause-sound
returns-clause-sound g c =
    let config = c.args.config.now in
    let slots = c.put_next.new.slots in
    c.are_fixed.ensures ∙ ap (λ (v : ItemValue). are_fixed v.answers) (c.item-2.view_is ∙ c.item.ensures)
    ∙ next-sound config slots c.args.found
    (take (8 * codeblock_length config) (drop marker_size c.args.recent.now.bits)) _
    (in-fewer config 1 (c.put_next.new.expected.count + 1) slots (omega arith) c.put_next.ensures.expected.1)
    c.put_next.ensures.stored
