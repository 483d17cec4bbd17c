use Rattle.std.proofs.Common.{◌≤◌, length, subst, arith}
use Rattle.std.proofs.lemmas.List.{length-take-le}
use Rattle.tm_codeblock.specs.ReceivedCodeblock.{column_count}
use Rattle.tm_channel.specs.Storing.{AreDecoded}
use Rattle.tm_channel.proofs.Repaired.{one-decoded}
use Rattle.tm_channel.proofs.repair.repair_slot.Goals as goal

pub write_item-requires-clause-decoded : goal.write_item-requires-clause-decoded
write_item-requires-clause-decoded c =
    let kept = length-take-le c.column_count-count.result c.args.words.now
    (omega (arith, c.column_count-count.ensures.value)) in
    let few : length c.decode.new.words ≤ column_count c.args.config.now =
    omega (arith, c.decode.ensures.length, c.column_count-count.ensures.value, kept) in
    one-decoded c.args.config.now c.args.slot.now c.decode.new.words few
    (subst (λ slots. AreDecoded c.args.config.now slots c.decode.new.words) c.from_ref.ensures.value
    c.decode.ensures.decoded)
