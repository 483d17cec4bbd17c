use Rattle.std.proofs.Common.{◌≡◌, ◌+◌, ◌-◌, ◌∙◌, ◌++◌, length, take, ap, arith}
use Rattle.std.proofs.lemmas.Grind.{common_steps}
use Rattle.std.proofs.lemmas.List.{take_at}
use borrow.Rule.Slice.PartMut.{put_mid}
use Rattle.tm_channel.proofs.Sending.{framed-none, framed-one, framed-whole, prefix-put}
use Rattle.tm_channel.proofs.sender.PartialFrame.take.Goals as goal

-- the frame is whole in the octets, and none of it was held
pub returns-then-octets-length-clause-framed : goal.returns-then-octets-length-clause-framed
returns-then-octets-length-clause-framed c =
    let s = c.args.self.now in
    let size : length c.cadu.new.out ≡ c.codeblock_size-size.result + 4 = grind (arith, common_steps) in
    let unit = take_at c.cadu.new.out _ (c.codeblock_size-size.result + 4) size in
    framed-whole c.args.config.now _ (take c.length-length.result c.args.octets.now) _
    (ap (λ n. take n s.octets) c.if-self-eq0.true) (grind (arith, common_steps)) (omega arith) (unit ∙ c.cadu.ensures)
    (ap length unit ∙ size ∙ ap (λ n. n + 4) c.codeblock_size-size.ensures.value)

pub returns-then-end-length-clause-framed : goal.returns-then-end-length-clause-framed
returns-then-end-length-clause-framed c =
    let s = c.args.self.now in
    let taken = c.min-taken.result in
    let piece = take taken c.args.octets.now in
    let new = put_mid s.count ((s.count + taken) - s.count) s.octets c.copy_from_slice.new.self in
    let is : take (s.count + taken) new ≡ take s.count s.octets ++ piece =
    prefix-put s.count taken s.octets piece c.copy_from_slice.new.self c.copy_from_slice.ensures.after
    (grind (arith, common_steps)) (grind (arith, common_steps)) in
    framed-none c.args.config.now (take s.count s.octets) piece (take (s.count + taken) new) is
    (grind (arith, common_steps))

pub returns-clause-framed : goal.returns-clause-framed
returns-clause-framed c =
    let s = c.args.self.now in
    let taken = c.min-taken.result in
    let piece = take taken c.args.octets.now in
    let new = put_mid s.count ((s.count + taken) - s.count) s.octets c.copy_from_slice.new.self in
    let is : take (s.count + taken) new ≡ take s.count s.octets ++ piece =
    prefix-put s.count taken s.octets piece c.copy_from_slice.new.self c.copy_from_slice.ensures.after
    (grind (arith, common_steps)) (grind (arith, common_steps)) in
    let size : length c.cadu-2.new.out ≡ c.codeblock_size-size.result + 4 = grind (arith, common_steps) in
    let unit = take_at c.cadu-2.new.out _ (c.codeblock_size-size.result + 4) size in
    framed-one c.args.config.now (take s.count s.octets) piece (take (s.count + taken) new) _ is
    (grind (arith, common_steps)) (omega arith) (unit ∙ c.cadu-2.ensures)
    (ap length unit ∙ size ∙ ap (λ n. n + 4) c.codeblock_size-size.ensures.value)
