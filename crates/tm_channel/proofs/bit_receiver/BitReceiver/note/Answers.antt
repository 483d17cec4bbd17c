use Rattle.std.specs.Option.{is_some}
use Rattle.std.proofs.Common.{◌≡◌, ◌<◌, ◌+◌, ◌%◌, ◌^◌, ◌∙◌, length, sym, ap, subst, arith}
use Rattle.tm_sync.specs.Places.{Rules, settled_by}
use Rattle.tm_codeblock.specs.ReceivedCodeblock.{rules_of}
use Rattle.tm_channel.specs.Origins.{Noted, ReachesBack, noted}
use Rattle.tm_channel.proofs.Holding.{stands-count}
use Rattle.tm_channel.proofs.OriginRoom.{Known, noted-known}
use Rattle.tm_channel.proofs.bit_receiver.BitReceiver.note.Goals as goal

pub returns-clause-awaits : goal.returns-clause-awaits
returns-clause-awaits c = record {
  fills = c.requires.awaits.fills;
  reaches = subst (ReachesBack c.args.self.now.batch.config) (sym (ap (λ (n : Noted). n.size) c.note.ensures))
      c.requires.awaits.reaches;
  short = c.requires.awaits.short;
}

pub returns-clause-noted : goal.returns-clause-noted
returns-clause-noted c = λ rate coded bits at then few stood known before after.
    let r = c.args.self.now in
    let k = r.batch.config in
    let is_able = c.requires.awaits in
    let reach = is_able.reaches in
    let short : length r.recent.bits < settled_by (rules_of k).verify (rules_of k).block_bits =
    subst (λ (rules : Rules). length r.recent.bits < settled_by rules.verify rules.block_bits)
    is_able.fills.agree.rules (is_able.short (ap is_some coded)) in
    let all = stands-count r.finder r.recent r.batch bits stood in
    let first : (c.passed.result + c.count.result) % 2 ^ 64 ≡ length bits = omega (
      arith,
      few,
      all,
      c.passed.ensures,
      c.count.ensures.value,
    ) in
    let is : c.note.new.self ≡ noted (length bits) c.args.origin r.origins =
    c.note.ensures ∙ ap (λ n. noted n c.args.origin r.origins) first in
    let it : Known rate k.keep r.finder.passed (length bits) then c.note.new.self.origins =
    subst (λ (v : Noted). Known rate k.keep r.finder.passed (length bits) then v.origins) (sym is)
    (noted-known rate k.keep r.origins.size (length bits) c.args.origin r.finder.passed r.origins.origins at then
    known.0 known.1 (omega (arith, all)) (omega (arith, all, short, reach)) before after) in
    (it.symbols, it.spaced)
