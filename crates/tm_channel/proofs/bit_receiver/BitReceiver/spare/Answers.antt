use Rattle.std.proofs.Common.{arith}
use Rattle.tm_channel.proofs.Spare.{lacking-most, spare-due}
use Rattle.tm_channel.proofs.bit_receiver.BitReceiver.spare.Goals as goal

pub bits_lacking-lacking-requires : goal.bits_lacking-lacking-requires
bits_lacking-lacking-requires g c = record { some = c.requires.awaits.fills.few }

pub returns-then-share-lt2-clause-value : goal.returns-then-share-lt2-clause-value
returns-then-share-lt2-clause-value g c = λ bits more stood few.
    let r = c.args.self.now in
    let fills = c.requires.awaits.fills in
    spare-due r.finder r.recent r.batch bits more fills.agree fills.few stood (omega (arith, few))

pub returns-clause-value : goal.returns-clause-value
returns-clause-value g c = λ bits more stood few.
    let r = c.args.self.now in
    let fills = c.requires.awaits.fills in
    spare-due r.finder r.recent r.batch bits more fills.agree fills.few stood
    (omega (arith, few, c.bits_lacking-lacking.ensures.value, c.saturating_sub.ensures, c.count.ensures.value))

pub returns-clause-most : goal.returns-clause-most
returns-clause-most g c =
    omega (arith, lacking-most c.args.self.now.batch, c.bits_lacking-lacking.ensures.value, c.saturating_sub.ensures)
