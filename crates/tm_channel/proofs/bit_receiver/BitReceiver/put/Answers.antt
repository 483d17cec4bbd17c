use Rattle.std.proofs.Common.{[], ap, arith, drop, refl}
use Rattle.tm_base.specs.Bits.{bits_of}
use Rattle.tm_sync.specs.Finding.{Recent}
use Rattle.tm_channel.specs.OctetReceiving.{Gathered, IsSettled}
use Rattle.tm_channel.specs.declared.bit_receiver.BitReceiver.{BitReceiver}
use Rattle.tm_channel.proofs.Holding.{agree-more, ready-fills}
use Rattle.tm_channel.proofs.ReceivedPieces.{gathered-of, gathers-pushed, receives-after, receives-then, receives-step}
use Rattle.tm_channel.proofs.bit_receiver.BitReceiver.put.Goals as goal

pub keep_all-requires-clause-agree : goal.keep_all-requires-clause-agree
keep_all-requires-clause-agree g c =
    let r = c.args.self.now in
    agree-more r.finder r.recent c.push.new.self r.batch (drop c.args.from (bits_of c.args.octets.now))
    (ap (λ (l : Recent). l.size) c.push.ensures) (ap (λ (l : Recent). l.bits) c.push.ensures) c.requires.fills.agree

pub keep_all-requires-clause-few : goal.keep_all-requires-clause-few
keep_all-requires-clause-few g c = c.requires.fills.few

pub returns-then-free-ge-RUN-clause-fills : goal.returns-then-free-ge-RUN-clause-fills
returns-then-free-ge-RUN-clause-fills g c =
    let r = c.args.self.now in record {
      agree = agree-more r.finder r.recent c.push.new.self r.batch (drop c.args.from (bits_of c.args.octets.now))
          (ap (λ (l : Recent). l.size) c.push.ensures) (ap (λ (l : Recent). l.bits) c.push.ensures)
          c.requires.fills.agree;
      free = omega (arith, c.free.ensures, c.if-free-ge-RUN.true);
      few = c.requires.fills.few;
    }

pub returns-then-free-ge-RUN-clause-gathers : goal.returns-then-free-ge-RUN-clause-gathers
returns-then-free-ge-RUN-clause-gathers g c =
    let start = c.args.self.now in
    let pushed : BitReceiver = record start { recent = c.push.new.self } in
    gathers-pushed g.T.ItemWatch.took start pushed c.args.taker.now (drop c.args.from (bits_of c.args.octets.now))
    (λ k. record start { recent = c.push.ensures k })

pub returns-clause-fills : goal.returns-clause-fills
returns-clause-fills g c =
    let r = c.keep_all.new.self in ready-fills r.finder r.recent r.batch c.keep_all.ensures.ready

pub returns-clause-gathers : goal.returns-clause-gathers
returns-clause-gathers g c =
    let took = g.T.ItemWatch.took in
    let start = c.args.self.now in
    let pushed : BitReceiver = record start { recent = c.push.new.self } in
    let now = c.keep_all.new.self in
    let taker = c.args.taker.now in
    let bits = drop c.args.from (bits_of c.args.octets.now) in
    receives-after Gathered Gathered Gathered took start pushed now taker taker c.keep_all.new.taker bits
    (gathers-pushed took start pushed taker bits (λ k. record start { recent = c.push.ensures k }))
    (receives-then Gathered IsSettled Gathered took pushed now now taker c.keep_all.new.taker c.keep_all.new.taker [] []
    c.keep_all.ensures.settles
    (receives-step IsSettled Gathered took now now c.keep_all.new.taker refl refl
    (λ all done count at few le was. gathered-of now all done count at was.0)))
