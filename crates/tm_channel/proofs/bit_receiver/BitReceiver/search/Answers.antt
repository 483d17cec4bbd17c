use Rattle.std.proofs.Common.{[], arith, refl}
use Rattle.tm_channel.specs.OctetReceiving.{Gathered, IsSearched, IsSettled}
use Rattle.tm_channel.proofs.Holding.{ready-fills}
use Rattle.tm_channel.proofs.ReceivedPieces.{receives-step, receives-then, waits-of}
use Rattle.tm_channel.proofs.bit_receiver.BitReceiver.search.Goals as goal

pub keep_all-requires-clause-agree : goal.keep_all-requires-clause-agree
keep_all-requires-clause-agree g c = c.requires.fills.agree

pub keep_all-requires-clause-few : goal.keep_all-requires-clause-few
keep_all-requires-clause-few g c = c.requires.fills.few

pub returns-then-count-bits_lacking-clause-searched : goal.returns-then-count-bits_lacking-clause-searched
returns-then-count-bits_lacking-clause-searched g c =
    let r = c.args.self.now in
    receives-step Gathered IsSearched g.T.ItemWatch.took r r c.args.taker.now refl refl
    (λ all done count at few le was. waits-of r all done count at c.requires.fills
    (omega (arith, c.count.ensures.value, c.bits_lacking.ensures.value, c.if-count-bits_lacking.true)) was)

pub returns-clause-fills : goal.returns-clause-fills
returns-clause-fills g c =
    let r = c.keep_all.new.self in ready-fills r.finder r.recent r.batch c.keep_all.ensures.ready

pub returns-clause-searched : goal.returns-clause-searched
returns-clause-searched g c =
    let took = g.T.ItemWatch.took in
    let now = c.keep_all.new.self in
    let taker = c.keep_all.new.taker in
    receives-then Gathered IsSettled IsSearched took c.args.self.now now now c.args.taker.now taker taker [] []
    c.keep_all.ensures.settles
    (receives-step IsSettled IsSearched took now now taker refl refl (λ all done count at few le was. was.0))
