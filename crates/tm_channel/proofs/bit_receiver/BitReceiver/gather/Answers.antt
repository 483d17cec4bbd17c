use Rattle.std.proofs.Common.{List, ℕ, take, sym, arith, subst}
use Rattle.std.proofs.lemmas.List.{take_all}
use Rattle.tm_channel.specs.OctetReceiving.{Gathered, Receives}
use Rattle.tm_channel.proofs.Ones.{next-ones, next_octets, ones}
use Rattle.tm_channel.proofs.ReceivedPieces.{receives-none, receives-then}
use Rattle.tm_channel.proofs.bit_receiver.BitReceiver.gather.Goals as goal

pub loop-done-init : goal.loop-done-init
loop-done-init g c = record {
  within = omega arith;
  fills = c.requires.fills;
  gathers = receives-none Gathered g.T.ItemWatch.took c.args.self.now c.args.taker.now;
}

pub loop-done-preserved : goal.loop-done-preserved
loop-done-preserved g c =
    let i = c.loop-done.invariant in
    let took = g.T.ItemWatch.took in
    let bits = c.args.bits.now in
    let done = c.loop-done.done in
    let count = c.run_length-count.result in
    let taker = c.args.taker.now in
    let start = c.args.self.now in
    let before = c.loop-done.self in
    let now = c.put.new.self in
    record {
      within = omega (arith, c.run_length-count.ensures.within);
      fills = c.put.ensures.fills;
      gathers = subst (Receives Gathered Gathered took start now taker c.put.new.taker)
          (sym (next-ones bits done count))
          (receives-then Gathered Gathered Gathered took start before now taker c.loop-done.taker c.put.new.taker
          (ones (take done bits)) (ones (next_octets done count bits)) i.gathers
          (subst (Receives Gathered Gathered took before now c.loop-done.taker c.put.new.taker)
          c.pack_run-octets.ensures.bits c.put.ensures.gathers));
    }

pub returns-clause-gathers : goal.returns-clause-gathers
returns-clause-gathers g c =
    subst (λ (l : List ℕ). Receives Gathered Gathered g.T.ItemWatch.took c.args.self.now
    c.loop-done.self c.args.taker.now c.loop-done.taker (ones l))
    (take_all c.loop-done.done c.args.bits.now c.loop-done-test.false) c.loop-done.invariant.gathers
