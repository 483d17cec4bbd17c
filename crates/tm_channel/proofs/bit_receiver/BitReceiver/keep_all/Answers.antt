use Rattle.std.proofs.Common.{◌∙◌, ◌++◌, [], List, Bool, refl, sym, subst}
use Rattle.std.proofs.lemmas.List.{append-nil}
use Rattle.tm_channel.specs.OctetReceiving.{Gathered, IsSettled}
use Rattle.tm_channel.proofs.Holding.{agree-batch}
use Rattle.tm_channel.proofs.ReceivedPieces.{receives-step, receives-then}
use Rattle.tm_channel.proofs.Settling.{Settling, settling-all, settling-handed, settling-start}
use Rattle.tm_channel.proofs.bit_receiver.BitReceiver.keep_all.Goals as goal

pub loop-self-init : goal.loop-self-init
loop-self-init g c =
    let start = c.args.self.now in record {
      agree = c.requires.agree;
      few = c.requires.few;
      settling = receives-step Gathered Settling g.T.ItemWatch.took start start c.args.taker.now refl refl
          (λ all done count at few le was. settling-start start all done count at was);
    }

pub loop-self-preserved : goal.loop-self-preserved
loop-self-preserved g c =
    let took = g.T.ItemWatch.took in
    let before = c.loop-self.self in
    let middle = c.keep_next.new.self in
    let now = c.hand_full.new.self in
    let keep = c.keep_next.ensures in
    let hand = c.hand_full.ensures in
    let stored = keep.kept c.loop-self-test.true in
    let some = hand.all in record {
      agree =
          agree-batch middle.finder now.finder middle.recent now.recent middle.batch now.batch hand.finder hand.recent
          hand.config hand.written keep.agree;
      few = hand.few;
      settling = receives-then Gathered Settling Settling took c.args.self.now before now c.args.taker.now
          c.loop-self.taker c.hand_full.new.taker [] [] c.loop-self.invariant.settling (record {
            config = hand.config ∙ keep.config;
            origins = hand.origins ∙ keep.origins;
            items = some.0;
            handed = some.2;
            on = λ given done count at few le was.
                settling-handed before middle now stored.0 some.0 count at keep.config hand.finder hand.recent
                hand.config hand.origins stored.1 some.1 some.3 (given ++ []) done few le
                (subst (λ (l : List Bool). Settling before.batch.config at count l before done) (sym (append-nil given))
                was);
          });
    }

pub returns-clause-settles : goal.returns-clause-settles
returns-clause-settles g c =
    let before = c.loop-self.self in
    let now = c.keep_next.new.self in
    let taker = c.loop-self.taker in
    let keep = c.keep_next.ensures in
    receives-then Gathered Settling IsSettled g.T.ItemWatch.took c.args.self.now before now c.args.taker.now taker taker
    [] [] c.loop-self.invariant.settling
    (receives-step Settling IsSettled g.T.ItemWatch.took before now taker keep.config keep.origins
    (λ all done count at few le was. settling-all before now keep.config (keep.none c.loop-self-test.false)
    all done count at few le was))
