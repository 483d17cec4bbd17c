use Rattle.std.proofs.Common.{◌∙◌, ◌++◌, [], List, Bool, sym, subst}
use Rattle.std.proofs.lemmas.List.{append-nil}
use Rattle.tm_channel.specs.OctetReceiving.{Gathered, IsEnded, IsSearched, IsSettled}
use Rattle.tm_channel.specs.Origins.{AreAt}
use Rattle.tm_channel.proofs.AllBits.{all-items}
use Rattle.tm_channel.proofs.KeptSymbols.{symbols-then}
use Rattle.tm_channel.proofs.ReceivedPieces.{gathers-begun, receives-then}
use Rattle.tm_channel.proofs.Streaming.{items-last}
use Rattle.tm_channel.proofs.bit_receiver.BitReceiver.hand_last.Goals as goal

pub keep_all-requires-clause-agree : goal.keep_all-requires-clause-agree
keep_all-requires-clause-agree g c = c.requires.awaits.fills.agree

pub keep_all-requires-clause-few : goal.keep_all-requires-clause-few
keep_all-requires-clause-few g c = c.requires.awaits.fills.few

-- all that waits is searched, and what is stored then handed over
pub returns : goal.returns
returns g c =
    let took = g.T.ItemWatch.took in
    let start = c.args.self.now in
    let now = c.keep_all.new.self in
    let end = c.hand_all.new.self in
    let k = now.batch.config in
    let taker = c.args.taker.now in
    let middle = c.keep_all.new.taker in
    let hand = c.hand_all.ensures in
    let last = hand.all in record {
      handed = receives-then IsSearched IsSettled IsEnded took start now end taker middle c.hand_all.new.taker [] []
          (receives-then IsSearched Gathered IsSettled took start start now taker taker middle [] []
          (gathers-begun took start taker) c.keep_all.ensures.settles) (record {
            config = hand.config;
            origins = hand.origins;
            items = last.0;
            handed = last.2;
            on = λ given done count at few le was.
                subst (λ (l : List Bool). IsEnded k at count l end (done ++ last.0)) (sym (append-nil given)) (
                  all-items k given done last.0 was.0.0.are_items
                      (items-last k now.finder now.recent.bits now.batch.stored given last.0 was.1 last.1),
                  symbols-then at count done last.0 was.0.0.said (subst (AreAt at count) (sym last.3) was.0.0.stored),
                );
          });
    }
