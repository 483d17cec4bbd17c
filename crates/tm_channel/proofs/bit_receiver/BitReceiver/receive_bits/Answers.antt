use Rattle.std.proofs.Common.{◌≡◌, ◌==◌, ◌∙◌, [], map, sym, true, false}
use Rattle.tm_channel.specs.OctetReceiving.{Gathered, IsSearched}
use Rattle.tm_channel.proofs.ReceivedPieces.{awaits-on, gathers-begun, receives-after, receives-then}
use Rattle.tm_channel.proofs.bit_receiver.BitReceiver.receive_bits.Goals as goal

pub returns-clause-awaits : goal.returns-clause-awaits
returns-clause-awaits g c =
    let p = c.gather.ensures.gathers in
    let q = c.search.ensures.searched in
    awaits-on c.args.self.now c.search.new.self c.requires.awaits (q.config ∙ p.config) (q.origins ∙ p.origins)
    c.search.ensures.fills (λ coded. absurd (let both : true ≡ false = sym coded ∙ c.requires.plain in cc))

pub returns-clause-handed : goal.returns-clause-handed
returns-clause-handed g c =
    let took = g.T.ItemWatch.took in
    let start = c.args.self.now in
    let middle = c.gather.new.self in
    let taker = c.args.taker.now in
    let bits = map (λ bit. bit == 1) c.args.bits.now in
    receives-after IsSearched Gathered IsSearched took start middle c.search.new.self taker c.gather.new.taker
    c.search.new.taker bits
    (receives-then IsSearched Gathered Gathered took start start middle taker taker c.gather.new.taker [] bits
    (gathers-begun took start taker) c.gather.ensures.gathers) c.search.ensures.searched
