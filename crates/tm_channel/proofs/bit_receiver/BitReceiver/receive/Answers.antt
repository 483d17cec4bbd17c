use Rattle.std.proofs.Common.{true, false, List, ℕ, sym, ap, ◌++◌, ◌≡◌, ◌+◌, ◌-◌, ◌*◌, ◌∙◌, drop, take, length, min, arith, subst, length-take-le, length-drop}
use Rattle.std.proofs.lemmas.List.{take_all}
use Rattle.std.proofs.Math.Seq.{drop-nil}
use Rattle.tm_base.specs.Bits.{bits_of}
use Rattle.tm_channel.specs.OctetReceiving.{Gathered, IsSearched, Receives}
use Rattle.tm_channel.proofs.ReceivedPieces.{awaits-on, gathers-begun, receives-after, receives-then}
use Rattle.tm_channel.proofs.SkippedBits.{skipped-next}
use Rattle.tm_channel.proofs.bit_receiver.BitReceiver.receive.Goals as goal

pub loop-done-init : goal.loop-done-init
loop-done-init g c =
    let start = c.args.self.now in record {
      within = omega arith;
      fills = c.requires.awaits.fills;
      gathers = subst (Receives IsSearched Gathered g.T.ItemWatch.took start start c.args.taker.now c.args.taker.now)
          (sym (drop-nil c.args.from)) (gathers-begun g.T.ItemWatch.took start c.args.taker.now);
    }

pub put-requires-clause-room : goal.put-requires-clause-room
put-requires-clause-room g c =
    omega (
      arith,
      c.free.ensures,
      c.min.ensures,
      length-take-le ((c.loop-done.done + c.min.result) - c.loop-done.done) (drop c.loop-done.done c.args.octets.now)
          (omega (arith, c.min.ensures, length-drop c.loop-done.done c.args.octets.now)),
    )

pub loop-done-smaller : goal.loop-done-smaller
loop-done-smaller g c =
    omega (arith, c.loop-done.invariant.fills.free, c.free.ensures, c.min.ensures, c.loop-done-test.true)

pub loop-done-preserved : goal.loop-done-preserved
loop-done-preserved g c =
    let i = c.loop-done.invariant in
    let octets = c.args.octets.now in
    let from = c.args.from in
    let done = c.loop-done.done in
    let end = done + c.min.result in
    let piece = take (end - done) (drop done octets) in
    let took = g.T.ItemWatch.took in
    let taker = c.args.taker.now in
    let start = c.args.self.now in
    let before = c.loop-done.self in
    let now = c.put.new.self in
    let bits = drop from (bits_of (take done octets)) in
    let skipped : c.min-skipped.result ≡ min (from - 8 * done) (8 * length piece) = c.min-skipped.ensures
    ∙ ap (λ n. min n (8 * length piece)) c.saturating_sub.ensures in
    record {
      within = omega (arith, c.min.ensures, c.loop-done-test.true);
      fills = c.put.ensures.fills;
      gathers = subst (Receives IsSearched Gathered took start now taker c.put.new.taker)
          (ap (λ n. bits ++ drop n (bits_of piece)) skipped ∙ skipped-next from done end octets (omega arith) i.within)
          (receives-then IsSearched Gathered Gathered took start before now taker c.loop-done.taker c.put.new.taker bits
          (drop c.min-skipped.result (bits_of piece)) i.gathers c.put.ensures.gathers);
    }

pub returns-clause-awaits : goal.returns-clause-awaits
returns-clause-awaits g c =
    let p = c.loop-done.invariant.gathers in
    let q = c.search.ensures.searched in
    awaits-on c.args.self.now c.search.new.self c.requires.awaits (q.config ∙ p.config) (q.origins ∙ p.origins)
    c.search.ensures.fills (λ coded. absurd (let both : true ≡ false = sym coded ∙ c.requires.plain in cc))

pub returns-clause-handed : goal.returns-clause-handed
returns-clause-handed g c =
    let took = g.T.ItemWatch.took in
    let start = c.args.self.now in
    let middle = c.loop-done.self in
    let taker = c.args.taker.now in
    let between = c.loop-done.taker in
    receives-after IsSearched Gathered IsSearched took start middle c.search.new.self taker between c.search.new.taker
    (drop c.args.from (bits_of c.args.octets.now))
    (subst (λ (l : List ℕ). Receives IsSearched Gathered took start middle taker between
    (drop c.args.from (bits_of l))) (take_all c.loop-done.done c.args.octets.now c.loop-done-test.false)
    c.loop-done.invariant.gathers) c.search.ensures.searched
