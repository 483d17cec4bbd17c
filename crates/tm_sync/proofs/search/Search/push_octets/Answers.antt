use Rattle.std.proofs.Common.{◌≡◌, ◌∙◌, ap, arith}
use Rattle.tm_base.specs.Bits.{bits_of}
use Rattle.tm_base.proofs.Packing.{length-bits_of}
use Rattle.tm_sync.specs.Searching.{Searching}
use Rattle.tm_sync.proofs.Given.{push_run, start-there, some_inside, inside-is}
use Rattle.tm_sync.proofs.search.Search.push_octets.Goals as goal

pub returns-clause-stands : goal.returns-clause-stands
returns-clause-stands c = λ room bits found few h.
    let s = c.args.self.now in
    let more = bits_of c.args.octets.now in
    let long = length-bits_of c.args.octets.now in
    let there = start-there s room bits found h in
    let m = some_inside s c.requires.inside in
    let inside = inside-is s m.0 m.1 in
    let fits = c.requires.fits in
    let pushed : c.self.inside.pushed ≡ s.pushed = ap (λ (v : Searching). v.pushed) c.self.view_is in
    let after : c.self.inside.after ≡ s.after = ap (λ (v : Searching). v.after) c.self.view_is in
    let block : c.self.inside.block_bits ≡ s.rules.block_bits =
    ap (λ (v : Searching). v.rules.block_bits) c.self.view_is in
    push_run s _ room more m.0 m.1 (ap (λ (v : Searching). v.rules) c.self.view_is) (omega (arith, long, there.0))
    (ap (λ (v : Searching). v.start) c.self.view_is) (ap (λ (v : Searching). v.before) c.self.view_is)
    (ap (λ (v : Searching). v.awaited) c.self.view_is)
    (omega (arith, long, after)) (omega arith) bits found
    (c.last_bits-self-inside.ensures bits (ap (λ (v : Searching). v.received) c.self.view_is
    ∙ ap (λ (v : Searching). v.received) h.search)) h
