use Rattle.std.proofs.Common.{◌≡◌, ◌∙◌, ◌+◌, ◌-◌, ◌%◌, length, sym, ap, arith}
use Rattle.tm_sync.specs.Searching.{Searching, end_of}
use Rattle.tm_sync.specs.Places.{places}
use Rattle.tm_sync.proofs.Given.{left-pending, left-after}
use Rattle.tm_sync.proofs.search.Search.finish.Goals as goal

pub returns-then-pending : goal.returns-then-pending
returns-then-pending c = λ room bits found few h.
    let s = c.args.self in
    let after : c.self.inside.after ≡ s.after = ap (λ (v : Searching). v.after) c.self.view_is in
    let block : c.from-block.result ≡ s.rules.block_bits = c.from-block.ensures
    ∙ ap (λ (v : Searching). v.rules.block_bits) c.self.view_is in
    (λ i. (after i - block i) % (32 + block i)) ∙ left-pending s room
    (sym c.pending.ensures ∙ c.if-pending.true) bits found h

pub returns : goal.returns
returns c = λ room bits found few h.
    let left = left-after c.args.self room (sym c.pending.ensures ∙ c.if-pending.false) bits found h in
    let pushed : c.self.inside.pushed ≡ length bits = ap (λ (s : Searching). s.pushed) c.self.view_is ∙ left.0 in
    let start : c.self.inside.start ≡ c.args.self.start = ap (λ (s : Searching). s.start) c.self.view_is in
    let end : c.args.self.start ≡ end_of c.args.self.rules (places c.args.self.rules bits) = left.2 in
    omega (arith, left.0, left.1)
