use Rattle.std.proofs.Common.{◌≡◌, ℕ, ◌≤◌, ◌+◌, ◌-◌, ◌*◌, ◌%◌, ◌^◌, ◌∙◌, ⊎_elim, length, drop, length-drop, sym, ap, arith, bit_or}
use Rattle.tm_sync.specs.Searching.{Searching}
use Rattle.tm_sync.specs.Places.{verify_bits}
use Rattle.tm_sync.proofs.Looks.{received-now, received-empty, received-more, received-whole, zero-from-test}
use Rattle.tm_sync.proofs.search.Search.received_at.Goals.{then-back-eq0-via-then-back-eq0, then-back-eq0-via-else-back-eq0+then-is_empty}
use Rattle.tm_sync.proofs.search.Search.received_at.Goals as goal

pub returns-then-back-eq0 : goal.returns-then-back-eq0
returns-then-back-eq0 c = λ bits from r back there.
    let none : c.args.back ≡ 0 = elim c.then-back-eq0.branch [
      | then-back-eq0-via-then-back-eq0 w ↦ w.if-back-eq0.true
      | then-back-eq0-via-else-back-eq0+then-is_empty w ↦
          received-empty c.args.self.now c.args.room.now bits from c.args.back r
          (zero-from-test (length c.args.room.now) (sym w.is_empty.ensures ∙ w.if-is_empty.true)) back
    ] in
    ap (λ (v : Searching). v.received) c.self.view_is ∙ received-now c.args.self.now c.args.room.now bits from
    c.args.back r
    none there

pub loop-k-preserved : goal.loop-k-preserved
loop-k-preserved c = λ bits from r long few there.
    let room = c.args.room.now in
    let n : ℕ = length bits - (32 + c.args.back) in
    let pushed : c.self.inside.pushed ≡ length bits = ap (λ (v : Searching). v.pushed) c.self.view_is ∙ r.pushed in
    let first : ((c.self.inside.pushed + (2 ^ 64 - 32)) % 2 ^ 64 + (2 ^ 64 - c.args.back)) % 2 ^ 64 ≡ n = omega arith in
    let at : (((c.self.inside.pushed + (2 ^ 64 - 32)) % 2 ^ 64 + (2 ^ 64 - c.args.back)) % 2 ^ 64 + c.loop-k.k) % 2 ^
    64 ≡ n + c.loop-k.k = omega arith in
    ap (bit_or (c.loop-k.received * 2 % 2 ^ 32)) c.from.ensures
    ∙ received-more c.args.self.now room bits from c.args.back c.loop-k.k _ c.loop-k.received r long few there
    (omega arith)
    (ap (λ j. j % length room) at)
    (c.loop-k.invariant bits from r long few there)

pub returns : goal.returns
returns c = λ bits from r back there.
    let none = c.if-back-eq0.false in
    let far : (32 ≤ c.args.back) × (c.args.back ≤ verify_bits c.args.self.now.rules) =
    ⊎_elim (λ zero. absurd (none zero)) (λ more. more) back in
    let left = length-drop (length bits - (32 + c.args.back)) bits in
    received-whole c.loop-k.received c.loop-k.k (drop (length bits - (32 + c.args.back)) bits) (omega arith)
    (omega arith)
    (omega arith)
    (c.loop-k.invariant bits from r far.0 far.1 there)
