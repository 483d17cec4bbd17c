use Rattle.std.proofs.Common.{◌≡◌, ℕ, ◌≤◌, ◌-◌, ◌⊎◌, ◌∙◌, Some, true, sym, refl, ap, subst, arith}
use Rattle.std.specs.Option.{option_map}
use Rattle.tm_sync.specs.Places.{Rules, verify_bits}
use Rattle.tm_sync.specs.Searching.{Searching, is_pending}
use Rattle.tm_sync.proofs.Given.{reported_last, reported_next, reported_all, reported-fits, most_after, recalls-same, whole-once}
use Rattle.tm_sync.proofs.search.Search.next.Goals as goal

pub returns-then-not-pending-clause-none : goal.returns-then-not-pending-clause-none
returns-then-not-pending-clause-none c bits found h =
    reported_all c.args.self.now c.args.room.now (sym c.pending.ensures ∙ c.if-not-pending.true) bits found h

pub returns-then-left-lt32-clause-once : goal.returns-then-left-lt32-clause-once
returns-then-left-lt32-clause-once c = λ alone.
    let s = c.args.self.now in
    let m = c.in-Some.awaited in
    let was : s.awaited ≡ Some m = ap (λ (v : Searching). v.awaited) (sym c.self.view_is) ∙ c.in-Some.is in
    let is = whole-once s m was (sym c.pending.ensures ∙ c.if-not-pending.false)
    (most_after s _ c.self.view_is c.self.invariant.0) alone in (
      (λ i. option_map (λ _. is i) (was i)),
      refl,
    )

pub returns-else-left-lt32-clause-once : goal.returns-else-left-lt32-clause-once
returns-else-left-lt32-clause-once c = λ alone.
    let s = c.args.self.now in
    let m = c.in-Some.awaited in
    let was : s.awaited ≡ Some m = ap (λ (v : Searching). v.awaited) (sym c.self.view_is) ∙ c.in-Some.is in
    let is = whole-once s m was (sym c.pending.ensures ∙ c.if-not-pending.false)
    (most_after s _ c.self.view_is c.self.invariant.0) alone in
    let after : c.self.inside.after ≡ s.after = ap (λ (v : Searching). v.after) c.self.view_is in
    let block : c.from-block.result ≡ s.rules.block_bits =
    c.from-block.ensures ∙ ap (λ (v : Searching). v.rules.block_bits) c.self.view_is in
    absurd (omega (arith, c.if-left-lt32.false))

pub returns-then-left-lt32-clause-some : goal.returns-then-left-lt32-clause-some
returns-then-left-lt32-clause-some c bits found h =
    let s = c.args.self.now in
    let view = c.self.view_is in
    let m = c.in-Some.awaited in
    let pending : is_pending s ≡ true = sym c.pending.ensures ∙ c.if-not-pending.false in
    let was : s.awaited ≡ Some m = ap (λ (v : Searching). v.awaited) (sym view) ∙ c.in-Some.is in
    let fits = reported-fits s c.args.room.now m bits found was pending h in
    let pushed : c.self.inside.pushed ≡ s.pushed = ap (λ (v : Searching). v.pushed) view in
    let after : c.self.inside.after ≡ s.after = ap (λ (v : Searching). v.after) view in
    let block : c.from-block.result ≡ s.rules.block_bits = c.from-block.ensures
    ∙ ap (λ (v : Searching). v.rules.block_bits) view in
    reported_last s _ c.args.room.now m pending record {
      awaited_was = was;
      rules = ap (λ (v : Searching). v.rules) view;
      received = ap (λ (v : Searching). v.received) view;
      pushed = pushed;
      start = omega arith;
      before = refl;
    } (omega (arith, c.if-left-lt32.true)) refl refl bits found h

pub returns-else-left-lt32-clause-some : goal.returns-else-left-lt32-clause-some
returns-else-left-lt32-clause-some c bits found h =
    let s = c.args.self.now in
    let view = c.self.view_is in
    let room = c.args.room.now in
    let m = c.in-Some.awaited in
    let pending : is_pending s ≡ true = sym c.pending.ensures ∙ c.if-not-pending.false in
    let was : s.awaited ≡ Some m = ap (λ (v : Searching). v.awaited) (sym view) ∙ c.in-Some.is in
    let fits = reported-fits s room m bits found was pending h in
    let rules = ap (λ (v : Searching). v.rules) view in
    let received = ap (λ (v : Searching). v.received) view in
    let pushed : c.self.inside.pushed ≡ s.pushed = ap (λ (v : Searching). v.pushed) view in
    let after : c.self.inside.after ≡ s.after = ap (λ (v : Searching). v.after) view in
    let block : c.from-block.result ≡ s.rules.block_bits = c.from-block.ensures
    ∙ ap (λ (v : Searching). v.rules.block_bits) view in
    let since : ℕ = c.self.inside.after - c.from-block.result - 32 in
    reported_next s _ room m c.matched.result c.received_at-received.result pending record {
      awaited_was = was;
      rules = rules;
      received = received;
      pushed = pushed;
      start = omega arith;
      before = refl;
    } (most_after s _ view c.self.invariant.0) (omega (arith, c.if-left-lt32.false)) refl (omega arith) bits found
    (λ from r back there. c.received_at-received.ensures bits from
    (recalls-same s _ room bits from pushed received rules r)
    (subst (λ (r : Rules). (since ≡ 0) ⊎ ((32 ≤ since) × (since ≤ verify_bits r))) (sym rules) back) there)
    (λ l size is. c.matched.ensures (Some m.next) l size is) h
