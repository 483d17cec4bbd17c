use Rattle.std.proofs.Common.{◌≡◌, ◌∙◌, ℕ, ◌+◌, ◌-◌, ◌*◌, ◌/◌, ◌≤◌, ◌<◌, ◌%◌, ◌^◌, ◌∷◌, [], append_assoc, ◌++◌, ap, sym, arith, length, refl, subst}
use Rattle.std.proofs.lemmas.List.{append-nil}
use Rattle.tm_base.specs.Bits.{bits_of_octet, number_of}
use Rattle.tm_base.proofs.Packing.{length-low_bits}
use Rattle.tm_sync.specs.Places.{match_of}
use Rattle.tm_sync.specs.Searching.{Searching, SearchStandsFor}
use Rattle.tm_sync.proofs.Given.{free-of, push_far, push_short, start-there, verify-none}
use Rattle.tm_sync.proofs.Sliding.{bit_of, bits-bit, bits-all, received-window}
use Rattle.tm_sync.proofs.search.Search.pass_octet.Invariants.{passing}
use Rattle.tm_sync.proofs.search.Search.pass_octet.Goals as goal

pub returns-then-since-lt24-clause-stands : goal.returns-then-since-lt24-clause-stands
returns-then-since-lt24-clause-stands c = λ done room bits found few h.
    let s = c.args.self.now in
    let there = start-there s room bits found h in
    let none : length room ≡ 0 = h.sized ∙ verify-none s.rules c.requires.alone in
    let pushed : c.self.inside.pushed ≡ s.pushed = ap (λ (v : Searching). v.pushed) c.self.view_is in
    let start : c.self.inside.start ≡ s.start = ap (λ (v : Searching). v.start) c.self.view_is in
    push_short s _ room room (bits_of_octet c.args.octet) (free-of s c.requires.free)
    (ap (λ (v : Searching). v.rules) c.self.view_is)
    (omega (arith, there.0, length-low_bits 8 c.args.octet)) start
    (ap (λ (v : Searching). v.before) c.self.view_is)
    (ap (λ (v : Searching). v.awaited) c.self.view_is) (ap (λ (v : Searching). v.after) c.self.view_is)
    (omega (arith, c.if-since-lt24.true, there.0, there.1)) refl bits found
    (c.last_bits-self-inside.ensures bits
    (ap (λ (v : Searching). v.received) c.self.view_is ∙ ap (λ (v : Searching). v.received) h.search)
    ∙ ap (λ l. number_of (bits ++ l) % 2 ^ 32) (append-nil (bits_of_octet c.args.octet)))
    (λ recent i low within held. absurd (omega (arith, none))) h

pub loop-left-preserved : goal.loop-left-preserved
loop-left-preserved c =
    let s = c.args.self.now in
    let view = c.self.view_is in
    let octet = c.args.octet in
    let left = c.loop-left.left in
    let most : left ≤ 8 = c.loop-left.invariant.most in
    let some : 0 < left = c.loop-left-test.true in
    let was = c.loop-left.invariant.given in
    let bit = bit_of (left - 1) octet in
    let far = c.is_far.ensures.far c.if-not-is_far.false in
    let free = c.self.invariant.3 far.0 in
    let pushed : c.self.inside.pushed ≡ s.pushed = ap (λ (v : Searching). v.pushed) view in
    let start : c.self.inside.start ≡ s.start = ap (λ (v : Searching). v.start) view in
    let enough : c.self.inside.start + 32 ≤ c.self.inside.pushed = free.2 in
    let received : c.window.result ≡ (s.received * 256 + octet) / 2 ^ (left - 1) % 2 ^ 32 =
    c.window.ensures
    ∙ (λ i. ((c.from.ensures ∙ ap (λ (v : Searching). v.received) view) i * 256 + c.from-2.ensures i)
    / 2 ^ (left - 1) % 2 ^ 32) in
    record {
      most = omega arith;
      given = (
        was.0 ++ bit ∷ [],
        bits-bit was.0 left octet some was.1,
        λ room bits found few h.
            let none : length room ≡ 0 = h.sized ∙ verify-none s.rules c.requires.alone in
            subst (λ l. SearchStandsFor (passing s octet (left - 1)) room l found) (append_assoc bits was.0 (bit ∷ []))
            (push_far (passing s octet left) (passing s octet (left - 1)) room room bit (bits ++ was.0) found record {
              rules = refl;
              received = received-window s.received octet left some most c.ranges.octet.fits;
              pushed = omega arith;
              start = refl;
              before = refl;
            } record { sized = refl; recent = λ from recent i low within held. absurd (omega (arith, none)) }
            (free-of s c.requires.free) (free-of s c.requires.free) refl (omega arith)
            (λ l long is. ap (λ (v : Searching). match_of v.rules l) (sym view)
            ∙ far.1 _ l (record { tolerance = c.self.invariant.1; least_is = c.self.invariant.2; count_is = free.0 })
            long (received ∙ is))
            (was.2 room bits found few h)),
      );
    }

pub returns-clause-stands : goal.returns-clause-stands
returns-clause-stands c = λ done room bits found few h.
    let s = c.args.self.now in
    let octet = c.args.octet in
    let was = c.loop-left.invariant.given in
    let none : c.loop-left.left ≡ 0 = omega arith in
    let pushed : s.pushed + (8 - 0) ≡ c.self.inside.pushed + 8 =
    omega (arith, ap (λ (v : Searching). v.pushed) c.self.view_is) in
    let received : (s.received * 256 + octet) / 2 ^ 0 % 2 ^ 32 ≡ c.window-self-inside.result =
    sym (c.window-self-inside.ensures
    ∙ (λ i. ((c.from.ensures ∙ ap (λ (v : Searching). v.received) c.self.view_is) i * 256
    + c.from-2.ensures i) / 1 % 2 ^ 32)) in
    subst (λ (v : Searching). SearchStandsFor v room (bits ++ bits_of_octet octet) found)
    (λ i. record (sym c.self.view_is i) { received = received i; pushed = pushed i })
    (subst (λ (n : ℕ). SearchStandsFor (passing s octet n) room (bits ++ bits_of_octet octet) found) none
    (subst (λ l. SearchStandsFor (passing s octet c.loop-left.left) room (bits ++ l) found)
    (sym (bits-all was.0 c.loop-left.left octet none was.1))
    (was.2 room bits found few h)))
