use Rattle.std.proofs.Common.{◌≡◌, ◌≤◌, ◌+◌, ◌∙◌, ◌<◌, ◌^◌, ◌%◌, sym, refl, ap, arith, Bool, List}
use Rattle.tm_base.specs.Bits.{number_of}
use Rattle.tm_sync.specs.declared.found.Found.{Found}
use Rattle.tm_sync.specs.Places.{match_of}
use Rattle.tm_sync.specs.Searching.{Searching, SearchStandsFor, Remembers}
use Rattle.tm_sync.proofs.Recent.{top-bit}
use Rattle.tm_sync.proofs.Given.{counts, grows, start-there, push_far}
use Rattle.tm_sync.proofs.search.Search.push_bit.Goals.{After-remember}
use Rattle.tm_sync.proofs.search.Search.push_bit.Goals as goal

-- what the room holds when it was given the bit
held : (c : After-remember) (bits : List Bool) (found : List Found)
    → SearchStandsFor c.args.self.now c.args.room.now bits found
    → Remembers c.args.room.now c.remember.new.room bits c.args.bit
held c bits found h =
    let s = c.args.self.now in
    let pushed : c.self.inside.pushed ≡ s.pushed = ap (λ (v : Searching). v.pushed) c.self.view_is in
    let received : c.self.inside.received ≡ number_of bits % 2 ^ 32 =
    ap (λ (v : Searching). v.received) (c.self.view_is ∙ h.search) in
    c.remember.ensures.remembers bits c.args.bit (pushed ∙ (start-there s c.args.room.now bits found h).0)
    (λ long. top-bit c.self.inside.received bits received long)

pub returns-then-is_far-clause-stands : goal.returns-then-is_far-clause-stands
returns-then-is_far-clause-stands c = λ bits found few h.
    let s = c.args.self.now in
    let small : s.pushed < 2 ^ 63 = omega (arith, (start-there s c.args.room.now bits found h).0) in
    let kept = held (goal.at.returns-then-is_far-clause-stands c).After-remember bits found h in
    let far = c.is_far.ensures.far c.if-is_far.true in
    let free = c.self.invariant.3 far.0 in
    let start : c.self.inside.start + 32 ≤ c.self.inside.pushed = free.2 in
    push_far s _ c.args.room.now c.remember.new.room c.args.bit bits found
    (grows s _ _ c.args.bit (counts s _ _ c.args.bit _ c.self.view_is c.from.ensures small refl refl refl refl refl
    refl refl) refl refl refl refl refl) kept
    (ap (λ (v : Searching). v.awaited) (sym c.self.view_is) ∙ free.1) free.1
    (ap (λ (v : Searching). v.after) c.self.view_is) (omega arith)
    (λ l long is. ap (λ (v : Searching). match_of v.rules l) (sym c.self.view_is)
    ∙ far.1 _ l (record { tolerance = c.self.invariant.1; least_is = c.self.invariant.2; count_is = free.0 })
    long is) h

pub returns-clause-stands : goal.returns-clause-stands
returns-clause-stands c = λ bits found few h.
    let s = c.args.self.now in
    let small : s.pushed < 2 ^ 63 = omega (arith, (start-there s c.args.room.now bits found h).0) in
    let kept = held (goal.at.returns-clause-stands c).After-remember bits found h in
    c.look_closer.ensures.stands s c.args.room.now c.args.bit bits found few
    (counts s _ _ c.args.bit _ c.self.view_is c.from.ensures small refl refl refl refl refl refl refl) kept h
