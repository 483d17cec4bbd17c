use Rattle.std.proofs.Common.{◌≡◌, ◌<◌, ◌+◌, ◌-◌, ◌∙◌, arith, [], ◌∷◌, ◌++◌, sym, ap, subst, nat_le, false}
use Rattle.std.specs.Option.{option_map, option_map_or}
use Rattle.tm_sync.specs.Searching.{Searching, SearchStandsFor, is_pending}
use Rattle.tm_sync.proofs.Given.{grows, push_inside, short-bit, start-there, some_awaited, none_awaited}
use Rattle.tm_sync.proofs.search.Search.look_closer.Goals as goal

pub returns-then-is_some-clause-stands : goal.returns-then-is_some-clause-stands
returns-then-is_some-clause-stands c = λ s was bit bits found few count kept h.
    let fields : c.self.inside.awaited ≡ s.awaited = ap (λ (v : Searching). v.awaited) c.self.view_is ∙ count.awaited in
    let after : c.self.inside.after ≡ s.after = ap (λ (v : Searching). v.after) c.self.view_is ∙ count.after in
    let m = some_awaited c.self.inside.awaited (sym c.is_some.ensures ∙ c.if-is_some.true) in
    let free : is_pending s ≡ false =
    (λ i. option_map_or (λ n. nat_le ((sym count.rules i).block_bits) n)
    (option_map (λ _. sym count.after i) (sym count.awaited i)) false) ∙ c.requires in
    push_inside s _ was c.args.room.now bit m.0 (grows s c.args.self.now _ bit count
    (ap (λ (v : Searching). v.rules) c.self.view_is) (ap (λ (v : Searching). v.received) c.self.view_is)
    (ap (λ (v : Searching). v.pushed) c.self.view_is) (ap (λ (v : Searching). v.start) c.self.view_is)
    (ap (λ (v : Searching). v.before) c.self.view_is))
    kept.sized (sym fields ∙ m.1) free fields (ap (λ n. n + 1) after) bits found h

pub returns-then-since-lt32-clause-stands : goal.returns-then-since-lt32-clause-stands
returns-then-since-lt32-clause-stands c = λ s was bit bits found few count kept h.
    let now = c.args.self.now in
    let there = start-there s was bits found h in
    let many = count.pushed in
    let same = count.start in
    let pushed : c.self.inside.pushed ≡ now.pushed = ap (λ (v : Searching). v.pushed) c.self.view_is in
    let start : c.self.inside.start ≡ now.start = ap (λ (v : Searching). v.start) c.self.view_is in
    let free = sym count.awaited ∙ ap (λ (v : Searching). v.awaited) (sym c.self.view_is)
    ∙ none_awaited c.self.inside.awaited (sym c.is_some.ensures ∙ c.if-is_some.false) in
    let since : now.pushed - now.start < 32 = omega (arith, c.if-since-lt32.true, there.0, there.1) in
    short-bit s now was c.args.room.now bit bits found count kept free since h

pub returns-clause-stands : goal.returns-clause-stands
returns-clause-stands c = λ s was bit bits found few count kept h.
    let free = sym count.awaited ∙ ap (λ (v : Searching). v.awaited) (sym c.self.view_is)
    ∙ none_awaited c.self.inside.awaited (sym c.is_some.ensures ∙ c.if-is_some.false) in
    subst (λ (v : Searching). SearchStandsFor (record v {
      awaited = c.place_found-awaited.result.0;
      after = c.place_found-awaited.result.1;
    }) c.args.room.now (bits ++ bit ∷ []) found) (sym c.self.view_is)
    (c.place_found-awaited.ensures.stands s was bit bits found few count kept free h)
