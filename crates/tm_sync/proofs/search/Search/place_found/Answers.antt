use Rattle.std.proofs.Common.{◌≡◌, ℕ, ◌<◌, ◌≤◌, ◌+◌, ◌-◌, ◌%◌, ◌^◌, ◌∙◌, Bool, true, [], ◌∷◌, ◌++◌, Option, None, IfSome, IfNone, List, length, drop, sym, refl, ap, subst, arith}
use Rattle.std.specs.Option.{option_map}
use Rattle.tm_sync.specs.declared.found.Found.{Found}
use Rattle.tm_sync.specs.declared.found.Awaited.{Awaited}
use Rattle.tm_sync.specs.Places.{match_of, place_by, verify_bits}
use Rattle.tm_sync.specs.Searching.{Searching, SearchStandsFor, Counts, Remembers, awaited_at, is_right_after}
use Rattle.tm_sync.proofs.FirstPlaces.{here}
use Rattle.tm_sync.proofs.Given.{start-there, right-least, reported_right, reported_waits, reported_verified}
use Rattle.tm_sync.proofs.search.Search.place_found.Goals.{After-right_after, After-place_verified}
use Rattle.tm_sync.proofs.search.Search.place_found.Goals as goal

-- what the test before says
tested : (c : After-right_after) (s : Searching) (was : List ℕ) (bit : Bool) (bits : List Bool) (found : List Found)
    → Counts s c.args.self.now bit → SearchStandsFor s was bits found
    → (c.args.self.now.start ≤ c.args.self.now.pushed) × (c.args.self.now.pushed < 2 ^ 64)
    × ((c.self.inside.pushed + (2 ^ 64 - c.self.inside.start)) % 2 ^ 64
    ≡ c.args.self.now.pushed - c.args.self.now.start)
    × (c.right_after.result ≡ is_right_after (c.args.self.now.pushed - c.args.self.now.start) c.args.self.now.before)
tested c s was bit bits found count h =
    let now = c.args.self.now in
    let there = start-there s was bits found h in
    let many = count.pushed in
    let same = count.start in
    let pushed : c.self.inside.pushed ≡ now.pushed = ap (λ (v : Searching). v.pushed) c.self.view_is in
    let start : c.self.inside.start ≡ now.start = ap (λ (v : Searching). v.start) c.self.view_is in
    let before = ap (λ (v : Searching). v.before) c.self.view_is in
    let since : (c.self.inside.pushed + (2 ^ 64 - c.self.inside.start)) % 2 ^ 64 ≡ now.pushed - now.start =
    omega (arith, there.0, there.1) in
    (omega (arith, there.1), omega arith, since, c.right_after.ensures ∙ (λ i. is_right_after (since i) (before i)))

pub returns-then-right_after-clause-stands : goal.returns-then-right_after-clause-stands
returns-then-right_after-clause-stands c = λ s was bit bits found few count kept free h.
    let now = c.args.self.now in
    let view = c.self.view_is in
    let t = tested (goal.at.returns-then-right_after-clause-stands c).After-right_after s was bit bits found count h in
    let less = t.0 in
    let fits = t.1 in
    let right : is_right_after (now.pushed - now.start) now.before ≡ true = sym t.3 ∙ c.if-right_after.true in
    let least = right-least (now.pushed - now.start) now.before right in
    let pushed : c.self.inside.pushed ≡ now.pushed = ap (λ (v : Searching). v.pushed) view in
    let before = ap (λ (v : Searching). v.before) view in
    let place : (c.self.inside.pushed + (2 ^ 64 - 32)) % 2 ^ 64 ≡ now.pushed - 32 = omega arith in
    reported_right s now was c.args.room.now bit c.place_of.result bits found count kept free right
    (λ l size received. c.place_of.ensures now.rules l (ap (λ (v : Searching). v.rules.tolerance) (sym view))
    (ap (λ (v : Searching). v.rules.fly) (sym view))
    (ap (λ (v : Searching). v.rules.either) (sym view)) size (ap (λ (v : Searching). v.received) view ∙ received)
    ∙ (λ i. option_map (awaited_at (before i)) (place_by now.rules (place i) (before i) l (match_of now.rules l)))) h

pub returns-then-since-lag-clause-stands : goal.returns-then-since-lag-clause-stands
returns-then-since-lag-clause-stands c = λ s was bit bits found few count kept free h.
    let now = c.args.self.now in
    let t = tested (goal.at.returns-then-since-lag-clause-stands c).After-right_after s was bit bits found count h in
    let since = t.2 in
    let lag : c.verified_by-lag.result ≡ verify_bits now.rules = c.verified_by-lag.ensures.value
    ∙ ap (λ (v : Searching). verify_bits v.rules) c.self.view_is in
    reported_waits s now was c.args.room.now bit bits found count kept free (sym t.3 ∙ c.if-right_after.false)
    (omega (arith, c.if-since-lag.true)) h

-- the place that further markers verify, or none
looked : (c : After-place_verified) (n : ℕ)
    → (c.self.inside.pushed + (2 ^ 64 - c.self.inside.start)) % 2 ^ 64 ≡ c.args.self.now.pushed - c.args.self.now.start
    → c.right_after.result ≡ is_right_after (c.args.self.now.pushed - c.args.self.now.start) c.args.self.now.before
    → IfSome c.place_verified.result (λ _. n ≡ c.verified_by-lag.result) → IfNone c.place_verified.result (n ≡ 0)
    → (s : Searching) (was : List ℕ) (bit : Bool) (bits : List Bool) (found : List Found)
    → Counts s c.args.self.now bit → Remembers was c.args.room.now bits bit → s.awaited ≡ None
    → SearchStandsFor s was bits found → SearchStandsFor (record c.args.self.now
    { awaited = c.place_verified.result; after = n }) c.args.room.now (bits ++ bit ∷ []) found
looked c n since right taken waits s was bit bits found count kept free h =
    let now = c.args.self.now in
    let lag : c.verified_by-lag.result ≡ verify_bits now.rules = c.verified_by-lag.ensures.value
    ∙ ap (λ (v : Searching). verify_bits v.rules) c.self.view_is in
    reported_verified s now was c.args.room.now bit c.place_verified.result n bits found count kept free
    (sym right ∙ c.if-right_after.false) (omega (arith, c.if-since-lag.false))
    (subst (λ (k : ℕ). IfSome c.place_verified.result (λ _. n ≡ k)) lag taken) waits
    (λ from r room. c.place_verified.ensures (bits ++ bit ∷ []) from r (omega arith)
    ∙ ap (λ k. option_map (awaited_at None) (here now.rules (length (bits ++ bit ∷ []) - (32 + k)) None
    (drop (length (bits ++ bit ∷ []) - (32 + k)) (bits ++ bit ∷ [])))) lag) h

pub returns-in-Some-clause-stands : goal.returns-in-Some-clause-stands
returns-in-Some-clause-stands c = λ s was bit bits found few count kept free h.
    let t = tested (goal.at.returns-in-Some-clause-stands c).After-right_after s was bit bits found count h in
    subst (λ (o : Option Awaited). SearchStandsFor (record c.args.self.now
    { awaited = o; after = c.verified_by-lag.result }) c.args.room.now (bits ++ bit ∷ []) found) c.in-Some.is
    (looked (goal.at.returns-in-Some-clause-stands c).After-place_verified c.verified_by-lag.result t.2 t.3
    (subst (λ (o : Option Awaited). IfSome o (λ _. c.verified_by-lag.result ≡ c.verified_by-lag.result))
    (sym c.in-Some.is) refl)
    (subst (λ (o : Option Awaited). IfNone o (c.verified_by-lag.result ≡ 0)) (sym c.in-Some.is) tt) s was bit bits
    found count kept free h)

pub returns-in-None-clause-stands : goal.returns-in-None-clause-stands
returns-in-None-clause-stands c = λ s was bit bits found few count kept free h.
    let t = tested (goal.at.returns-in-None-clause-stands c).After-right_after s was bit bits found count h in
    subst (λ (o : Option Awaited). SearchStandsFor (record c.args.self.now { awaited = o; after = 0 }) c.args.room.now
    (bits ++ bit ∷ []) found) c.in-None.is
    (looked (goal.at.returns-in-None-clause-stands c).After-place_verified 0 t.2 t.3
    (subst (λ (o : Option Awaited). IfSome o (λ _. 0 ≡ c.verified_by-lag.result)) (sym c.in-None.is) tt)
    (subst (λ (o : Option Awaited). IfNone o (◌≡◌ {A = ℕ} 0 0)) (sym c.in-None.is) refl) s was bit bits found count
    kept free h)
