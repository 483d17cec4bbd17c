use Rattle.std.proofs.Common.{◌≡◌, ℕ, ◌≤◌, ◌+◌, ◌-◌, ◌%◌, ◌^◌, ◌∙◌, Bool, true, false, cond, Some, None, List, length, take, drop, length-drop, sym, ap, arith}
use Rattle.std.specs.Option.{option_map}
use Rattle.std.proofs.lemmas.List.{length-take-le}
use Rattle.tm_base.specs.Bits.{number_of}
use Rattle.tm_sync.specs.Places.{match_of, place_by, are_verified, verify_bits}
use Rattle.tm_sync.specs.Searching.{Searching, Recalls, awaited_at}
use Rattle.tm_sync.proofs.FirstPlaces.{here}
use Rattle.tm_sync.proofs.Looks.{kept, kept-here, kept-some, lag-or}
use Rattle.tm_sync.proofs.search.Search.place_verified.Goals.{After-place_of, After-is_verified}
use Rattle.tm_sync.proofs.search.Search.place_verified.Goals as goal

-- the place that the bits are, where the markers after it verify it
looked : (c : After-place_of) (bits : List Bool) (from : ℕ) → Recalls c.args.self.now c.args.room.now bits from
    → from + 32 + c.args.lag ≤ length bits
    → kept c.args.self.now.rules (drop (length bits - (32 + c.args.lag)) bits) c.place_of.result
    ≡ option_map (awaited_at None) (here c.args.self.now.rules (length bits - (32 + c.args.lag)) None
    (drop (length bits - (32 + c.args.lag)) bits))
looked c bits from r room =
    let s = c.args.self.now in
    let lag = c.args.lag in
    let lag_is : lag ≡ verify_bits s.rules = c.requires in
    let n : ℕ = length bits - (32 + lag) in
    let size = length-drop n bits in
    let long : 32 ≤ length (drop n bits) = omega arith in
    let l : List Bool = take 32 (drop n bits) in
    let size_is : length l ≡ 32 = length-take-le 32 (drop n bits) long in
    let received : c.received_at-received.result ≡ number_of l = c.received_at-received.ensures bits from r
    (lag-or s.rules lag lag_is) room in
    let pushed : c.self.inside.pushed ≡ length bits = ap (λ (v : Searching). v.pushed) c.self.view_is ∙ r.pushed in
    let place : (c.self.inside.pushed + (2 ^ 64 - (32 + lag))) % 2 ^ 64 ≡ n = omega arith in
    kept-here s.rules n (drop n bits) c.place_of.result long
    (c.place_of.ensures s.rules l (ap (λ (v : Searching). v.rules.tolerance) (sym c.self.view_is))
    (ap (λ (v : Searching). v.rules.fly) (sym c.self.view_is))
    (ap (λ (v : Searching). v.rules.either) (sym c.self.view_is)) size_is received
    ∙ ap (λ k. option_map (awaited_at None) (place_by s.rules k None l (match_of s.rules l))) place)

-- and what they say of it
tested : (c : After-is_verified) (is_verified : Bool) → c.is_verified.result ≡ is_verified
    → (bits : List Bool) (from : ℕ) → Recalls c.args.self.now c.args.room.now bits from
    → from + 32 + c.args.lag ≤ length bits
    → cond is_verified (Some c.in-Some.awaited) None
    ≡ kept c.args.self.now.rules (drop (length bits - (32 + c.args.lag)) bits) c.place_of.result
tested c is_verified is bits from r room =
    let s = c.args.self.now in
    let n : ℕ = length bits - (32 + c.args.lag) in
    let lag : c.args.lag ≡ verify_bits s.rules = c.requires in
    let at : length bits - (32 + verify_bits s.rules) ≡ n = ap (λ k. length bits - (32 + k)) (sym lag) in
    sym (kept-some s.rules (drop n bits) c.in-Some.awaited is_verified
    (ap (λ k. are_verified s.rules c.in-Some.awaited.found.inverted s.rules.verify (drop k bits)) (sym at)
    ∙ sym (c.is_verified.ensures bits from r (omega arith)) ∙ is))
    ∙ ap (kept s.rules (drop n bits)) (sym c.in-Some.is)

pub returns-in-Some : goal.returns-in-Some
returns-in-Some c = λ bits from r room.
    let k = goal.at.returns-in-Some c in
    tested k.After-is_verified true c.if-is_verified.true bits from r room ∙ looked k.After-place_of bits from r room

pub returns-in_default : goal.returns-in_default
returns-in_default c = λ bits from r room.
    let k = goal.at.returns-in_default c in
    tested k.After-is_verified false c.if-is_verified.false bits from r room ∙ looked k.After-place_of bits from r room

pub returns-in_default-2 : goal.returns-in_default-2
returns-in_default-2 c = λ bits from r room.
    ap (kept c.args.self.now.rules (drop (length bits - (32 + c.args.lag)) bits)) (sym c.in_default.is)
    ∙ looked (goal.at.returns-in_default-2 c).After-place_of bits from r room
