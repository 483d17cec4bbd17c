use Rattle.std.proofs.Common.{◌≡◌, ◌≤◌, ◌<◌, ◌*◌, ◌^◌, ◌∙◌, ◌&&◌, Bool, true, false, Option, Some, IfSome, nat_lt, not, take, length, refl, sym, ap, subst, arith, is_none, drop}
use Rattle.std.specs.List.{list_all, range_with_len}
use Rattle.std.proofs.lemmas.List.{length-take-le}
use Rattle.std.proofs.lemmas.Bool.Decides.{nat_tests}
use Rattle.tm_sync.specs.declared.found.Columns.{Columns}
use Rattle.tm_sync.specs.Bits.{flip}
use Rattle.tm_sync.specs.Places.{wrong_bits, match_of}
use Rattle.tm_sync.specs.Rescan.{may_bridge, reach}
use Rattle.tm_sync.specs.Finding.{Finding}
use Rattle.tm_sync.proofs.Ahead.{on-shut, wrong-first}
use Rattle.tm_sync.proofs.finder.Finder.may_bridge.Goals.{After-distance_of}
use Rattle.tm_sync.proofs.finder.Finder.may_bridge.Goals as goal

fits : (c : After-distance_of) → reach c.in-Some.columns ≤ c.self.inside.block_bits
fits c = subst
    (λ (o : Option Columns). IfSome o (λ k. reach k ≤ c.self.inside.block_bits)) c.in-Some.is
    c.self.invariant.3

-- how far the 32 bits are from the marker of the other polarity
other : (c : After-distance_of)
    → c.distance_of.result ≡ wrong_bits (flip c.args.inverted) c.args.recent.now.bits
other c =
    let bits = c.args.recent.now.bits in
    let room = c.requires in
    let long : 32 ≤ length bits = omega arith in
    let size = length-take-le 32 bits long in
    c.distance_of.ensures (take 32 bits) size
    (c.wrong_count.ensures.upright (take 32 bits) size c.word.ensures)
    ∙ wrong-first _ bits long ∙ ap (λ (v : Bool). wrong_bits v bits) (flips c.args.inverted)
  where
    flips : (inverted : Bool) → not inverted ≡ flip inverted
    flips true = refl
    flips false = refl

-- the columns as contracts see them
on : (c : After-distance_of) → c.args.self.now.columns ≡ Some c.in-Some.columns
on c = ap (λ (f : Finding). f.columns) (sym c.self.view_is) ∙ c.in-Some.is

pub has_no_marker-requires-clause-few : goal.has_no_marker-requires-clause-few
has_no_marker-requires-clause-few c =
    let most = fits (goal.at.has_no_marker-requires-clause-few c).After-distance_of in
    let bound : c.self.inside.block_bits < 2 ^ 32 = c.self.invariant.2 in
    omega arith

pub has_no_marker-requires-clause-room : goal.has_no_marker-requires-clause-room
has_no_marker-requires-clause-room c =
    let most = fits (goal.at.has_no_marker-requires-clause-room c).After-distance_of in
    let block : c.self.inside.block_bits ≡ c.args.self.now.rules.block_bits =
    ap (λ (f : Finding). f.rules.block_bits) c.self.view_is in
    let room = c.requires in
    omega arith

pub returns-then-distance_of-gt-MOST_TOLERANCE-clause-on :
    goal.returns-then-distance_of-gt-MOST_TOLERANCE-clause-on
returns-then-distance_of-gt-MOST_TOLERANCE-clause-on c =
    let k = (goal.at.returns-then-distance_of-gt-MOST_TOLERANCE-clause-on c).After-distance_of in
    let far = c.if-distance_of-gt-MOST_TOLERANCE.true in
    let test : nat_lt 8 c.distance_of.result ≡ true = grind (arith, nat_tests) in
    on-shut c.args.self.now.columns c.in-Some.columns
    (λ columns. c.has_no_marker.result
    ≡ may_bridge c.args.self.now.rules columns c.args.inverted c.args.recent.now.bits)
    (on k) (c.has_no_marker.ensures
    ∙ ap (λ b. b && list_all (λ n. is_none (match_of c.args.self.now.rules
    (drop (c.in-Some.columns.stride * n) c.args.recent.now.bits)))
    (range_with_len 1 c.in-Some.columns.strength))
    (sym test ∙ ap (nat_lt 8) (other k)))

pub returns-else-distance_of-gt-MOST_TOLERANCE-clause-on :
    goal.returns-else-distance_of-gt-MOST_TOLERANCE-clause-on
returns-else-distance_of-gt-MOST_TOLERANCE-clause-on c =
    let k = (goal.at.returns-else-distance_of-gt-MOST_TOLERANCE-clause-on c).After-distance_of in
    let near = c.if-distance_of-gt-MOST_TOLERANCE.false in
    let test : nat_lt 8 c.distance_of.result ≡ false = grind (arith, nat_tests) in
    on-shut c.args.self.now.columns c.in-Some.columns
    (λ columns. nat_lt 8 c.distance_of.result
    ≡ may_bridge c.args.self.now.rules columns c.args.inverted c.args.recent.now.bits)
    (on k) (test
    ∙ ap (λ b. b && list_all (λ n. is_none (match_of c.args.self.now.rules
    (drop (c.in-Some.columns.stride * n) c.args.recent.now.bits)))
    (range_with_len 1 c.in-Some.columns.strength))
    (sym test ∙ ap (nat_lt 8) (other k)))
