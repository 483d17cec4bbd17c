use Rattle.std.proofs.Common.{◌≡◌, ◌≤◌, ◌<◌, ◌+◌, ◌-◌, ◌*◌, ◌∙◌, ◌&&◌, Bool, true, false, drop, sym, ap, arith, mul-le-mul_right}
use Rattle.tm_sync.specs.Places.{match_of, matches_in, are_verified}
use Rattle.tm_sync.specs.Finding.{Finding}
use Rattle.tm_sync.proofs.Steps.{are_verified-zero, settled-verified}
use Rattle.tm_sync.proofs.Looks.{polarity-test}
use Rattle.tm_sync.proofs.Ahead.{verified-step}
use Rattle.tm_sync.proofs.finder.Finder.is_verified.Goals.{After-polarity}
use Rattle.tm_sync.proofs.finder.Finder.is_verified.Goals as goal

-- what one pass of the loop looks at: the next marker
seen-next : (c : After-polarity) (here : Bool) → matches_in c.polarity.result c.args.inverted ≡ here
    → are_verified c.args.self.now.rules c.args.inverted c.args.self.now.rules.verify
    c.args.recent.now.bits
    ≡ (here && are_verified c.args.self.now.rules c.args.inverted
    (c.args.self.now.rules.verify - (c.loop-seen.seen + 1))
    (drop ((c.loop-seen.seen + 1) * (32 + c.args.self.now.rules.block_bits))
    c.args.recent.now.bits))
seen-next c here is =
    let rules = c.args.self.now.rules in
    let seen = c.loop-seen.seen in
    let verify : c.self.inside.verify
    ≡ rules.verify = ap (λ (f : Finding). f.rules.verify) c.self.view_is in
    let some : seen < c.self.inside.verify = c.loop-seen-test.true in
    let less : seen + 1 ≤ rules.verify = omega arith in
    let most = mul-le-mul_right (32 + rules.block_bits) less in
    let room = settled-verified rules in
    let enough = c.requires in
    let at : c.from.result * c.unit.result ≡ (seen + 1) * (32 + rules.block_bits) =
    λ i. c.from.ensures i * c.unit.ensures.value i in
    c.loop-seen.invariant.held
    ∙ verified-step rules c.args.inverted c.args.recent.now.bits seen here (omega arith)
    (omega arith)
    (ap (λ n. matches_in (match_of rules (drop n c.args.recent.now.bits)) c.args.inverted) (sym at)
    ∙ ap (λ o. matches_in o c.args.inverted) (sym c.polarity.ensures) ∙ is)

pub loop-seen-preserved : goal.loop-seen-preserved
loop-seen-preserved c =
    let verify : c.self.inside.verify ≡ c.args.self.now.rules.verify =
    ap (λ (f : Finding). f.rules.verify) c.self.view_is in
    let some : c.loop-seen.seen < c.self.inside.verify = c.loop-seen-test.true in
    record {
      fewer = omega arith;
      held = seen-next (goal.at.loop-seen-preserved c).After-polarity true
          (ap (λ o. matches_in o c.args.inverted) c.in-Some.is
          ∙ polarity-test c.in-Some.polarity c.args.inverted true c.if-polarity-inverted.true);
    }

pub returns-in_default : goal.returns-in_default
returns-in_default c =
    sym (seen-next (goal.at.returns-in_default c).After-polarity false
    (ap (λ o. matches_in o c.args.inverted) c.in-Some.is
    ∙ polarity-test c.in-Some.polarity c.args.inverted false c.if-polarity-inverted.false))

pub returns-in_default-2 : goal.returns-in_default-2
returns-in_default-2 c =
    sym (seen-next (goal.at.returns-in_default-2 c).After-polarity false
    (ap (λ o. matches_in o c.args.inverted) c.in_default.is))

pub returns : goal.returns
returns c =
    let rules = c.args.self.now.rules in
    let verify : c.self.inside.verify
    ≡ rules.verify = ap (λ (f : Finding). f.rules.verify) c.self.view_is in
    let all : c.self.inside.verify ≤ c.loop-seen.seen = c.loop-seen-test.false in
    let left : rules.verify - c.loop-seen.seen ≡ 0 = omega arith in
    sym (c.loop-seen.invariant.held
    ∙ ap (λ n. are_verified rules c.args.inverted n
    (drop (c.loop-seen.seen * (32 + rules.block_bits)) c.args.recent.now.bits)) left
    ∙ are_verified-zero rules c.args.inverted
    (drop (c.loop-seen.seen * (32 + rules.block_bits)) c.args.recent.now.bits))
