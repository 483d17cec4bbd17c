use Rattle.std.proofs.Common.{◌≡◌, ◌≤◌, ◌<◌, ◌∙◌, Bool, true, Some, IfSome, sym, ap, subst, arith}
use Rattle.tm_sync.specs.declared.found.Found.{Found}
use Rattle.tm_sync.specs.Rescan.{may_bridge}
use Rattle.tm_sync.specs.Finding.{Finding, Finds, last_of}
use Rattle.tm_sync.proofs.Ahead.{Outside, behind-outside, bridge-none, bridged-finds, ends-short, fits-view, fly-none, outside-finds}
use Rattle.tm_sync.proofs.finder.Finder.ahead_behind.Goals.{After-polarity}
use Rattle.tm_sync.proofs.finder.Finder.ahead_behind.Goals as goal

behind : (c : After-polarity)
    → Outside c.args.self.now c.args.recent.now.bits (Some c.args.last.before)
behind c =
    let f = c.args.self.now in
    let here = c.requires.behind in
    behind-outside f (last_of f.passed c.args.last) c.args.recent.now.bits c.requires.last
    (omega arith) (omega arith)

pub returns-then-count-unit : goal.returns-then-count-unit
returns-then-count-unit c = ends-short c.args.self.now c.args.recent.now.bits (omega arith)

pub returns-in-Some : goal.returns-in-Some
returns-in-Some c =
    let f = c.args.self.now in
    let bits = c.args.recent.now.bits in
    subst (λ (g : Found). Finds f bits g) (sym c.matched.ensures)
    (outside-finds f bits (Some c.args.last.before) c.in-Some.inverted
    (fits-view _ f c.self.view_is c.self.invariant.3)
    (behind (goal.at.returns-in-Some c).After-polarity)
    (sym c.polarity.ensures ∙ c.in-Some.is))

pub returns-in-None : goal.returns-in-None
returns-in-None c =
    let f = c.args.self.now in
    let bits = c.args.recent.now.bits in
    let fly : c.self.inside.fly ≡ f.rules.fly = ap (λ (f : Finding). f.rules.fly) c.self.view_is in
    let few : c.args.last.before.bridged < c.self.inside.fly = c.if-last-self.true in
    let is = c.matched-in-None.ensures in
    subst (λ (g : Found). Finds f bits g)
    (sym (λ i. record {
      place = (is i).place;
      distance = (is i).distance;
      bridged = true;
      inverted = (is i).inverted;
    }))
    (bridged-finds f bits c.args.last.before (fits-view _ f c.self.view_is c.self.invariant.3)
    (behind (goal.at.returns-in-None c).After-polarity) (sym c.polarity.ensures ∙ c.in-None.is)
    (omega arith)
    (subst (λ (may : Bool). IfSome f.columns
    (λ k. may ≡ may_bridge f.rules k c.args.last.before.inverted bits))
    c.if-may_bridge.true c.may_bridge.ensures.on))

pub returns-in-None-2 : goal.returns-in-None-2
returns-in-None-2 c =
    let f = c.args.self.now in
    let bits = c.args.recent.now.bits in (
      omega arith,
      omega arith,
      bridge-none f bits c.args.last.before c.may_bridge.result
          (fits-view _ f c.self.view_is c.self.invariant.3)
          (behind (goal.at.returns-in-None-2 c).After-polarity) (sym c.polarity.ensures
          ∙ c.in-None.is)
          c.if-may_bridge.false c.may_bridge.ensures.off c.may_bridge.ensures.on,
    )

pub returns-in-None-2-2 : goal.returns-in-None-2-2
returns-in-None-2-2 c =
    let f = c.args.self.now in
    let bits = c.args.recent.now.bits in
    let fly : c.self.inside.fly ≡ f.rules.fly = ap (λ (f : Finding). f.rules.fly) c.self.view_is in
    let many : c.self.inside.fly ≤ c.args.last.before.bridged = c.if-last-self.false in (
      omega arith,
      omega arith,
      fly-none f bits c.args.last.before (fits-view _ f c.self.view_is c.self.invariant.3)
          (behind (goal.at.returns-in-None-2-2 c).After-polarity) (sym c.polarity.ensures
          ∙ c.in-None.is)
          (omega arith),
    )
