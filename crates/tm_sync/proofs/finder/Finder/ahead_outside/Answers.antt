use Rattle.std.proofs.Common.{◌∙◌, true, false, None, sym, ap, subst, arith}
use Rattle.tm_sync.specs.declared.found.Found.{Found}
use Rattle.tm_sync.specs.Places.{verified}
use Rattle.tm_sync.specs.Finding.{Finds}
use Rattle.tm_sync.proofs.Ahead.{Outside, ends-unsettled, far-none, free-outside, outside-finds, unverified-none, verified-is}
use Rattle.tm_sync.proofs.finder.Finder.ahead_outside.Goals.{After-polarity}
use Rattle.tm_sync.proofs.finder.Finder.ahead_outside.Goals as goal

free : (c : After-polarity) → Outside c.args.self.now c.args.recent.now.bits None
free c = free-outside c.args.self.now c.args.recent.now.bits c.requires.last (omega arith)

pub returns-then-far-gt0 : goal.returns-then-far-gt0
returns-then-far-gt0 c =
    let most = c.first_near-far.ensures.most in (
      c.if-far-gt0.true,
      omega arith,
      far-none c.args.self.now c.first_near-far.result c.args.recent.now.bits c.requires.last
          (omega arith)
          c.first_near-far.ensures.far,
    )

pub returns-then-count-settling : goal.returns-then-count-settling
returns-then-count-settling c = ends-unsettled c.args.self.now c.args.recent.now.bits
    c.requires.last (omega arith)

pub returns-in-Some : goal.returns-in-Some
returns-in-Some c =
    let f = c.args.self.now in
    let bits = c.args.recent.now.bits in
    subst (λ (g : Found). Finds f bits g) (sym c.matched.ensures)
    (outside-finds f bits None c.in-Some.inverted c.requires.fits
    (free (goal.at.returns-in-Some c).After-polarity)
    (verified-is f.rules bits c.in-Some.inverted true (sym c.polarity.ensures ∙ c.in-Some.is)
    (sym c.is_verified.ensures ∙ c.if-is_verified.true)))

pub returns-in_default : goal.returns-in_default
returns-in_default c =
    let f = c.args.self.now in
    let bits = c.args.recent.now.bits in (
      omega arith,
      omega arith,
      unverified-none f bits c.requires.fits (free (goal.at.returns-in_default c).After-polarity)
          (verified-is f.rules bits c.in-Some.inverted false (sym c.polarity.ensures ∙ c.in-Some.is)
          (sym c.is_verified.ensures ∙ c.if-is_verified.false)),
    )

pub returns-in_default-2 : goal.returns-in_default-2
returns-in_default-2 c =
    let f = c.args.self.now in
    let bits = c.args.recent.now.bits in (
      omega arith,
      omega arith,
      unverified-none f bits c.requires.fits (free (goal.at.returns-in_default-2 c).After-polarity)
          (ap (verified f.rules bits) (sym c.polarity.ensures ∙ c.in_default.is)),
    )
