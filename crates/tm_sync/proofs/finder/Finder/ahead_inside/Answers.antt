use Rattle.std.proofs.Common.{◌≡◌, ◌∙◌, drop, sym, ap, subst, arith}
use Rattle.tm_sync.specs.declared.found.Found.{Found}
use Rattle.tm_sync.specs.Places.{match_of}
use Rattle.tm_sync.specs.Finding.{Finds, last_of}
use Rattle.tm_sync.proofs.Ahead.{ends-short, inside-finds, inside-none, inside-of}
use Rattle.tm_sync.proofs.finder.Finder.ahead_inside.Goals as goal

pub returns-then-far-gt0 : goal.returns-then-far-gt0
returns-then-far-gt0 c =
    let f = c.args.self.now in
    let most = c.first_near-far.ensures.most in
    let some = c.if-far-gt0.true in (
      some,
      omega arith,
      inside-none f
          (last_of f.passed c.args.last) c.first_near-far.result c.args.recent.now.bits c.requires.last
          (omega arith) (omega arith) c.first_near-far.ensures.far,
    )

pub returns-then-count-unit : goal.returns-then-count-unit
returns-then-count-unit c = ends-short c.args.self.now c.args.recent.now.bits (omega arith)

pub returns-in-Some : goal.returns-in-Some
returns-in-Some c =
    let f = c.args.self.now in
    let bits = c.args.recent.now.bits in
    let last = last_of f.passed c.args.last in
    let left = c.requires.inside in
    subst (λ (g : Found). Finds f bits g) (sym c.matched.ensures)
    (inside-finds f bits c.in-Some.inverted c.requires.fits
    (c.shut-shut.ensures.open (omega arith) (omega arith))
    (inside-of f last c.requires.last (omega arith)) (omega arith) (sym c.polarity.ensures
    ∙ c.in-Some.is))

pub returns-in-None : goal.returns-in-None
returns-in-None c =
    let f = c.args.self.now in
    let bits = c.args.recent.now.bits in
    let left = c.requires.inside in (
      omega arith,
      omega arith,
      inside-none f (last_of f.passed c.args.last) 1 bits c.requires.last (omega arith)
          (omega arith) (λ q below.
          let first : q ≡ 0 = omega arith in
          ap (λ n. match_of f.rules (drop n bits)) first ∙ sym c.polarity.ensures ∙ c.in-None.is),
    )
