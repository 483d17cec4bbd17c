use Rattle.std.proofs.Common.{◌≡◌, ◌≤◌, ◌<◌, ◌+◌, ◌-◌, ◌∙◌, ◌^◌, ◌++◌, false, Option, IfSome, drop, sym, ap, subst, arith}
use Rattle.std.proofs.lemmas.List.{drop-drop}
use Rattle.tm_sync.specs.declared.found.Columns.{Columns}
use Rattle.tm_sync.specs.Places.{match_of}
use Rattle.tm_sync.specs.Rescan.{is_open, reach}
use Rattle.tm_sync.specs.Finding.{Finding, last_of}
use Rattle.tm_sync.proofs.Prefixes.{match-later}
use Rattle.tm_sync.proofs.Ahead.{early-shut, followed-shut, not-false, off-shut, on-shut, shut-none}
use Rattle.tm_sync.proofs.finder.Finder.shut.Goals as goal

pub overflow_mul-reach : goal.overflow_mul-reach
overflow_mul-reach c =
    let fits : reach c.in-Some.columns ≤ c.self.inside.block_bits =
    subst (λ (o : Option Columns). IfSome o (λ k. reach k ≤ c.self.inside.block_bits)) c.in-Some.is
    c.self.invariant.3 in
    let bound : c.self.inside.block_bits < 2 ^ 32 = c.self.invariant.2 in
    record { fits = omega arith }

pub returns-in-None-clause-none : goal.returns-in-None-clause-none
returns-in-None-clause-none c =
    let f = c.args.self.now in
    shut-none f
    (last_of f.passed c.args.last) c.args.last.left c.args.recent.now.bits c.requires.last
    (omega arith)
    (λ more q below. off-shut f.columns
    (λ k. is_open f.rules k (f.passed + q) (last_of f.passed c.args.last)
    (drop q (c.args.recent.now.bits ++ more)) ≡ false)
    (ap (λ (f : Finding). f.columns) (sym c.self.view_is)
    ∙ c.in-None.is))

pub returns-then-last-reach-clause-none : goal.returns-then-last-reach-clause-none
returns-then-last-reach-clause-none c =
    let f = c.args.self.now in
    let last = last_of f.passed c.args.last in
    let early = c.if-last-reach.true in
    shut-none f last
    (c.args.last.left - reach c.in-Some.columns) c.args.recent.now.bits c.requires.last
    (omega arith)
    (λ more q below. on-shut f.columns c.in-Some.columns
    (λ k. is_open f.rules k (f.passed + q) last (drop q (c.args.recent.now.bits ++ more)) ≡ false)
    (ap (λ (f : Finding). f.columns) (sym c.self.view_is) ∙ c.in-Some.is)
    (early-shut f.rules c.in-Some.columns (f.passed + q) last
    (drop q (c.args.recent.now.bits ++ more))
    (not-false c.args.last.sound c.if-not-last.false) (omega arith)))

pub returns-in-Some-polarity-clause-none : goal.returns-in-Some-polarity-clause-none
returns-in-Some-polarity-clause-none c =
    let f = c.args.self.now in
    let bits = c.args.recent.now.bits in
    let last = last_of f.passed c.args.last in
    let count = c.count.ensures.value in
    let room : c.args.last.left + 32 ≤ c.count.result = c.if-count-last.false in
    shut-none f last c.args.last.left bits c.requires.last (omega arith)
    (λ more q below. on-shut f.columns c.in-Some.columns
    (λ k. is_open f.rules k (f.passed + q) last (drop q (bits ++ more)) ≡ false)
    (ap (λ (f : Finding). f.columns) (sym c.self.view_is) ∙ c.in-Some.is)
    (let there : q + (f.passed + c.args.last.left - (f.passed + q))
    ≡ c.args.last.left = omega arith in
    followed-shut f.rules c.in-Some.columns (f.passed + q) last (drop q (bits ++ more)) _
    (not-false c.args.last.sound c.if-not-last.false)
    (ap (match_of f.rules)
    (drop-drop (f.passed + c.args.last.left - (f.passed + q)) q (bits ++ more)
    ∙ ap (λ n. drop n (bits ++ more)) there)
    ∙ match-later f.rules c.args.last.left bits more (omega arith)
    ∙ sym c.polarity.ensures ∙ c.in-Some-polarity.is)))
