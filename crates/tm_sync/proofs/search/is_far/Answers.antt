use Rattle.std.proofs.Common.{◌≡◌, ◌<◌, ◌≤◌, ◌+◌, ◌-◌, ◌%◌, ℕ, Bool, arith, true, false, nat_lt}
use Rattle.std.proofs.lemmas.Bool.Decides.{nat_tests}
use Rattle.tm_sync.specs.Searching.{far_count}
use Rattle.tm_sync.proofs.Matches.{match-far, match-near}
use Rattle.tm_sync.proofs.search.is_far.Goals as goal

pub returns-clause-far : goal.returns-clause-far
returns-clause-far c = λ far.
    let wrong : ℕ = c.wrong_count.result in
    let gap : ℕ = (wrong + (256 - c.args.too_many)) % 256 in
    let test : nat_lt gap c.args.far ≡ true = far in
    let less : gap < c.args.far = grind (arith, nat_tests) in
    let few : wrong ≤ 32 = c.wrong_count.ensures.few in (
      omega arith,
      λ rules bits tell long is.
          let most_far : far_count rules.tolerance rules.either ≤ 32 = at_most rules.tolerance rules.either in
          match-far rules bits _ tell.tolerance long (c.wrong_count.ensures.upright bits long is) (omega arith)
          (omega arith),
    )
  where
    at_most : (tolerance : ℕ) (either : Bool) → far_count tolerance either ≤ 32
    at_most tolerance true = omega arith
    at_most tolerance false = omega arith

pub returns-clause-near : goal.returns-clause-near
returns-clause-near c = λ near rules bits tell long is.
    let wrong : ℕ = c.wrong_count.result in
    let gap : ℕ = (wrong + (256 - c.args.too_many)) % 256 in
    let test : nat_lt gap c.args.far ≡ false = near in
    let more : c.args.far ≤ gap = grind (arith, nat_tests) in
    let few : wrong ≤ 32 = c.wrong_count.ensures.few in
    match-near rules bits wrong tell.tolerance long (c.wrong_count.ensures.upright bits long is)
    (λ far. omega (arith, tell.least_is, tell.count_is))
