use Rattle.std.proofs.Common.{◌⊎◌, inl, inr, ℕ, ◌+◌, ◌*◌, ◌/◌, ◌<◌, ◌≤◌, arith, min, subst}
use Rattle.std.proofs.Math.Nat.{div-mul-le_self, lt-mul-div-succ, mul-le-mul, mul-le-mul_left, mul-le-mul_right}
use Rattle.std.proofs.lemmas.Bool.{cases_lt}
use Rattle.std.proofs.lemmas.Nat.{le-div}
use Rattle.tm_windows.specs.Sharing.{most_window_steps, worker_steps}
use Rattle.tm_windows.proofs.queue.window_count.Goals as goal

-- each of `workers` workers has a window of `steps` steps at least, and all of theirs have few steps
at_least_one : (workers steps : ℕ) → 0 < steps → steps ≤ 69632
    → workers ≤ workers * (1048576 / steps)
at_least_one workers steps some short =
    let one : 1 ≤ 1048576 / steps = le-div 1 1048576 steps some (omega (arith, short)) in
    let more : workers * 1 ≤ workers * (1048576 / steps) = mul-le-mul_left workers one in
    omega (arith, more)

few_steps : (count workers steps : ℕ) → workers ≤ 64 → count ≤ workers * (1048576 / steps)
    → count * steps ≤ most_window_steps
few_steps count workers steps few all =
    let each : 1048576 / steps * steps ≤ 1048576 = div-mul-le_self 1048576 steps in
    let most : workers * (1048576 / steps * steps) ≤ 64 * 1048576 = mul-le-mul few each in
    let together : count * steps ≤ workers * (1048576 / steps) * steps = mul-le-mul_right steps all in
    omega (arith, most, together)

pub returns-clause-bound : goal.returns-clause-bound
returns-clause-bound c =
    let steps = c.args.shape.keep + c.args.shape.ahead in
    let workers = c.from-each.result in
    few_steps c.max.result workers steps (omega (arith, c.from-each.ensures, c.requires.workers))
    (omega (
      arith,
      c.max.ensures,
      c.min.ensures,
      at_least_one workers steps (omega (arith, c.requires.keep))
          (omega (arith, c.requires.keep, c.requires.ahead)),
    ))

-- windows that keep more than `waiting` bits, or have nearly 2^20 steps a worker
enough : (count workers keep steps waiting : ℕ) → 0 < workers → 0 < keep → 0 < steps
    → min (waiting / keep + 1) (workers * (1048576 / steps)) ≤ count
    → (waiting < count * keep) ⊎ (workers * worker_steps < (count + workers) * steps)
enough count workers keep steps waiting some wide long all =
    elim (cases_lt (workers * (1048576 / steps)) (waiting / keep + 1))
    as (λ _. (waiting < count * keep) ⊎ (workers * worker_steps < (count + workers) * steps)) [
      | inl less ↦ inr (
          let each : 1048576 + 1 ≤ steps * (1048576 / steps + 1) = lt-mul-div-succ 1048576 long in
          let most : workers * (1048576 + 1) ≤ workers * (steps * (1048576 / steps + 1)) = mul-le-mul_left workers each in
          let as_many : workers * (1048576 / steps) ≤ count = omega (arith, all, less) in
          let together : workers * (1048576 / steps) * steps ≤ count * steps = mul-le-mul_right steps as_many in
          omega (arith, most, together, some)
          )
      | inr more ↦ inl (
          let fewer : waiting < keep * (waiting / keep + 1) = lt-mul-div-succ waiting wide in
          let as_many : waiting / keep + 1 ≤ count = omega (arith, all, more) in
          let together : (waiting / keep + 1) * keep ≤ count * keep = mul-le-mul_right keep as_many in
          omega (arith, fewer, together)
          )
    ]

pub returns-clause-enough : goal.returns-clause-enough
returns-clause-enough c = λ several ahead.
    let steps = c.args.shape.keep + c.args.shape.ahead in
    let count = c.max.result in
    subst (λ (n : ℕ). (c.args.waiting < count * c.args.shape.keep) ⊎ (n * worker_steps < (count + n) * steps))
    c.from-each.ensures
    (enough count c.from-each.result c.args.shape.keep steps c.args.waiting (omega (arith, several, c.from-each.ensures))
    (omega (arith, c.requires.keep)) (omega (arith, c.requires.keep)) (omega (arith, c.max.ensures, c.min.ensures)))
