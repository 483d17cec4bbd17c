use Rattle.std.proofs.Common.{ℕ, ◌+◌, ◌-◌, ◌*◌, ◌<◌, ◌^◌, ◌≡◌, inl, inr, subst, sym, arith}
use Rattle.std.proofs.lemmas.Bool.{cases_lt, cases_eq, ltb-true}
use Rattle.std.proofs.lemmas.Nat.{le_or_l, le_or_r}
use Rattle.tm_path_cert.specs.Tests.{IsLowEnough}
use Rattle.tm_path_cert.proofs.Edges.{by_sums, AreLowEnough, pair_at, pair_small, both_keep}
use Rattle.tm_path_cert.proofs.columns.are_low_enough.Goals as goal

pub offset_bounds-costs-pair : goal.offset_bounds-costs-pair
offset_bounds-costs-pair c =
    record { fits = omega (arith, pair_small c.loop-k.k c.loop-i.i (omega arith) (omega arith)) }

pub bounds-costs-pair : goal.bounds-costs-pair
bounds-costs-pair c = pair_small c.loop-k.k c.loop-i.i (omega arith) (omega arith)

pub overflow_sub-pair : goal.overflow_sub-pair
overflow_sub-pair c = omega (arith, pair_small c.loop-k.k c.loop-i.i (omega arith) (omega arith))

pub loop-i-init : goal.loop-i-init
loop-i-init c = λ top j lt. c.loop-k.invariant top j (omega arith)

pub loop-i-preserved : goal.loop-i-preserved
loop-i-preserved c = λ top j lt.
    let k = c.loop-k.k in
    let i = c.loop-i.i in
    let Kept : ℕ → Type 0 = AreLowEnough c.args.costs.now c.args.before.now c.args.sums.now in
    let here : c.margins-all.result < 2 ^ 63 = omega (arith, top, le_or_r c.loop-i.all c.margins-all.result) in
    elim (cases_eq j (4 * k + i)) as (λ _. Kept j) [
      | inl same ↦ subst Kept (sym same) (both_keep c.args.costs.now c.args.before.now c.args.sums.now (4 * k + i) _
          (omega arith) (pair_at k i (omega arith) (omega arith))
          (c.margins-all.ensures.low here) (c.margins-all.ensures.high here))
      | inr ne ↦ c.loop-i.invariant (omega (arith, top, le_or_l c.loop-i.all c.margins-all.result)) j (omega arith)
    ]

pub loop-k-preserved : goal.loop-k-preserved
loop-k-preserved c = λ top j lt. c.loop-i.invariant top j (omega arith)

pub returns : goal.returns
returns c = λ is register lt.
    let top = ltb-true _ _ is in
    elim (cases_lt register 32) as (λ _. IsLowEnough (by_sums c.args.costs.now) c.args.before.now c.args.sums.now
    register) [
      | inl low ↦ (c.loop-k.invariant top register (omega arith)).0
      | inr high ↦ (let Kept : ℕ → Type 0 = IsLowEnough (by_sums c.args.costs.now) c.args.before.now c.args.sums.now in
          let same : register - 32 + 32 ≡ register = omega arith in
          subst Kept same (c.loop-k.invariant top (register - 32) (omega arith)).1)
    ]
