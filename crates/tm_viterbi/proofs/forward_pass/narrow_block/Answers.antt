use Rattle.std.proofs.Common.{◌≡◌, ◌<◌, ◌+◌, ◌-◌, ◌++◌, ◌∙◌, ap, sym, subst, length, get_or, take, ℕ, List, arith, length-append}
use Rattle.tm_viterbi.specs.Totals.{AreAtMost}
use Rattle.tm_viterbi.specs.Carries.{Carries, lifted}
use Rattle.tm_viterbi.proofs.Carrying.{lifted_is}
use Rattle.tm_viterbi.proofs.forward_pass.narrow_block.Goals as goal

pub narrow_at-taken-requires-clause-bounded : goal.narrow_at-taken-requires-clause-bounded
narrow_at-taken-requires-clause-bounded c s lt =
    omega (
      arith,
      ap (λ (v : List ℕ). get_or v s 0) c.halves_of.ensures,
      c.less_least-narrow.ensures.each s lt,
      c.requires.close s lt,
    )

pub returns-clause-carries : goal.returns-clause-carries
returns-clause-carries c =
    let first = c.halves_of.result.0 ++ c.halves_of.result.1 in
    let last = c.narrow_at-taken.result.0 ++ c.narrow_at-taken.result.1 in
    let n = ap length c.halves_of.ensures in
    let old : lifted c.args.least first ≡ c.args.sums.now =
    lifted_is c.args.least first c.args.sums.now (n ∙ c.less_least-narrow.ensures.long) (c.told-sums)
    (λ s lt. ap (λ (v : List ℕ). c.args.least + get_or v s 0) c.halves_of.ensures
    ∙ c.less_least-narrow.ensures.each s lt) in
    let new : lifted c.args.least last ≡ c.with_least.result =
    lifted_is c.args.least last c.with_least.result (omega (
      arith,
      length-append c.narrow_at-taken.result.0 c.narrow_at-taken.result.1,
      c.narrow_at-taken.ensures.long,
    ))
    c.with_least.ensures.long
    (λ s lt. sym (c.with_least.ensures.each s lt)) in
    let P : List ℕ → List ℕ → Type 0 = λ v w. Carries c.args.rate c.args.invert c.args.t
    (take c.narrow_at-taken.result.2 c.args.soft.now) v w c.narrow_at-taken.new.survivors in
    subst (λ (w : List ℕ). P c.args.sums.now w) new (subst (λ (v : List ℕ). P v (lifted c.args.least last)) old
    (c.narrow_at-taken.ensures.carries c.args.least))

pub returns-clause-bounded : goal.returns-clause-bounded
returns-clause-bounded c m h s lt =
    let first = c.halves_of.result.0 ++ c.halves_of.result.1 in
    let each : (k : ℕ) → k < 64 → c.args.least + get_or first k 0 ≡ get_or c.args.sums.now k 0 =
    λ k l. ap (λ (v : List ℕ). c.args.least + get_or v k 0) c.halves_of.ensures
    ∙ c.less_least-narrow.ensures.each k l in
    let low : AreAtMost (m - c.args.least) first = λ k l. omega (arith, each k l, h k l) in
    let last = c.narrow_at-taken.ensures.bounded (m - c.args.least) low s lt in
    omega (arith, last, c.with_least.ensures.each s lt, h 0 (omega arith), c.requires.least 0 (omega arith))
