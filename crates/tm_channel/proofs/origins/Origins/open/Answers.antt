use Rattle.std.proofs.Common.{◌≤◌, ◌+◌, ◌*◌, ◌/◌, ◌∙◌, ℕ, zero, suc, sym, subst, arith, add-mul}
use Rattle.std.proofs.Math.Nat.{lt-div-mul-add}
use Rattle.tm_config.specs.Configuration.{codeblock_length}
use Rattle.tm_sync.specs.Places.{settled_by}
use Rattle.tm_channel.specs.Origins.{ReachesBack}
use Rattle.tm_channel.proofs.origins.Origins.open.Goals as goal

-- the bits of the markers and codeblocks that settle a place
within : (verify size : ℕ) → settled_by verify (8 * size) ≤ 8 * ((1 + verify) * (4 + size))
within zero size = omega arith
within (suc verify) size = omega arith

-- windows that keep them, and two more
reaches : (settled bits keep : ℕ) → 1 ≤ keep → settled ≤ bits
    → settled + keep ≤ (bits / keep + 2) * keep
reaches settled bits keep some few =
    omega (arith, few, lt-div-mul-add {a = bits} {b = keep} some, add-mul (bits / keep) 2 keep)

pub returns-clause-reaches : goal.returns-clause-reaches
returns-clause-reaches c =
    let k = c.args.config.now in
    let verify = c.verify.ensures.value in
    let size = c.codeblock_size.ensures.value in
    let keep = c.keep.ensures.value in
    let most : ℕ → ℕ → ℕ → ℕ = λ v s n. 8 * ((1 + v) * (4 + s)) / n + 2 in
    subst (ReachesBack k) (sym (sym c.in_ok-vec.field-0.ok.0 ∙ c.in_ok-vec.ensures.len))
    (subst (λ v. ReachesBack k (most v c.codeblock_size.result c.keep.result)) (sym verify)
    (subst (λ s. ReachesBack k (most k.verify s c.keep.result)) (sym size)
    (subst (λ n. ReachesBack k (most k.verify (codeblock_length k) n)) (sym keep)
    (reaches _ _ k.keep (omega (arith, c.keep.ensures.accepted.some_keep)) (within k.verify (codeblock_length k))))))
