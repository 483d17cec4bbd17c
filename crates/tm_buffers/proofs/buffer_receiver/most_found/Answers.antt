use Rattle.std.proofs.Common.{◌∙◌, ◌≤◌, ◌+◌, ◌-◌, ◌*◌, ◌/◌, ℕ, arith, subst, sym, mul-le-mul_right}
use Rattle.std.proofs.Math.Nat.{div-mul-le_self, mul-le-mul_left}
use Rattle.tm_config.specs.Configuration.{codeblock_length}
use Rattle.tm_sync.specs.Rescan.{Fits, reach}
use Rattle.tm_codeblock.specs.ReceivedCodeblock.{rules_of}
use Rattle.tm_codeblock.proofs.PlacesIn.{fits}
use Rattle.tm_buffers.proofs.buffer_receiver.most_found.Goals as goal

halved : (n k : ℕ) → 2 ≤ k → n / k * 2 ≤ n
halved n k two = omega (arith, div-mul-le_self n k, mul-le-mul_left (n / k) two)

pub returns-in-Some-clause-most : goal.returns-in-Some-clause-most
returns-in-Some-clause-most c =
    let config = c.args.config.now in
    let unit : ℕ = 32 + 8 * c.codeblock_size.result in
    let within : reach c.in-Some.columns ≤ 8 * codeblock_length config =
    subst (Fits (rules_of config)) (sym c.columns_of.ensures ∙ c.in-Some.is) (fits config) in
    let some : 2 ≤ unit - c.from-reach.result + 1 =
    omega (arith, within, c.from-reach.ensures, c.codeblock_size.ensures.value) in
    let few : c.verify-verify.result ≤ 7 =
    omega (arith, c.verify-verify.ensures.value, c.verify-verify.ensures.accepted.verify) in
    omega (
      arith,
      halved (c.args.bits + c.verify-verify.result * unit) (unit - c.from-reach.result + 1) some,
      mul-le-mul_right unit few,
      c.codeblock_size.ensures.most,
      c.requires,
    )
