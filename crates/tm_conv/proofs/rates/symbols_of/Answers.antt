use Rattle.std.proofs.Common.{◌≡◌, ℕ, ◌/◌, ◌%◌, ◌+◌, min, arith, ap, ◌∙◌}
use Rattle.tm_conv.specs.Path.{period}
use Rattle.tm_conv.proofs.Sizes.{steps_size-is}
use Rattle.tm_conv.proofs.rates.symbols_of.Goals as goal

pub returns : goal.returns
returns c =
    let n : ℕ = c.args.bits in
    let divisor : c.from.result ≡ period c.args.rate = c.from.ensures ∙ c.period.ensures.period in
    let count : c.div_ceil.result ≡ n / period c.args.rate + min 1 (n % period c.args.rate)
    = c.div_ceil.ensures ∙ ap (λ d. n / d + min 1 (n % d)) divisor in
    omega (arith, count, steps_size-is c.args.rate n)
