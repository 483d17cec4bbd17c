use Rattle.std.proofs.Common.{◌≡◌, ◌+◌, ◌-◌, ◌*◌, ◌/◌, ◌%◌, ◌^◌, ◌++◌, ◌∙◌, ℕ, min, ap, cond, ltb, get_or, arith}
use Rattle.tm_viterbi.specs.AddCompareSelect.{first_metric, second_metric}
use Rattle.tm_viterbi.proofs.Halves.{first_halves, second_halves, fit, low_sums, high_sums, low_bits, high_bits, four_sums, four_bits}
use Rattle.tm_viterbi.proofs.narrow_metrics.narrow_metrics.Goals as goal

pub lesser-low_first_bits-requires-clause-first_fits : goal.lesser-low_first_bits-requires-clause-first_fits
lesser-low_first_bits-requires-clause-first_fits c =
    (fit _ _ _ _ _ _ 0 c.requires.fits (omega arith)
    (first_halves c.args.low c.args.high c.args.metrics _ _ _ _
    (omega arith) c.evens_and_odds.ensures.even c.evens_and_odds.ensures.odd
    c.first_half_metrics.ensures.near c.first_half_metrics.ensures.far)).even_near

pub lesser-low_first_bits-requires-clause-second_fits : goal.lesser-low_first_bits-requires-clause-second_fits
lesser-low_first_bits-requires-clause-second_fits c =
    (fit _ _ _ _ _ _ 0 c.requires.fits (omega arith)
    (first_halves c.args.low c.args.high c.args.metrics _ _ _ _
    (omega arith) c.evens_and_odds.ensures.even c.evens_and_odds.ensures.odd
    c.first_half_metrics.ensures.near c.first_half_metrics.ensures.far)).odd_far

pub lesser-high_first_bits-requires-clause-first_fits : goal.lesser-high_first_bits-requires-clause-first_fits
lesser-high_first_bits-requires-clause-first_fits c =
    (fit _ _ _ _ _ _ 0 c.requires.fits (omega arith)
    (first_halves c.args.low c.args.high c.args.metrics _ _ _ _
    (omega arith) c.evens_and_odds.ensures.even c.evens_and_odds.ensures.odd
    c.first_half_metrics.ensures.near c.first_half_metrics.ensures.far)).even_far

pub lesser-high_first_bits-requires-clause-second_fits : goal.lesser-high_first_bits-requires-clause-second_fits
lesser-high_first_bits-requires-clause-second_fits c =
    (fit _ _ _ _ _ _ 0 c.requires.fits (omega arith)
    (first_halves c.args.low c.args.high c.args.metrics _ _ _ _
    (omega arith) c.evens_and_odds.ensures.even c.evens_and_odds.ensures.odd
    c.first_half_metrics.ensures.near c.first_half_metrics.ensures.far)).odd_near

pub lesser-low_second_bits-requires-clause-first_fits : goal.lesser-low_second_bits-requires-clause-first_fits
lesser-low_second_bits-requires-clause-first_fits c =
    (fit _ _ _ _ _ _ 16 c.requires.fits (omega arith)
    (second_halves c.args.low c.args.high c.args.metrics _ _ _ _
    (omega arith) c.evens_and_odds-2.ensures.even c.evens_and_odds-2.ensures.odd
    c.second_half_metrics.ensures.near c.second_half_metrics.ensures.far)).even_near

pub lesser-low_second_bits-requires-clause-second_fits : goal.lesser-low_second_bits-requires-clause-second_fits
lesser-low_second_bits-requires-clause-second_fits c =
    (fit _ _ _ _ _ _ 16 c.requires.fits (omega arith)
    (second_halves c.args.low c.args.high c.args.metrics _ _ _ _
    (omega arith) c.evens_and_odds-2.ensures.even c.evens_and_odds-2.ensures.odd
    c.second_half_metrics.ensures.near c.second_half_metrics.ensures.far)).odd_far

pub lesser-high_second_bits-requires-clause-first_fits : goal.lesser-high_second_bits-requires-clause-first_fits
lesser-high_second_bits-requires-clause-first_fits c =
    (fit _ _ _ _ _ _ 16 c.requires.fits (omega arith)
    (second_halves c.args.low c.args.high c.args.metrics _ _ _ _
    (omega arith) c.evens_and_odds-2.ensures.even c.evens_and_odds-2.ensures.odd
    c.second_half_metrics.ensures.near c.second_half_metrics.ensures.far)).even_far

pub lesser-high_second_bits-requires-clause-second_fits : goal.lesser-high_second_bits-requires-clause-second_fits
lesser-high_second_bits-requires-clause-second_fits c =
    (fit _ _ _ _ _ _ 16 c.requires.fits (omega arith)
    (second_halves c.args.low c.args.high c.args.metrics _ _ _ _
    (omega arith) c.evens_and_odds-2.ensures.even c.evens_and_odds-2.ensures.odd
    c.second_half_metrics.ensures.near c.second_half_metrics.ensures.far)).odd_near

pub returns-clause-sums : goal.returns-clause-sums
returns-clause-sums c s lt =
    let sums = c.args.low ++ c.args.high in
    let first = first_halves c.args.low c.args.high c.args.metrics _ _ _ _
    (omega arith) c.evens_and_odds.ensures.even c.evens_and_odds.ensures.odd
    c.first_half_metrics.ensures.near c.first_half_metrics.ensures.far in
    let second = second_halves c.args.low c.args.high c.args.metrics _ _ _ _
    (omega arith) c.evens_and_odds-2.ensures.even c.evens_and_odds-2.ensures.odd
    c.second_half_metrics.ensures.near c.second_half_metrics.ensures.far in
    let a = c.lesser-low_first_bits.result.0 in
    let b = c.lesser-low_second_bits.result.0 in
    let d = c.lesser-high_first_bits.result.0 in
    let e = c.lesser-high_second_bits.result.0 in
    let next : ℕ → ℕ = λ k. min (first_metric sums c.args.metrics k) (second_metric sums c.args.metrics k) in
    ap (λ v. get_or (v ++ c.joined-next_high.result) s 0) c.joined-next_low.ensures
    ∙ ap (λ v. get_or ((a ++ b) ++ v) s 0) c.joined-next_high.ensures
    ∙ four_sums a b d e next c.lesser-low_first_bits.ensures.sums.long c.lesser-low_second_bits.ensures.sums.long
    c.lesser-high_first_bits.ensures.sums.long
    (low_sums sums c.args.metrics _ _ _ _ a 0 first (omega arith) c.lesser-low_first_bits.ensures.sums)
    (low_sums sums c.args.metrics _ _ _ _ b 16 second (omega arith) c.lesser-low_second_bits.ensures.sums)
    (high_sums sums c.args.metrics _ _ _ _ d 0 first (omega arith) c.lesser-high_first_bits.ensures.sums)
    (high_sums sums c.args.metrics _ _ _ _ e 16 second (omega arith) c.lesser-high_second_bits.ensures.sums)
    s lt

pub returns-clause-survivors : goal.returns-clause-survivors
returns-clause-survivors c s lt =
    let sums = c.args.low ++ c.args.high in
    let first = first_halves c.args.low c.args.high c.args.metrics _ _ _ _
    (omega arith) c.evens_and_odds.ensures.even c.evens_and_odds.ensures.odd
    c.first_half_metrics.ensures.near c.first_half_metrics.ensures.far in
    let second = second_halves c.args.low c.args.high c.args.metrics _ _ _ _
    (omega arith) c.evens_and_odds-2.ensures.even c.evens_and_odds-2.ensures.odd
    c.second_half_metrics.ensures.near c.second_half_metrics.ensures.far in
    let a = c.lesser-low_first_bits.result.1 in
    let b = c.lesser-low_second_bits.result.1 in
    let d = c.lesser-high_first_bits.result.1 in
    let e = c.lesser-high_second_bits.result.1 in
    let complemented : 2 ^ 64 - 1 - (a + b * 2 ^ 16 % 2 ^ 64 + d * 2 ^ 32 % 2 ^ 64 + e * 2 ^ 48 % 2 ^ 64)
    ≡ (((65535 - e) * 2 ^ 16 + (65535 - d)) * 2 ^ 32) + ((65535 - b) * 2 ^ 16 + (65535 - a)) =
    omega (
      arith,
      c.lesser-low_first_bits.ensures.small,
      c.lesser-low_second_bits.ensures.small,
      c.lesser-high_first_bits.ensures.small,
      c.lesser-high_second_bits.ensures.small,
    ) in
    let bit : ℕ → ℕ = λ k. cond (ltb (second_metric sums c.args.metrics k) (first_metric sums c.args.metrics k)) 1 0 in
    ap (λ v. v / 2 ^ s % 2) complemented
    ∙ four_bits (65535 - a) (65535 - b) (65535 - d) (65535 - e) bit (omega arith) (omega arith) (omega arith)
    (omega arith)
    (low_bits sums c.args.metrics _ _ _ _ 0 (65535 - a) first (omega arith) c.lesser-low_first_bits.ensures.bits)
    (low_bits sums c.args.metrics _ _ _ _ 16 (65535 - b) second (omega arith) c.lesser-low_second_bits.ensures.bits)
    (high_bits sums c.args.metrics _ _ _ _ 0 (65535 - d) first (omega arith) c.lesser-high_first_bits.ensures.bits)
    (high_bits sums c.args.metrics _ _ _ _ 16 (65535 - e) second (omega arith) c.lesser-high_second_bits.ensures.bits)
    s lt
