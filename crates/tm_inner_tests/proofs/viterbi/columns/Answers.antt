use Rattle.std.proofs.Common.{ℕ, ◌≡◌, ◌+◌, ◌^◌, ◌<◌, List, All, length, get_or, arith}
use Rattle.std.proofs.lemmas.List.Elements.{All-get_or}
use Rattle.tm_inner_tests.proofs.viterbi.columns.Goals as goal

-- two numbers below 2^31 add up to less than 2^32
fit : (sums metrics : List ℕ) → length sums ≡ 64 → length metrics ≡ 4
    → All (λ n. n < 2 ^ 31) sums → All (λ n. n < 2 ^ 31) metrics
    → (s k : ℕ) → s < 64 → k < 4 → get_or sums s 0 + get_or metrics k 0 < 2 ^ 32
fit sums metrics long short small few s k sl kl =
    let sum : get_or sums s 0 < 2 ^ 31 = All-get_or (λ n. n < 2 ^ 31) sums s 0 (omega arith) small in
    let metric : get_or metrics k 0 < 2 ^ 31 = All-get_or (λ n. n < 2 ^ 31) metrics k 0 (omega arith) few in
    omega arith

pub plain_column-plain_survivors-requires : goal.plain_column-plain_survivors-requires
plain_column-plain_survivors-requires c =
    fit c.args.sums.now c.args.metrics.now (omega arith) (omega arith) c.requires.sums c.requires.metrics

pub lane_column-lane_survivors-requires : goal.lane_column-lane_survivors-requires
lane_column-lane_survivors-requires c =
    fit c.args.sums.now c.args.metrics.now (omega arith) (omega arith) c.requires.sums c.requires.metrics
