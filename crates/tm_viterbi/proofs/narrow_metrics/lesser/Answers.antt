use Rattle.std.proofs.Common.{◌≡◌, ℕ, ◌+◌, ◌<◌, ◌∙◌, min, ap, cond, ltb, arith, length, get_or, List}
use lib.Lanes.{zip2}
use Rattle.std.proofs.lemmas.Simd.{length-zip2, get_or-zip2}
use Rattle.tm_viterbi.proofs.Vectors.{Each2-from_get_or}
use Rattle.tm_viterbi.proofs.NarrowLanes.{least_sums, lesser_bits, lesser_small}
use Rattle.tm_viterbi.proofs.narrow_metrics.lesser.Goals as goal

add : List ℕ → List ℕ → List ℕ
add xs ys = zip2 (λ a b. a + b) xs ys

length-add : (xs ys : List ℕ) → length xs ≡ 16 → length ys ≡ 16 → length (add xs ys) ≡ 16
unfolding add
length-add xs ys lx ly = omega (arith, length-zip2 (λ a b. a + b) xs ys (omega arith))

get_or-add : (xs ys : List ℕ) (i : ℕ) → length xs ≡ 16 → length ys ≡ 16 → i < 16
    → get_or (add xs ys) i 0 ≡ get_or xs i 0 + get_or ys i 0
unfolding add
get_or-add xs ys i lx ly lt = get_or-zip2 (λ a b. a + b) xs ys i 0 0 0 (omega arith) (omega arith)

pub overflow_add-one : goal.overflow_add-one
overflow_add-one c =
    Each2-from_get_or _ c.args.first c.args.first_metrics (omega arith)
    (λ i lt. record { fits = c.requires.first_fits i (omega arith) })

pub overflow_add-other : goal.overflow_add-other
overflow_add-other c =
    Each2-from_get_or _ c.args.second c.args.second_metrics (omega arith)
    (λ i lt. record { fits = c.requires.second_fits i (omega arith) })

pub returns-clause-sums : goal.returns-clause-sums
unfolding add
returns-clause-sums c =
    let xs = add c.args.first c.args.first_metrics in
    let ys = add c.args.second c.args.second_metrics in
    let lx = length-add c.args.first c.args.first_metrics (omega arith) (omega arith) in
    let ly = length-add c.args.second c.args.second_metrics (omega arith) (omega arith) in
    let h = least_sums xs ys lx ly in
    record {
      long = h.long;
      each = λ i lt. h.each i lt
          ∙ ap (λ v. min v (get_or ys i 0))
          (get_or-add c.args.first c.args.first_metrics i (omega arith) (omega arith) lt)
          ∙ ap (λ v. min (get_or c.args.first i 0 + get_or c.args.first_metrics i 0) v)
          (get_or-add c.args.second c.args.second_metrics i (omega arith) (omega arith) lt);
    }

pub returns-clause-bits : goal.returns-clause-bits
unfolding add
returns-clause-bits c i lt =
    let xs = add c.args.first c.args.first_metrics in
    let ys = add c.args.second c.args.second_metrics in
    let lx = length-add c.args.first c.args.first_metrics (omega arith) (omega arith) in
    let ly = length-add c.args.second c.args.second_metrics (omega arith) (omega arith) in
    lesser_bits xs ys lx ly i lt
    ∙ ap (λ v. cond (ltb (get_or ys i 0) v) 1 0)
    (get_or-add c.args.first c.args.first_metrics i (omega arith) (omega arith) lt)
    ∙ ap (λ v. cond (ltb v (get_or c.args.first i 0 + get_or c.args.first_metrics i 0)) 1 0)
    (get_or-add c.args.second c.args.second_metrics i (omega arith) (omega arith) lt)

pub returns-clause-small : goal.returns-clause-small
unfolding add
returns-clause-small c =
    lesser_small (add c.args.first c.args.first_metrics) (add c.args.second c.args.second_metrics)
    (length-add c.args.first c.args.first_metrics (omega arith) (omega arith))
    (length-add c.args.second c.args.second_metrics (omega arith) (omega arith))
