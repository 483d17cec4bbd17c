-- The best candidate, from the sums and survivors at the end.
use Rattle.std.proofs.Common.{◌≡◌, ℕ, ◌+◌, ◌*◌, ◌^◌, ◌<◌, ◌≤◌, inl, inr, ◌∙◌, sym, ap, subst, arith, length, List, [], ◌∷◌, ◌++◌, suc, refl, Bool, true, false, cond, get_or, slice_index, IsTrue, Option, Some, None}
use Rattle.std.specs.List.{All}
use Rattle.std.specs.Option.{ForSome}
use Rattle.std.proofs.lemmas.List.{length-reverse, reverse-reverse}
use Rattle.std.proofs.lemmas.List.Elements.{All-head, All-tail}
use Rattle.std.proofs.lemmas.Bool.{cases_order}
use Rattle.std.proofs.lemmas.Bool.Decides.{nat_tests}
use mathlib.Core.List.{reverse}
use Rattle.tm_conv.specs.declared.rates.Rate.{Rate}
use Rattle.tm_conv.specs.Columns.{first_cost}
use Rattle.tm_conv.proofs.Sizes.{same_from_steps_size}
use Rattle.tm_conv.specs.Path.{steps_size, path}
use Rattle.tm_conv.specs.Cost.{cost, distance}
use Rattle.tm_conv.specs.Best.{IsLexLe, register_bits, IsCandidate, IsBest}
use Rattle.tm_viterbi.specs.Walk.{register_back, rank, IsPathTo, IsNoWorse, IsBestTo, past_of, start_of, AreBest}
use Rattle.tm_viterbi.specs.Starts.{starts_from}
use Rattle.tm_viterbi.specs.Totals.{total_of, AreFirsts, IsFirstLeast}
use Rattle.tm_viterbi.proofs.Walk.{rank_lt, register_back_lt}
use Rattle.tm_viterbi.proofs.Totals.{IsLexLe-from_rank}
use Rattle.tm_conv.proofs.Paths.{length-path}
use Rattle.tm_conv.proofs.DictionaryOrder.{All-reverse}

-- ---- costs are small

pub cost_le : (xs ys : List ℕ) → All (λ y. y < 256) ys → cost xs ys ≤ 255 * length ys
cost_le [] ys each = omega arith
cost_le (x ∷ xs) [] each = omega arith
cost_le (x ∷ xs) (y ∷ ys) each =
    let b : y < 256 = All-head (λ v. v < 256) y ys each in
    let h = cost_le xs ys (All-tail (λ v. v < 256) y ys each) in
    let k : distance x y ≤ 255 = grind (arith, nat_tests) in
    let goal : distance x y + cost xs ys ≤ 255 * suc (length ys) = omega (arith, h, k) in
    goal

-- ---- the best of all

-- no path to any register is better than the best path to the least register of least path metric
pub best_of_all : (total : ℕ → List ℕ → ℕ) (n s : ℕ) (sums survivors : List ℕ) → AreBest total n sums survivors
    → IsFirstLeast sums s
    → (q : ℕ) (other : List ℕ) → q < 64 → All (λ b. b < 2) other → length other ≡ n
    → IsNoWorse (get_or sums s 0) (rank (start_of survivors s) (past_of survivors s)) (total q other) (rank q other)
best_of_all total n s sums survivors best least q other ql each long =
    let p = register_back q other in
    let pl : p < 64 = register_back_lt q other ql each in
    let to : IsPathTo n p q other = record { start = ql; each = each; long = long; ends = refl } in
    let there : IsNoWorse (get_or sums p 0) (rank (start_of survivors p) (past_of survivors p)) (total q other)
    (rank q other) = (best p pl).best q other to in
    let at_least : get_or sums s 0 ≤ get_or sums p 0 = least.least p pl in
    let here = best s least.register in
    elim (cases_order s p) as (λ _. IsNoWorse (get_or sums s 0) (rank (start_of survivors s) (past_of survivors s))
    (total q other) (rank q other)) [
      | inl e ↦ here.best q other (record { start = ql; each = each; long = long; ends = sym e })
      | inr (inl lt) ↦ record {
        least = omega (arith, there.least, at_least);
        first =
            λ _. let k : rank (start_of survivors s) (past_of survivors s) < rank q other =
            rank_lt n s p (start_of survivors s) q (past_of survivors s) other lt here.is_path to in omega (arith, k);
      }
      | inr (inr gt) ↦ (let less : get_or sums s 0 < get_or sums p 0 = least.first p gt in record {
        least = omega (arith, there.least, at_least);
        first = λ le. absurd (omega (arith, le, there.least, less));
      })
    ]

-- a register from which a path may start
pub some_start : (starts : Option ℕ) → ForSome starts (λ register. register < 64) → (register : ℕ) × (register < 64)
    × IsTrue (starts_from starts register)
some_start None are = (0, omega arith, refl)
some_start (Some register) are = (register, are register refl, grind (arith, nat_tests))

pub first_cost-start : (starts : ℕ → Bool) (register : ℕ) → IsTrue (starts register) → first_cost starts register ≡ 0
first_cost-start starts register is = ap (λ (v : Bool). cond v 0 (2 ^ 30)) is

-- a first sum below the penalty is that of a start
is_started : (starts : ℕ → Bool) (register sum : ℕ) → sum ≡ first_cost starts register → sum < 2 ^ 30
    → IsTrue (starts register)
is_started starts register sum is small = go (starts register) is
  where
    go : (b : Bool) → sum ≡ cond b 0 (2 ^ 30) → IsTrue b
    go true is = refl
    go false is = absurd (omega arith)

pub IsBest-from_columns : (starts : ℕ → Bool) (rate : Rate) (invert : Bool) (t n s : ℕ)
    (firsts octets sums survivors : List ℕ)
    → AreFirsts starts firsts → (some : ℕ) → some < 64 → IsTrue (starts some)
    → length octets ≡ steps_size rate t n → All (λ y. y < 256) octets → length octets < 2 ^ 20
    → AreBest (total_of rate invert t firsts octets) n sums survivors → IsFirstLeast sums s
    → IsBest starts rate invert t octets (start_of survivors s) (reverse (past_of survivors s))
    × (slice_index sums s ≡ cost (path rate invert t (start_of survivors s) (reverse (past_of survivors s))) octets)
IsBest-from_columns starts rate invert t n s firsts octets sums survivors is_firsts some small is_start long bytes few
    best least =
    let total = total_of rate invert t firsts octets in
    let r = start_of survivors s in
    let past = past_of survivors s in
    let bits = reverse past in
    let here : IsBestTo total n s (get_or sums s 0) r past = best s least.register in
    let each : All (λ b. b < 2) past = here.is_path.each in
    let rl : r < 64 = here.is_path.start in
    let over = best_of_all total n s sums survivors best least in
    let zero_first : (q : ℕ) → q < 64 → IsTrue (starts q) → get_or firsts q 0 ≡ 0 = λ q ql is. is_firsts q ql
    ∙ first_cost-start starts q is in
    let cheap : (q : ℕ) (ks : List ℕ) → cost (path rate invert t q ks) octets < 2 ^ 29 =
    λ q ks. omega (arith, cost_le (path rate invert t q ks) octets bytes, few) in
    let rival : IsNoWorse (get_or sums s 0) (rank r past) (total some past) (rank some past) =
    over some past small each here.is_path.long in
    let started : IsTrue (starts r) = is_started starts r (get_or firsts r 0) (is_firsts r rl)
    (let none : get_or firsts some 0 ≡ 0 = zero_first some small is_start in
    omega (arith, none, here.is_sum, rival.least, cheap some bits)) in
    let sum_is : get_or sums s 0 ≡ cost (path rate invert t r bits) octets
    = (let none : get_or firsts r 0 ≡ 0 = zero_first r rl started in omega (arith, here.is_sum, none)) in
    let size : (q : ℕ) (ks : List ℕ) → length (path rate invert t q ks) ≡ length octets → length ks ≡ n = λ q ks e.
    same_from_steps_size rate t (length ks) n (sym (length-path rate invert t q ks) ∙ e ∙ long) in
    let other_is : (q : ℕ) (ks : List ℕ) → IsCandidate starts rate invert t octets q ks
    → IsNoWorse (cost (path rate invert t r bits) octets) (rank r past) (cost (path rate invert t q ks) octets)
    (rank q (reverse ks))
    = λ q ks c.
    (let o = reverse ks in
    let h : IsNoWorse (get_or sums s 0) (rank r past) (total q o) (rank q o) =
    over q o c.register (All-reverse ks c.each) (length-reverse ks ∙ size q ks c.covers) in
    let same : total q o ≡ cost (path rate invert t q ks) octets
    =
    ap (λ v. get_or firsts q 0 + cost (path rate invert t q v) octets) (reverse-reverse ks)
    ∙ (let none : get_or firsts q 0 ≡ 0 = zero_first q c.register c.start in omega (arith, none)) in
    record { least = omega (arith, h.least, same, sum_is); first = λ le. h.first (omega (arith, le, same, sum_is)) })
    in (
      record {
        candidate = record {
          start = started;
          register = rl;
          each = All-reverse past each;
          covers =
              length-path rate invert t r bits ∙ ap (steps_size rate t) (length-reverse past ∙ here.is_path.long)
              ∙ sym long;
        };
        least = λ q ks c. (other_is q ks c).least;
        first = λ q ks c e.
            (let k : rank r past ≤ rank q (reverse ks) = (other_is q ks c).first (omega (arith, e)) in
            let lex : IsLexLe (past ++ register_bits r) (reverse ks ++ register_bits q)
            =
            IsLexLe-from_rank r q past (reverse ks) rl c.register each (All-reverse ks c.each)
            (here.is_path.long ∙ sym (length-reverse ks ∙ size q ks c.covers)) k in
            let P : List ℕ → Type 0 = λ v. IsLexLe (v ++ register_bits r) (reverse ks ++ register_bits q) in
            subst P (sym (reverse-reverse past)) lex);
      },
      sum_is,
    )
