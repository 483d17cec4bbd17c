-- Totals, one step on; and the order of ranks as that of a dictionary.
use Rattle.std.proofs.Common.{◌≡◌, ℕ, ◌+◌, ◌*◌, ◌^◌, ◌<◌, ◌≤◌, ◌∙◌, sym, ap, arith, length, List, [], ◌∷◌, ◌++◌, Bool, length-append}
use Rattle.std.specs.List.{All}
use Rattle.std.proofs.lemmas.List.{length-reverse}
use Rattle.std.proofs.lemmas.List.Elements.{All-append}
use mathlib.Core.List.{reverse}
use Rattle.tm_conv.specs.declared.rates.Rate.{Rate}
use Rattle.tm_conv.specs.Path.{c1, c2, step_symbols, steps_size, path, register_after}
use Rattle.tm_conv.specs.Cost.{cost}
use Rattle.tm_conv.specs.Best.{IsLexLe, register_bits}
use Rattle.tm_viterbi.specs.Walk.{register_back, rank}
use Rattle.tm_viterbi.specs.Totals.{total_of, AreBranchMetrics}
use Rattle.tm_viterbi.proofs.Walk.{Grows, edge_cost}
use Rattle.tm_conv.proofs.Paths.{path-push, cost-append, length-path}
use Rattle.tm_conv.proofs.DictionaryOrder.{value, IsLexLe-from_value, register_bits_small}
use Rattle.tm_viterbi.proofs.Back.{reverse_cons, register_after-reverse}

pub Grows-total_of : (rate : Rate) (invert : Bool) (t n : ℕ) (firsts octets piece metrics : List ℕ)
    → length octets ≡ steps_size rate t n → AreBranchMetrics rate invert (t + n) piece metrics
    → Grows (total_of rate invert t firsts octets)
    (total_of rate invert t firsts (octets ++ piece)) n (edge_cost metrics)
Grows-total_of rate invert t n firsts octets piece metrics long are = record {
  is = λ q past b l.
      let bits = reverse past in
      let lr : length bits ≡ n = length-reverse past ∙ l in
      let u : t + n ≡ t + length bits = omega (arith, lr) in
      let here = path rate invert t q bits in
      let step = step_symbols rate invert (t + n) (register_after q bits) b in
      let p = path-push rate invert t (t + n) q bits b u in
      let whole : cost (path rate invert t q (reverse (b ∷ past))) (octets ++ piece)
      ≡ cost here octets + cost step piece
      = ap (λ v. cost (path rate invert t q v) (octets ++ piece)) (reverse_cons b past)
      ∙ ap (λ v. cost v (octets ++ piece)) p
      ∙ cost-append here octets step piece (length-path rate invert t q bits ∙ ap (steps_size rate t) lr ∙ sym long) in
      let edge : edge_cost metrics (register_back q past) b ≡ cost step piece
      = are (c1 (register_back q past) b) (c2 (register_back q past) b) (omega arith) (omega arith)
      ∙ ap (λ v. cost (step_symbols rate invert (t + n) v b) piece) (sym (register_after-reverse q past)) in
      omega (arith, whole, edge);
}

-- ---- the order of ranks

rank_is_value : (r : ℕ) (past : List ℕ) → r < 64 → rank r past ≡ value (past ++ register_bits r)
unfolding value
rank_is_value r [] lt = omega arith
rank_is_value r (b ∷ past) lt =
    let l : length (past ++ register_bits r) ≡ length past + 6 = length-append past (register_bits r) in
    ap (λ v. b * 2 ^ v + rank r past) (sym l) ∙ ap (λ v. b * 2 ^ length (past ++ register_bits r) + v)
    (rank_is_value r past lt)

pub IsLexLe-from_rank : (r q : ℕ) (past other : List ℕ) → r < 64 → q < 64 → All (λ b. b < 2) past
    → All (λ b. b < 2) other → length past ≡ length other
    → rank r past ≤ rank q other → IsLexLe (past ++ register_bits r) (other ++ register_bits q)
IsLexLe-from_rank r q past other rl ql a b l le =
    IsLexLe-from_value (past ++ register_bits r) (other ++ register_bits q)
    (All-append (λ b. b < 2) past (register_bits r) a (register_bits_small r))
    (All-append (λ b. b < 2) other (register_bits q) b (register_bits_small q))
    (omega (arith, length-append past (register_bits r), length-append other (register_bits q), l))
    (omega (arith, le, rank_is_value r past rl, rank_is_value q other ql))
