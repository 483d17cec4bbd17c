-- The best path to each register, one step on.
use Rattle.std.proofs.Common.{◌≡◌, ℕ, ◌+◌, ◌*◌, ◌/◌, ◌%◌, ◌^◌, ◌<◌, ◌≤◌, ◌⊎◌, ◌∙◌, inl, inr, min, sym, ap, subst, cond, ltb, arith, length, get_or, List, [], ◌∷◌, zero, suc, refl}
use Rattle.std.proofs.lemmas.Bool.{cases_lt}
use Rattle.std.specs.List.{All}
use Rattle.std.proofs.lemmas.Nat.{pow-add}
use Rattle.std.proofs.Math.Nat.{pow-suc, mul-le-mul_right}
use Rattle.std.proofs.lemmas.List.Elements.{All-head, All-tail, All-cons, All-nil}
use Rattle.tm_viterbi.proofs.Survivors.{choice_second, choice_first}
use Rattle.tm_conv.specs.Path.{next_register, c1, c2}
use Rattle.tm_viterbi.specs.Walk.{register_back, rank, IsPathTo, IsNoWorse, IsBestTo, before, past_of, start_of, AreBest}
use Rattle.tm_viterbi.specs.AddCompareSelect.{first_metric, second_metric, IsNextSums, AreSurvivors}

pub register_back_lt : (r : ℕ) (past : List ℕ) → r < 64 → All (λ b. b < 2) past → register_back r past < 64
register_back_lt r [] lt each = lt
register_back_lt r (b ∷ past) lt each =
    let h = register_back_lt r past lt (All-tail (λ b. b < 2) b past each) in
    let k : b < 2 = All-head (λ b. b < 2) b past each in
    omega arith

-- the rank begins with the register's digits
record HasTop (k p size : ℕ) : Type 0 where
  low : ℕ
  below : low < size
  is : k ≡ p * size + low

top_halves : (b q m p low size : ℕ) → p ≡ 2 * q + m → b * (64 * size) + (p * size + low)
    ≡ (q + 32 * b) * (2 * size) + (m * size + low)
top_halves b q m p low size e = rw e (omega arith)

low_fits : (m low size : ℕ) → m < 2 → low < size → m * size + low < 2 * size
low_fits zero low size m l = omega arith
low_fits (suc zero) low size m l = omega arith
low_fits (suc (suc k)) low size m l = absurd (omega arith)

top_more : (k p b size : ℕ) → HasTop k p size → HasTop (b * (64 * size) + k) (next_register p b) (2 * size)
top_more k p b size h = record {
  low = p % 2 * size + h.low;
  below = low_fits (p % 2) h.low size (omega arith) h.below;
  is = ap (λ v. b * (64 * size) + v) h.is ∙ top_halves b (p / 2) (p % 2) p h.low size (omega arith);
}

size_more : (n : ℕ) → 2 ^ suc n ≡ 2 * 2 ^ n
size_more n = omega (arith, pow-suc 2 n)

size_six : (n : ℕ) → 2 ^ (n + 6) ≡ 64 * 2 ^ n
size_six n = pow-add 2 n 6 ∙ omega arith

has_top : (r : ℕ) (past : List ℕ) → HasTop (rank r past) (register_back r past) (2 ^ length past)
has_top r [] = record { low = 0; below = omega arith; is = omega arith }
has_top r (b ∷ past) =
    rw (size_more (length past), size_six (length past)) (top_more (rank r past) (register_back r past) b
    (2 ^ length past) (has_top r past))

tops_lt : (k l p q size : ℕ) → p < q → HasTop k p size → HasTop l q size → k < l
tops_lt k l p q size lt a b =
    let h = mul-le-mul_right size lt in
    let more : suc p * size ≡ p * size + size = omega arith in
    omega (arith, h, more, a.is, a.below, b.is)

pub rank_lt : (n p q r s : ℕ) (past other : List ℕ) → p < q → IsPathTo n p r past → IsPathTo n q s other
    → rank r past < rank s other
rank_lt n p q r s past other lt a b =
    let P = λ (v : ℕ). HasTop (rank r past) v (2 ^ length past) in
    tops_lt (rank r past) (rank s other) p q (2 ^ n) lt
    (rw (← a.long, ← a.ends) (has_top r past))
    (rw (← b.long, ← b.ends) (has_top s other))

-- a path of one more bit, taken apart
record Extends (s p b : ℕ) : Type 0 where
  bit : b ≡ s / 32
  register : (p ≡ 2 * (s % 32)) ⊎ (p ≡ 2 * (s % 32) + 1)

extends : (s p b : ℕ) → p < 64 → b < 2 → next_register p b ≡ s → Extends s p b
extends s p b pl bl e = record {
  bit = omega arith;
  register =
      elim (cases_lt (p % 2) 1) as
      (λ _. (p ≡ 2 * (s % 32)) ⊎ (p ≡ 2 * (s % 32) + 1)) [ inl h ↦ inl (omega arith) | inr h ↦ inr (omega arith) ];
}

-- how totals grow by one more step
pub record Grows (total more : ℕ → List ℕ → ℕ) (n : ℕ) (edge : ℕ → ℕ → ℕ) : Type 0 where
  pub is : (q : ℕ) (past : List ℕ) (b : ℕ) → length past ≡ n
      → more q (b ∷ past) ≡ total q past + edge (register_back q past) b

pub path_prefix : (n s q b : ℕ) (other : List ℕ) → IsPathTo (n + 1) s q (b ∷ other)
    → IsPathTo n (register_back q other) q other
path_prefix n s q b other h = record {
  start = h.start;
  each = All-tail (λ b. b < 2) b other h.each;
  long = let l : suc (length other) ≡ n + 1 = h.long in omega arith;
  ends = refl;
}

path_more : (n s p r : ℕ) (past : List ℕ) → s < 64 → IsPathTo n p r past → next_register p (s / 32) ≡ s
    → IsPathTo (n + 1) s r ((s / 32) ∷ past)
path_more n s p r past lt h e = record {
  start = h.start;
  each = let small : s / 32 < 2 = omega arith in All-cons (λ b. b < 2) (s / 32) past small h.each;
  long = let l : length past ≡ n = h.long in omega arith;
  ends = let P : ℕ → Type 0 = λ v. next_register v (s / 32) ≡ s in subst P (sym h.ends) e;
}

-- The chosen way x0 with rank k0 is no worse than any other path through either register before.
rival : (total more : ℕ → List ℕ → ℕ) (n s : ℕ) (edge : ℕ → ℕ → ℕ) → s < 64 → Grows total more n edge
    → (sum r : ℕ) (past : List ℕ) → length past ≡ n
    → ((p q : ℕ) (other : List ℕ) → (p ≡ 2 * (s % 32)) ⊎ (p ≡ 2 * (s % 32) + 1) → IsPathTo n p q other
    → IsNoWorse sum (rank r past) (total q other + edge p (s / 32)) (rank q other))
    → (q : ℕ) (other : List ℕ) → IsPathTo (n + 1) s q other
    → IsNoWorse sum (rank r ((s / 32) ∷ past)) (more q other) (rank q other)
rival total more n s edge lt grows sum r past long best q [] path =
    absurd (let h : 0 ≡ n + 1 = path.long in omega arith)
rival total more n s edge lt grows sum r past long best q (b ∷ other) path =
    let prefix = path_prefix n s q b other path in
    let p = register_back q other in
    let pl : p < 64 = register_back_lt q other path.start prefix.each in
    let bl : b < 2 = All-head (λ b. b < 2) b other path.each in
    let ex : Extends s p b = extends s p b pl bl path.ends in
    let h : IsNoWorse sum (rank r past) (total q other + edge p (s / 32)) (rank q other) =
    best p q other ex.register prefix in
    let g : more q (b ∷ other) ≡ total q other + edge p (s / 32) = grows.is q other b prefix.long
    ∙ ap (λ v. total q other + edge p v) ex.bit in
    let size : b * 2 ^ (length other + 6) ≡ s / 32 * 2 ^ (length past + 6) =
    ap (λ v. v * 2 ^ (length other + 6)) ex.bit ∙ ap (λ v. s / 32 * 2 ^ (v + 6)) (prefix.long ∙ sym long) in
    record {
      least = omega (arith, h.least, g);
      first = λ le. let k : rank r past ≤ rank q other = h.first (omega (arith, g, le)) in omega (arith, k, size);
    }

-- the best path over register p is the best of both where it costs less than the best over the other register,
-- or as little and p is the lower
best_over : (total more : ℕ → List ℕ → ℕ) (n s : ℕ) (edge : ℕ → ℕ → ℕ) → s < 64 → Grows total more n edge
    → (p o x y r q : ℕ) (past other : List ℕ) → next_register p (s / 32) ≡ s
    → ((w : ℕ) → (w ≡ 2 * (s % 32)) ⊎ (w ≡ 2 * (s % 32) + 1) → (w ≡ p) ⊎ (w ≡ o))
    → IsBestTo total n p x r past → IsBestTo total n o y q other
    → IsNoWorse (x + edge p (s / 32)) (suc p) (y + edge o (s / 32)) o
    → IsBestTo more (n + 1) s (x + edge p (s / 32)) r ((s / 32) ∷ past)
best_over total more n s edge lt grows p o x y r q past other goes both a b less =
    let d = s / 32 in
    let compare : (w v : ℕ) (rest : List ℕ) → (w ≡ 2 * (s % 32)) ⊎ (w ≡ 2 * (s % 32) + 1) → IsPathTo n w v rest
    → IsNoWorse (x + edge p d) (rank r past) (total v rest + edge w d) (rank v rest)
    = λ w v rest cases path. elim (both w cases) [
      | inl e ↦ (let h = a.best v rest (subst (λ (u : ℕ). IsPathTo n u v rest) e path) in
          let f : edge w d ≡ edge p d = ap (λ u. edge u d) e in
          record { least = omega (arith, h.least, f); first = λ l. h.first (omega (arith, l, f)) })
      | inr e ↦ (let along : IsPathTo n o v rest = subst (λ (u : ℕ). IsPathTo n u v rest) e path in
          let h = b.best v rest along in
          let f : edge w d ≡ edge o d = ap (λ u. edge u d) e in
          record {
            least = omega (arith, h.least, f, less.least);
            first = λ l. let lower : p < o = less.first (omega (arith, h.least, l, f)) in
                let k : rank r past < rank v rest = rank_lt n p o r v past rest lower a.is_path along in
                omega (arith, k);
          })
    ] in
    record {
      is_path = path_more n s p r past lt a.is_path goes;
      is_sum =
          grows.is r past d a.is_path.long ∙ ap (λ v. v + edge (register_back r past) d) a.is_sum
          ∙ ap (λ v. x + edge v d) a.is_path.ends;
      best = rival total more n s edge lt grows (x + edge p d) r past a.is_path.long compare;
    }

-- what an edge costs, by the four branch metrics of a step
abbrev pub edge_cost : List ℕ → ℕ → ℕ → ℕ
edge_cost metrics p b = get_or metrics (2 * c1 p b + c2 p b) 0

pub AreBest-more : (total more : ℕ → List ℕ → ℕ) (n survivor : ℕ) (sums metrics next survivors : List ℕ)
    → Grows total more n (edge_cost metrics)
    → IsNextSums sums metrics next → AreSurvivors sums metrics survivor
    → AreBest total n sums survivors → AreBest more (n + 1) next (survivor ∷ survivors)
AreBest-more total more n survivor sums metrics next survivors grows is_next survive best s lt =
    let p0 = 2 * (s % 32) in
    let p1 = 2 * (s % 32) + 1 in
    let first : ℕ = first_metric sums metrics s in
    let second : ℕ = second_metric sums metrics s in
    let a : IsBestTo total n p0 (get_or sums p0 0) (start_of survivors p0) (past_of survivors p0) =
    best p0 (omega arith) in
    let b : IsBestTo total n p1 (get_or sums p1 0) (start_of survivors p1) (past_of survivors p1) =
    best p1 (omega arith) in
    let P : ℕ → ℕ → Type 0 = λ v w. IsBestTo more (n + 1) s v (start_of survivors w) ((s / 32) ∷ past_of survivors w) in
    let goes : (v w : ℕ) → get_or next s 0 ≡ v → before survivor s ≡ w → P v w → P (get_or next s 0) (before survivor s)
    = λ v w e f h. subst (λ (z : ℕ). P z (before survivor s)) (sym e) (subst (λ (z : ℕ). P v z) (sym f) h) in
    let chosen : survivor / 2 ^ s % 2 ≡ cond (ltb second first) 1 0 = survive s lt in
    let least : get_or next s 0 ≡ min first second = is_next s lt in
    elim (cases_lt second first) as (λ _. P (get_or next s 0) (before survivor s)) [
      | inl h ↦ (let one : survivor / 2 ^ s % 2 ≡ 1 = chosen ∙ choice_second first second first second refl refl h in
          goes second p1 (omega (arith, least, h)) (omega (arith, one))
          (best_over total more n s (edge_cost metrics) lt grows p1 p0 _ _ _ _ _ _ (omega arith)
          (λ w cases. elim cases [ inl e ↦ inr e | inr e ↦ inl e ]) b a
          (record { least = omega (arith, h); first = λ l. absurd (omega (arith, h, l)) })))
      | inr h ↦ (let none : survivor / 2 ^ s % 2 ≡ 0 = chosen ∙ choice_first first second first second refl refl h in
          goes first p0 (omega (arith, least, h)) (omega (arith, none))
          (best_over total more n s (edge_cost metrics) lt grows p0 p1 _ _ _ _ _ _ (omega arith) (λ w cases. cases) a b
          (record { least = h; first = λ _. omega arith })))
    ]

-- before any step each path is a register alone
none_best : (total : ℕ → List ℕ → ℕ) (s sum q : ℕ) (other : List ℕ) → total s [] ≡ sum → IsPathTo 0 s q other
    → IsNoWorse sum s (total q other) (rank q other)
none_best total s sum q [] e path =
    let ends : q ≡ s = path.ends in
    let same : total q [] ≡ total s [] = ap (λ v. total v []) ends in
    record { least = omega (arith, e, same); first = λ _. omega (arith, ends) }
none_best total s sum q (b ∷ other) e path = absurd (let h : suc (length other) ≡ 0 = path.long in omega arith)

pub AreBest-none : (total : ℕ → List ℕ → ℕ) (sums : List ℕ) → ((r : ℕ) → r < 64 → total r [] ≡ get_or sums r 0)
    → AreBest total 0 sums []
AreBest-none total sums same s lt = record {
  is_path = record { start = lt; each = All-nil (λ b. b < 2); long = refl; ends = refl };
  is_sum = same s lt;
  best = λ q other path. none_best total s (get_or sums s 0) q other (same s lt) path;
}

-- what survivors keep is a path, whatever the sums
before_lt : (c s : ℕ) → s < 64 → before c s < 64
before_lt c s lt = omega arith

pub past_of_small : (survivors : List ℕ) (s : ℕ) → s < 64 → All (λ b. b < 2) (past_of survivors s)
past_of_small [] s lt = All-nil (λ b. b < 2)
past_of_small (c ∷ survivors) s lt =
    let small : s / 32 < 2 = omega arith in
    All-cons (λ b. b < 2) (s / 32) (past_of survivors (before c s)) small
    (past_of_small survivors (before c s) (before_lt c s lt))
