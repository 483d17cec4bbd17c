-- Columns of least costs pass a check of the best path's metric, and are small.
use Rattle.std.proofs.Common.{◌≡◌, ℕ, zero, suc, ◌+◌, ◌-◌, ◌^◌, ◌<◌, ◌≤◌, Bool, cond, IsTrue, Option, Some, None, List, [], ◌++◌, length, get_or, take, drop, refl, sym, ap, subst, ◌∙◌, arith, take_all, take-add, length-take, length-drop, All}
use Rattle.std.proofs.Math.Path.{transport}
use Rattle.std.proofs.lemmas.List.{length-take-le}
use Rattle.std.proofs.lemmas.List.Elements.{All-take, All-from_get_or}
use Rattle.tm_conv.specs.declared.rates.Rate.{Rate}
use Rattle.tm_conv.specs.Path.{next_register, step_size, steps_size, path}
use Rattle.tm_conv.specs.Cost.{cost}
use Rattle.tm_conv.specs.Best.{IsBest}
use Rattle.tm_conv.specs.Columns.{IsColumn}
use Rattle.tm_conv.proofs.Sizes.{steps_size-suc, steps_size-le}
use Rattle.tm_conv.proofs.Paths.{steps_size-zero}
use Rattle.tm_conv.proofs.LeastColumns.{IsColumn-first, IsColumn-edge, IsColumn-least, IsColumn-most}
use Rattle.tm_path_cert.specs.declared.verdicts.Starts.{Starts}
use Rattle.tm_path_cert.specs.declared.verdicts.Starts.TheVariants.{Any, One}
use Rattle.tm_path_cert.specs.Claim.{Claim, is_start, edge_cost, step_octets}
use Rattle.tm_path_cert.specs.Tests.{Holds, Pass, column_at, last_of}
use Rattle.tm_viterbi.specs.Starts.{starts_from}
use Rattle.tm_cert_file.specs.Certificate.{AreColumns}
use Rattle.tm_cert_file.proofs.RoundTrip.{IsWide}

-- ---- where a path may start

abbrev pub starts_of : Option ℕ → Starts
starts_of None = Any
starts_of (Some register) = One register

pub may_start : (starts : Option ℕ) (register : ℕ) → is_start (starts_of starts) register ≡ starts_from starts register
may_start None register = refl
may_start (Some first) register = refl

-- ---- the columns of a window pass

module _ (claim : Claim) (starts : Option ℕ) (steps : ℕ) (columns : List (List ℕ))
    (same : claim.starts ≡ starts_of starts) (long : length claim.soft ≡ steps_size claim.rate claim.first steps)
    (are : AreColumns claim.rate claim.invert starts claim.first steps claim.soft columns) where
  first_holds : (register : ℕ) → register < 64 → IsTrue (is_start claim.starts register)
      → get_or (column_at columns 0) register 0 ≡ 0
  first_holds register small start =
      let column = transport (λ i. IsColumn (starts_from starts) claim.rate claim.invert claim.first
      (take (steps_size-zero claim.rate claim.first i) claim.soft) (column_at columns 0)) (are.each 0 (omega arith)) in
      let begins : is_start claim.starts register ≡ starts_from starts register =
      ap (λ (v : Starts). is_start v register) same ∙ may_start starts register in
      IsColumn-first (starts_from starts) claim.rate claim.invert claim.first register
      (column_at columns 0) column small
      ∙ ap (λ (v : Bool). cond v 0 (2 ^ 30)) (sym begins ∙ start)

  edge_holds : (k from bit register : ℕ) → suc k < length columns → from < 64 → bit < 2
      → next_register from bit ≡ register
      → get_or (column_at columns (suc k)) register 0 ≤ get_or
      (column_at columns (suc k - 1)) from 0 + edge_cost claim k from bit
  edge_holds k from bit register lt small is_bit to =
      let n = steps_size claim.rate claim.first k in
      let m = step_size claim.rate (claim.first + k) in
      let whole : n + m ≡ steps_size claim.rate claim.first (suc k) = sym (steps_size-suc claim.rate claim.first k) in
      let fits : n + m ≤ length claim.soft = omega (
        arith,
        whole,
        long,
        are.count,
        lt,
        steps_size-le claim.rate claim.first (suc k) steps (omega (arith, are.count, lt)),
      ) in
      let join : take (steps_size claim.rate claim.first (suc k)) claim.soft ≡ take n claim.soft
      ++ step_octets claim k = ap (λ v. take v claim.soft) (sym whole) ∙ take-add n m claim.soft in
      let after = subst (λ v. IsColumn (starts_from starts) claim.rate claim.invert claim.first v
      (column_at columns (suc k))) join (are.each (suc k) (omega (arith, are.count, lt))) in
      let before = are.each k (omega (arith, are.count, lt)) in
      let there : length (step_octets claim k) ≡ m = length-take-le m (drop n claim.soft)
      (omega (arith, fits, length-drop n claim.soft)) in
      let step : get_or (column_at columns (suc k)) (next_register from bit) 0
      ≤ get_or (column_at columns k) from 0 + edge_cost claim k from bit
      =
      IsColumn-edge (starts_from starts) claim.rate claim.invert claim.first k from bit (take n claim.soft)
      (step_octets claim k) (column_at columns k) (column_at columns (suc k))
      before after (length-take-le n claim.soft (omega (arith, fits))) there small is_bit in
      let place : k ≡ suc k - 1 = omega arith in
      transport (λ i. get_or (column_at columns (suc k)) (to i) 0
      ≤ get_or (column_at columns (place i)) from 0 + edge_cost claim k from bit) step

  all_hold : (t register : ℕ) → t < length columns → register < 64 → Holds claim columns t register
  all_hold zero register lt small = first_holds register small
  all_hold (suc k) register lt small = λ from bit below is_bit to. edge_holds k from bit register lt below is_bit to

  pub columns_pass : (start metric : ℕ) (bits : List ℕ) → IsBest
      (starts_from starts) claim.rate claim.invert claim.first claim.soft start bits
      → metric ≡ cost (path claim.rate claim.invert claim.first start bits) claim.soft → metric ≤ 2 ^ 30
      → Pass claim columns metric
  columns_pass start metric bits best is few =
      let end : length columns - 1 ≡ steps = omega (arith, are.count) in
      let all : take (steps_size claim.rate claim.first steps) claim.soft ≡ claim.soft =
      take_all (steps_size claim.rate claim.first steps) claim.soft (omega (arith, long)) in
      let last : IsColumn (starts_from starts) claim.rate claim.invert claim.first claim.soft (last_of columns)
      =
      transport (λ i. IsColumn (starts_from starts) claim.rate claim.invert claim.first (all i)
      (column_at columns (sym end i))) (are.each steps (omega arith)) in
      record {
        columns_hold = all_hold;
        at_least = λ register small.
            omega (
              arith,
              is,
              IsColumn-least (starts_from starts) claim.rate claim.invert claim.first start register
                  claim.soft (last_of columns) bits last best (omega (arith, is, few)) small,
            );
      }

-- each number of a column stands in four octets
pub columns_wide : (rate : Rate) (invert : Bool) (starts : Option ℕ) (t steps : ℕ) (octets : List ℕ)
    (columns : List (List ℕ))
    → All (λ octet. octet < 256) octets → length octets ≤ 2 ^ 20
    → AreColumns rate invert starts t steps octets columns → All IsWide columns
columns_wide rate invert starts t steps octets columns small few are =
    All-from_get_or IsWide columns [] (λ k lt.
    let column = are.each k (omega (arith, are.count, lt)) in
    let prefix = take (steps_size rate t k) octets in
    record {
      long = column.long;
      each = All-from_get_or (λ n. n < 2 ^ 32) (column_at columns k) 0 (λ register below.
          omega (
            arith,
            length-take (steps_size rate t k) octets,
            IsColumn-most (starts_from starts) rate invert t register prefix (column_at columns k)
                (All-take (λ octet. octet < 256) (steps_size rate t k) octets small) column
                (omega (arith, below, column.long)),
          )
          );
    })
