-- Best paths to each register, as a column of least totals.
use Rattle.std.proofs.Common.{◌≡◌, ℕ, ◌+◌, ◌∙◌, sym, ap, arith, length, List, ◌∷◌, ◌++◌, Bool, slice_index, length-append}
use Rattle.std.proofs.lemmas.List.{length-reverse, reverse-reverse}
use mathlib.Core.List.{reverse}
use Rattle.tm_conv.specs.declared.rates.Rate.{Rate}
use Rattle.tm_conv.specs.Path.{path, steps_size, register_after, step_size}
use Rattle.tm_conv.specs.Cost.{cost}
use Rattle.tm_conv.specs.Columns.{IsColumn, total}
use Rattle.tm_conv.proofs.Sizes.{same_from_steps_size}
use Rattle.tm_conv.proofs.Paths.{length-path, steps_size-more}
use Rattle.tm_conv.proofs.DictionaryOrder.{All-reverse}
use Rattle.tm_viterbi.specs.Walk.{IsPathTo, IsNoWorse, AreBest, past_of, start_of, rank}
use Rattle.tm_viterbi.specs.Totals.{total_of, AreFirsts, StepsTo}
use Rattle.tm_viterbi.specs.Starts.{starts_from}
use Rattle.tm_viterbi.specs.Summing.{Summing, SumsFor}
use Rattle.tm_viterbi.proofs.Back.{register_after-reverse}
use Rattle.tm_viterbi.proofs.Walk.{AreBest-more}
use Rattle.tm_viterbi.proofs.Totals.{Grows-total_of}

pub IsColumn-from_best : (starts : ℕ → Bool) (rate : Rate) (invert : Bool) (t n : ℕ)
    (firsts octets column survivors : List ℕ)
    → length column ≡ 64 → length octets ≡ steps_size rate t n → AreFirsts starts firsts
    → AreBest (total_of rate invert t firsts octets) n column survivors → IsColumn starts rate invert t octets column
IsColumn-from_best starts rate invert t n firsts octets column survivors long size are best = record {
  long = long;
  each = λ last below.
      let here = best last below in
      let r = start_of survivors last in
      let past = past_of survivors last in
      record {
        initial = r;
        bits = reverse past;
        path = record {
          register = here.is_path.start;
          each = All-reverse past here.is_path.each;
          covers =
              length-path rate invert t r (reverse past)
              ∙ ap (steps_size rate t) (length-reverse past ∙ here.is_path.long) ∙ sym size;
          ends = register_after-reverse r past ∙ here.is_path.ends;
        };
        reached =
            ap (λ v. v + cost (path rate invert t r (reverse past)) octets) (sym (are r here.is_path.start))
            ∙ here.is_sum;
        least = λ other others is.
            let count : length others ≡ n = same_from_steps_size rate t (length others) n
            (sym (length-path rate invert t other others) ∙ is.covers ∙ size) in
            let there : IsPathTo n last other (reverse others) = record {
              start = is.register;
              each = All-reverse others is.each;
              long = length-reverse others ∙ count;
              ends =
                  sym (register_after-reverse other (reverse others))
                  ∙ ap (register_after other) (reverse-reverse others) ∙ is.ends;
            } in
            let h : IsNoWorse (slice_index column last) (rank r past)
            (total_of rate invert t firsts octets other (reverse others)) (rank other (reverse others)) =
            here.best other (reverse others) there in
            let same : total_of rate invert t firsts octets other (reverse others)
            ≡ total starts rate invert t octets other others
            = ap (λ v. slice_index firsts other + cost (path rate invert t other v) octets) (reverse-reverse others)
            ∙ ap (λ v. v + cost (path rate invert t other others) octets) (are other is.register) in
            omega (arith, h.least, same);
      };
}

-- one step more, the survivors kept as a list
pub best_more : (rate : Rate) (invert : Bool) (t n survivor : ℕ) (firsts octets piece column next survivors : List ℕ)
    → length octets ≡ steps_size rate t n → StepsTo rate invert (t + n) piece column next survivor
    → AreBest (total_of rate invert t firsts octets) n column survivors
    → AreBest (total_of rate invert t firsts (octets ++ piece)) (n + 1) next (survivor ∷ survivors)
best_more rate invert t n survivor firsts octets piece column next survivors size step best =
    AreBest-more _ _ n survivor column step.metrics next survivors
    (Grows-total_of rate invert t n firsts octets piece step.metrics size step.are_branch_metrics) step.are_sums
    step.are_survivors best

-- octets as many as the next step's symbols
abbrev pub goal_size : Summing → List ℕ → Type 0
goal_size sums piece = length piece ≡ step_size sums.rate (sums.first + sums.steps)

pub SumsFor-more : (sums : Summing) (given piece next : List ℕ) (survivor : ℕ)
    → SumsFor sums given → StepsTo sums.rate sums.invert (sums.first + sums.steps) piece sums.column next survivor
    → goal_size sums piece
    → SumsFor (record {
      rate = sums.rate;
      invert = sums.invert;
      first = sums.first;
      start = sums.start;
      steps = sums.steps + 1;
      column = next;
    }) (given ++ piece)
SumsFor-more sums given piece next survivor is step size = record {
  size = length-append given piece ∙ omega (arith, is.size, size, steps_size-more sums.rate sums.first sums.steps);
  firsts = is.firsts;
  are_firsts = is.are_firsts;
  survivors = survivor ∷ is.survivors;
  best =
      best_more sums.rate sums.invert sums.first sums.steps survivor is.firsts given piece sums.column next
      is.survivors is.size step is.best;
}

pub IsColumn-from_sums : (sums : Summing) (given : List ℕ) → SumsFor sums given → length sums.column ≡ 64
    → IsColumn (starts_from sums.start) sums.rate sums.invert sums.first given sums.column
IsColumn-from_sums sums given is long =
    IsColumn-from_best (starts_from sums.start) sums.rate sums.invert sums.first sums.steps is.firsts given
    sums.column is.survivors long is.size is.are_firsts is.best
