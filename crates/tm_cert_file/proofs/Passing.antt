-- Windows that pass, one after the other.
use Rattle.std.proofs.Common.{◌≡◌, ◌≤◌, List, [], ◌∷◌, ◌++◌, ℕ, length, drop, refl, sym, subst, ap, ◌∙◌, arith}
use Rattle.std.proofs.lemmas.List.{length-append, drop-append-le}
use Rattle.tm_conv.specs.Path.{steps_size}
use Rattle.tm_path_cert.specs.declared.verdicts.Verdict.{Verdict}
use Rattle.tm_cert_file.specs.declared.seen.Seen.TheVariants.{Passed}
use Rattle.tm_cert_file.specs.Window.{Window, window_in, window_size, steps_in}
use Rattle.tm_cert_file.specs.Before.{Rules, Before, after_window}
use Rattle.tm_cert_file.specs.Seen.{IsSeen, IsJudged, IsVerdictOn}
use Rattle.tm_cert_file.specs.File.{ArePassed}
use Rattle.tm_cert_file.proofs.Prefixes.{steps_in-prefix, window_in-prefix}
use Rattle.tm_cert_file.proofs.Stages.{no_reason-more}

-- what is seen of a whole window is seen of it whatever octets come after it
pub judged-more : (rules : Rules) (before : Before) (octets more : List ℕ) (verdict : Verdict)
    → IsJudged rules before octets verdict → IsJudged rules before (octets ++ more) verdict
judged-more rules before octets more verdict judged =
    let whole = judged.whole in
    let same = steps_in-prefix octets more (omega arith) in
    record {
      right = no_reason-more rules before octets more judged.right (omega arith);
      whole = omega (arith, length-append octets more, same, ap (steps_size rules.rate before.t) same, whole);
      is_verdict =
          subst (λ (w : Window). IsVerdictOn rules before w verdict)
          (sym (window_in-prefix rules.rate before.t octets more whole)) judged.is_verdict;
    }

-- with more octets after them
pub passed-more : (rules : Rules) (from to : Before) (octets rest more : List ℕ) (windows : List Window)
    → ArePassed rules from octets windows to rest → ArePassed rules from (octets ++ more) windows to (rest ++ more)
passed-more rules from to octets rest more [] are = (are.0, ap (λ v. v ++ more) are.1)
passed-more rules from to octets rest more (w ∷ windows) are =
    let judged : IsJudged rules from octets _ = are.0 in
    let whole = judged.whole in
    let size = window_size rules.rate from.t w.steps in
    let steps : w.steps ≡ steps_in octets = ap (λ (v : Window). v.steps) are.1 in
    let fits : size ≤ length octets = omega (arith, steps, ap (steps_size rules.rate from.t) steps, whole) in
    let later : ArePassed rules (after_window rules from w) (drop size octets ++ more) windows to (rest ++ more)
    = passed-more rules (after_window rules from w) to (drop size octets) rest more windows are.2 in (
      judged-more rules from octets more _ judged,
      are.1 ∙ sym (window_in-prefix rules.rate from.t octets more whole),
      subst (λ (v : List ℕ). ArePassed rules (after_window rules from w) v windows to (rest ++ more))
          (sym (drop-append-le size octets more fits)) later,
    )

-- with one more that passes
pub passed-push : (rules : Rules) (from to : Before) (octets rest : List ℕ) (windows : List Window)
    → ArePassed rules from octets windows to rest → IsSeen rules to rest Passed
    → ArePassed rules from octets (windows ++ window_in rules.rate to.t rest ∷ [])
    (after_window rules to (window_in rules.rate to.t rest))
    (drop (window_size rules.rate to.t (steps_in rest)) rest)
passed-push rules from to octets rest [] are seen =
    let P : Before → List ℕ → Type 0 = λ b o. IsSeen rules b o Passed
    → ArePassed rules from octets (window_in rules.rate b.t o ∷ [])
    (after_window rules b (window_in rules.rate b.t o)) (drop (window_size rules.rate b.t (steps_in o)) o) in
    let at : P from octets = λ s. (s, refl, (refl, refl)) in
    let moved : P to octets = subst (λ (b : Before). P b octets) (sym are.0) at in
    subst (P to) (sym are.1) moved seen
passed-push rules from to octets rest (w ∷ windows) are seen = (
  are.0,
  are.1,
  passed-push rules (after_window rules from w) to
      (drop (window_size rules.rate from.t w.steps) octets) rest windows are.2 seen,
)
