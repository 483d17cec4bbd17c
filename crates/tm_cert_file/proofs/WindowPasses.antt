-- A window that certifies a block passes where it is due.
use Rattle.std.proofs.Common.{◌≡◌, ℕ, ◌+◌, ◌^◌, ◌<◌, ◌≤◌, true, false, Option, List, ◌++◌, length, take, sym, ap, subst, ◌∙◌, arith, take-take, length-append, All}
use Rattle.std.proofs.lemmas.Bool.{and_from, false_from_ne_true}
use Rattle.std.proofs.lemmas.Bool.Decides.{nat_tests}
use Rattle.std.proofs.lemmas.List.{length-take-le}
use Rattle.std.proofs.lemmas.List.Elements.{All-take}
use Rattle.std.specs.Cmp.Lexicographic.{bytes_decides}
use Rattle.std.specs.Prelude.{nat_eq}
use Rattle.std.specs.List.{starts_with}
use Rattle.tm_conv.specs.Path.{steps_size, path}
use Rattle.tm_conv.proofs.Sizes.{same_from_steps_size, steps_size-le, steps_size-most}
use Rattle.tm_conv.proofs.Paths.{length-path}
use Rattle.tm_conv.proofs.LeastColumns.{cost_le}
use Rattle.tm_path_cert.specs.declared.verdicts.Verdict.TheVariants.{Yes}
use Rattle.tm_path_cert.specs.declared.verdicts.Starts.{Starts}
use Rattle.tm_path_cert.specs.Claim.{is_start}
use Rattle.tm_viterbi.specs.WindowBlock.{WindowBlock}
use Rattle.tm_viterbi.specs.Blocks.{IsBlock, window_steps, kept_steps}
use Rattle.tm_cert_file.specs.declared.seen.Next.{Next}
use Rattle.tm_cert_file.specs.Window.{Window, window_octets, window_in, window_size}
use Rattle.tm_cert_file.specs.Certificate.{AreColumns, window_for}
use Rattle.tm_cert_file.specs.Before.{Rules, Before}
use Rattle.tm_cert_file.specs.Seen.{is_due, is_over, has_shape, are_bits, is_joined, claim_of, IsVerdictOn, IsJudged}
use Rattle.tm_cert_file.proofs.RoundTrip.{IsWritten, window-back, length-window_octets}
use Rattle.tm_cert_file.proofs.Stages.{shape_of, joined_of, none-from_Holds}
use Rattle.tm_cert_file.proofs.Looking.{are_bits-decides}
use Rattle.tm_cert_file.proofs.ColumnsPass.{starts_of, may_start, columns_pass, columns_wide}

-- the octets of a window that is right are judged so
judged : (rules : Rules) (before : Before) (all : List ℕ) (w : Window) → window_in rules.rate before.t all ≡ w
    → window_size rules.rate before.t w.steps ≤ length all
    → is_over before.next ≡ false → has_shape rules before.next w.steps w.kept w.start ≡ true → are_bits w.bits ≡ true
    → is_joined before w.start w.octets ≡ true
    → IsVerdictOn rules before w Yes → IsJudged rules before all Yes
unfolding shape_of joined_of
judged rules before all w back whole over shape bits joined verdict =
    let same : w ≡ window_in rules.rate before.t all = sym back in
    record {
      right = none-from_Holds rules before all (record {
        due = λ _. over;
        shape = λ _. subst (λ (v : Window). has_shape rules before.next v.steps v.kept v.start ≡ true) same shape;
        bits = λ _. subst (λ (v : Window). are_bits v.bits ≡ true) same bits;
        joined = λ _. subst (λ (v : Window). is_joined before v.start v.octets ≡ true) same joined;
      });
      whole = subst (λ (v : Window). window_size rules.rate before.t v.steps ≤ length all) same whole;
      is_verdict = subst (λ (v : Window). IsVerdictOn rules before v Yes) same verdict;
    }

-- ---- the parts

-- the steps of a window and the kept ones where `remaining` steps remain
pub record AreFew (keep ahead remaining steps kept : ℕ) : Type 0 where
  pub left : steps ≤ remaining
  pub most : steps ≤ keep + ahead
  pub within : kept ≤ steps
  pub rest : steps ≤ kept + ahead

pub are_few : (keep ahead remaining steps kept : ℕ) → steps ≡ window_steps keep ahead remaining
    → kept ≡ kept_steps keep ahead remaining → AreFew keep ahead remaining steps kept
are_few keep ahead remaining steps kept e f = grind (arith, nat_tests)

shape_right : (rules : Rules) (next : Next) (remaining steps kept start : ℕ) → 0 < rules.keep → 0 < remaining
    → steps ≡ window_steps rules.keep rules.ahead remaining → kept ≡ kept_steps rules.keep rules.ahead remaining
    → start < 64 → (is_due next ≡ true → rules.ahead < remaining) → has_shape rules next steps kept start ≡ true
shape_right rules next remaining steps kept start keeps some e f small must = grind (arith, nat_tests)

prefix_right : (octets prefix : List ℕ) (n m : ℕ) → prefix ≡ take n octets → n ≤ m → n ≤ length octets
    → starts_with nat_eq (take m octets) prefix ≡ true
prefix_right octets prefix n m is le fits =
    let long : n ≡ length prefix = sym (ap length is ∙ length-take-le n octets fits) in
    let same : prefix ≡ take (length prefix) (take m octets) = is ∙ sym (take-take n m octets le)
    ∙ ap (λ k. take k (take m octets)) long in
    (bytes_decides prefix (take (length prefix) (take m octets))).1 same

-- ---- the window of a block

-- the next window that is due, where `remaining` steps remain and these are their octets: it
-- begins where and as the one before says
pub record IsDue (rules : Rules) (before : Before) (starts : Option ℕ) (remaining : ℕ) (octets : List ℕ) : Type 0 where
  pub begins : before.starts ≡ starts_of starts
  pub whole : steps_size rules.rate before.t remaining ≤ length octets
  pub seen : ℕ
  pub few : seen ≤ rules.ahead
  pub within : seen ≤ remaining
  pub prefix : before.octets ≡ take (steps_size rules.rate before.t seen) octets
  pub none : is_over before.next ≡ true → remaining ≡ 0
  pub enough : is_due before.next ≡ true → rules.ahead < remaining

module _ (rules : Rules) (keeps : 0 < rules.keep) (small : rules.keep + rules.ahead ≤ 69632)
    (before : Before) (starts : Option ℕ) (remaining : ℕ) (octets : List ℕ)
    (are_octets : All (λ octet. octet < 256) octets)
    (due : IsDue rules before starts remaining octets) (some : 0 < remaining)
    (block : WindowBlock) (is_block : IsBlock rules.rate rules.invert rules.keep rules.ahead starts before.t remaining
    octets block)
    (columns : List (List ℕ)) (are_columns : AreColumns rules.rate rules.invert starts before.t block.steps
    (take (steps_size rules.rate before.t block.steps) octets) columns) where
  abbrev soft : List ℕ
  soft = take (steps_size rules.rate before.t block.steps) octets

  few : AreFew rules.keep rules.ahead remaining block.steps block.kept
  few = are_few rules.keep rules.ahead remaining block.steps block.kept is_block.steps is_block.kept

  long : length soft ≡ steps_size rules.rate before.t block.steps
  long =
      length-take-le (steps_size rules.rate before.t block.steps) octets
      (omega (arith, due.whole, steps_size-le rules.rate before.t block.steps remaining few.left))

  few_octets : length soft ≤ 139264
  few_octets = omega (arith, long, few.most, small, steps_size-most rules.rate before.t block.steps)

  soft_octets : All (λ octet. octet < 256) soft
  soft_octets = All-take (λ octet. octet < 256) (steps_size rules.rate before.t block.steps) octets are_octets

  metric_small : block.metric ≤ 2 ^ 30
  metric_small =
      omega (
        arith,
        is_block.metric,
        few_octets,
        cost_le (path rules.rate rules.invert before.t block.start block.bits) soft soft_octets,
      )

  pub written : IsWritten rules.rate before.t (window_for block soft columns)
  written = record {
    steps = omega (arith, few.most, small);
    kept = omega (arith, few.most, few.within, small);
    metric = omega (arith, metric_small);
    bits = same_from_steps_size rules.rate before.t (length block.bits) block.steps
        (sym (length-path rules.rate rules.invert before.t block.start block.bits) ∙ is_block.best.candidate.covers
        ∙ long);
    octets = long;
    count = are_columns.count;
    columns =
        columns_wide rules.rate rules.invert starts before.t block.steps soft columns soft_octets
        (omega (arith, few_octets)) are_columns;
  }

  begins_right : is_joined before block.start soft ≡ true
  begins_right =
      let inside : due.seen ≤ block.steps = omega (arith, due.few, due.within, is_block.steps) in
      let fits = steps_size-le rules.rate before.t due.seen remaining due.within in
      and_from (is_start before.starts block.start) (starts_with nat_eq soft before.octets)
      (ap (λ (v : Starts). is_start v block.start) due.begins ∙ may_start starts block.start
      ∙ is_block.best.candidate.start)
      (prefix_right octets before.octets (steps_size rules.rate before.t due.seen)
      (steps_size rules.rate before.t block.steps) due.prefix
      (steps_size-le rules.rate before.t due.seen block.steps inside) (omega (arith, due.whole)))

  -- it passes, whatever comes after it
  pub window_passes : (rest : List ℕ) → IsJudged rules before (window_octets (window_for block soft columns) ++ rest) Yes
  window_passes rest =
      let w = window_for block soft columns in
      judged rules before (window_octets w ++ rest) w (window-back rules.rate before.t w rest written)
      (omega (arith, length-window_octets rules.rate before.t w written, length-append (window_octets w) rest))
      (false_from_ne_true (is_over before.next) (λ over. absurd (omega (arith, some, due.none over))))
      (shape_right rules before.next remaining block.steps block.kept block.start keeps some is_block.steps
      is_block.kept is_block.best.candidate.register due.enough)
      ((are_bits-decides block.bits).1 is_block.best.candidate.each) begins_right (
        columns_pass (claim_of rules before soft) starts block.steps columns due.begins long are_columns block.start
            block.metric block.bits is_block.best is_block.metric metric_small,
        sym is_block.metric,
      )
