-- A certificate passes.
use Rattle.std.proofs.Common.{◌≡◌, ℕ, ◌+◌, ◌-◌, ◌<◌, ◌≤◌, true, false, Option, Some, List, [], ◌∷◌, ◌++◌, take, drop, map, refl, sym, ap, ◌∙◌, arith, take-take, take-add, length-drop, drop_at, All}
use Rattle.std.proofs.lemmas.Bool.{false_from_ne_true}
use Rattle.std.proofs.lemmas.Bool.Decides.{nat_tests}
use Rattle.std.proofs.Math.Path.{transport}
use Rattle.std.proofs.lemmas.List.{drop-take}
use Rattle.std.proofs.lemmas.List.Elements.{All-drop}
use Rattle.tm_conv.specs.Path.{steps_size}
use Rattle.tm_conv.proofs.Paths.{steps_size-zero}
use Rattle.tm_path_cert.specs.declared.verdicts.Starts.TheVariants.{One}
use Rattle.tm_viterbi.specs.declared.block.Start.{Start}
use Rattle.tm_viterbi.specs.declared.block.Start.TheVariants.{Zero, Any}
use Rattle.tm_viterbi.specs.Starts.{first_start}
use Rattle.tm_viterbi.specs.WindowBlock.{WindowBlock}
use Rattle.tm_viterbi.specs.Blocks.{IsBlock, AreBlocks, window_steps, kept_steps}
use Rattle.tm_cert_file.specs.Window.{Window, window_octets, window_size}
use Rattle.tm_cert_file.specs.Certificate.{AreCertified, window_for}
use Rattle.tm_cert_file.specs.Before.{Rules, Before, after_window, next_after}
use Rattle.tm_cert_file.specs.Seen.{is_due, is_over}
use Rattle.tm_cert_file.specs.File.{ArePassed, all_kept}
use Rattle.tm_cert_file.specs.Passes.{starts_by, block_of}
use Rattle.tm_cert_file.proofs.Spans.{steps_size-rest}
use Rattle.tm_cert_file.proofs.RoundTrip.{window-back, length-window_octets}
use Rattle.tm_cert_file.proofs.ColumnsPass.{starts_of}
use Rattle.tm_cert_file.proofs.WindowPasses.{are_few, IsDue, written, window_passes}
use Rattle.tm_conv.proofs.Sizes.{steps_size-le}

-- ---- the next window

-- what comes after it
record MayFollow (rules : Rules) (remaining steps kept : ℕ) : Type 0 where
  none : is_over (next_after rules steps kept) ≡ true → remaining - kept ≡ 0
  enough : is_due (next_after rules steps kept) ≡ true → rules.ahead < remaining - kept

may_follow : (rules : Rules) (remaining steps kept : ℕ) → steps ≡ window_steps rules.keep rules.ahead remaining
    → kept ≡ kept_steps rules.keep rules.ahead remaining → MayFollow rules remaining steps kept
may_follow rules remaining steps kept e f = grind (arith, nat_tests)

due_after : (rules : Rules) (before : Before) (starts : Option ℕ) (remaining : ℕ) (octets : List ℕ)
    (block : WindowBlock) (columns : List (List ℕ))
    → IsDue rules before starts remaining octets
    → IsBlock rules.rate rules.invert rules.keep rules.ahead starts before.t remaining octets block
    → IsDue rules (after_window rules before (window_for block
    (take (steps_size rules.rate before.t block.steps) octets) columns)) (Some block.end_state)
    (remaining - block.kept)
    (drop (steps_size rules.rate before.t block.kept) octets)
due_after rules before starts remaining octets block columns due is =
    let rate = rules.rate in
    let t = before.t in
    let size = steps_size rate t block.kept in
    let seen = block.steps - block.kept in
    let few = are_few rules.keep rules.ahead remaining block.steps block.kept is.steps is.kept in
    let follow = may_follow rules remaining block.steps block.kept is.steps is.kept in
    let rest = steps_size-rest rate t block.kept remaining (omega (arith, few.within, few.left)) in
    let part = steps_size-rest rate t block.kept block.steps few.within in
    record {
      begins = ap (λ (v : ℕ). One v) (sym is.end_state);
      whole = omega (arith, due.whole, rest, length-drop size octets);
      seen = seen;
      few = omega (arith, few.rest);
      within = omega (arith, few.left);
      prefix = ap (λ k. drop size (take k octets)) part ∙ drop-take size (steps_size rate (t + block.kept) seen) octets;
      none = follow.none;
      enough = follow.enough;
    }

-- ---- all windows

-- the octets are read as windows of these blocks, and no window is missing after them
pub record AreRead (rules : Rules) (before : Before) (remaining : ℕ) (octets : List ℕ) (blocks : List WindowBlock)
    (text : List ℕ) : Type 0 where
  pub windows : List Window
  pub to : Before
  pub passed : ArePassed rules before text windows to []
  pub ended : is_due to.next ≡ false
  pub same : map block_of windows ≡ blocks
  pub kept : all_kept rules.rate before.t windows ≡ take (steps_size rules.rate before.t remaining) octets

module _ (rules : Rules) (keeps : 0 < rules.keep) (small : rules.keep + rules.ahead ≤ 69632) where
  pub all_pass : (before : Before) (starts : Option ℕ) (remaining : ℕ) (octets : List ℕ) (blocks : List WindowBlock)
      (text : List ℕ) → All (λ octet. octet < 256) octets
      → IsDue rules before starts remaining octets → AreBlocks rules.rate rules.invert rules.keep rules.ahead starts
      before.t remaining octets blocks
      → AreCertified rules.rate rules.invert starts before.t octets blocks text
      → AreRead rules before remaining octets blocks text
  all_pass before starts remaining octets [] text are_octets due are certified = record {
    windows = [];
    to = before;
    passed = (refl, sym certified);
    ended = false_from_ne_true (is_due before.next) (λ is. absurd (omega (arith, are, due.enough is)));
    same = refl;
    kept = sym (λ i. take ((ap (steps_size rules.rate before.t) are ∙ steps_size-zero rules.rate before.t) i) octets);
  }
  all_pass before starts remaining octets (block ∷ blocks) text are_octets due are certified =
      let rate = rules.rate in
      let t = before.t in
      let soft = take (steps_size rate t block.steps) octets in
      let rest = certified.1 in
      let w = window_for block soft certified.2.columns in
      let size = steps_size rate t block.kept in
      let few = are_few rules.keep rules.ahead remaining block.steps block.kept are.1.steps are.1.kept in
      let is_written = written rules keeps small before starts remaining octets are_octets due are.0 block are.1
      certified.2.columns certified.2.are_columns in
      let passes = window_passes rules keeps small before starts remaining octets are_octets due are.0 block are.1
      certified.2.columns certified.2.are_columns rest in
      let others = all_pass (after_window rules before w) (Some block.end_state) (remaining - block.kept)
      (drop size octets) blocks rest (All-drop (λ octet. octet < 256) size octets are_octets)
      (due_after rules before starts remaining octets block certified.2.columns due are.1) are.2 certified.3 in
      let whole : text ≡ window_octets w ++ rest = certified.4 ∙ ap (λ v. v ++ rest) certified.2.is_text in
      let after_it = drop_at (window_octets w) rest (window_size rate t block.steps)
      (length-window_octets rate t w is_written) in
      record {
        windows = w ∷ others.windows;
        to = others.to;
        passed = transport (λ i. ArePassed rules before (sym whole i) (w ∷ others.windows) others.to []) (
          passes,
          sym (window-back rate t w rest is_written),
          transport (λ i. ArePassed rules
              (after_window rules before w) (sym after_it i) others.windows others.to []) others.passed,
        );
        ended = others.ended;
        same = λ i. record {
          start = block.start;
          steps = block.steps;
          kept = block.kept;
          metric = block.metric;
          bits = block.bits;
          end_state = sym are.1.end_state i;
          dropped = sym are.1.dropped i;
        } ∷ others.same i;
        kept = (λ i. take-take size (steps_size rate t block.steps) octets
            (steps_size-le rate t block.kept block.steps few.within) i ++ others.kept i)
            ∙ sym (take-add size (steps_size rate (t + block.kept) (remaining - block.kept)) octets)
            ∙ ap (λ k. take k octets) (sym (steps_size-rest rate t block.kept remaining
            (omega (arith, few.within, few.left))));
      }

pub first_starts : (start : Start) → starts_by start ≡ starts_of (first_start start)
first_starts Zero = refl
first_starts Any = refl
