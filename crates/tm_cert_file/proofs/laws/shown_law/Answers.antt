use Rattle.std.proofs.Common.{◌≡◌, ℕ, ◌+◌, sym, subst, arith}
use Rattle.std.proofs.Math.Path.{transport}
use Rattle.tm_conv.specs.declared.rates.Rate.{Rate}
use Rattle.tm_conv.specs.Path.{steps_size}
use Rattle.tm_conv.proofs.Sizes.{step_size_pos}
use Rattle.tm_conv.proofs.Paths.{steps_size-more}
use Rattle.tm_viterbi.specs.Starts.{first_start}
use Rattle.tm_viterbi.specs.Blocks.{AreSteps, AreBlocks}
use Rattle.tm_cert_file.specs.Before.{at_first}
use Rattle.tm_cert_file.proofs.ShownWindows.{steps_kept, show_all, none_due, one_count, same_from}
use Rattle.tm_cert_file.proofs.laws.shown_law.Goals as goal

pub returns-clause-shown : goal.returns-clause-shown
returns-clause-shown c rules octets windows whole =
    let read = whole.0 in
    let count : ℕ = steps_kept windows in
    let h = show_all c.verdict_law.ensures.least rules (at_first rules) read.before octets read.rest windows
    (none_due read.before.next read.rest whole.1) read.passed in
    record {
      count = count;
      steps = record {
        whole = omega (arith, h.size);
        most = omega (arith, h.size, steps_size-more rules.rate 0 count, step_size_pos rules.rate (0 + count));
      };
      are = h.shown;
      none_left = h.size;
    }

pub returns-clause-steps : goal.returns-clause-steps
returns-clause-steps c s rules octets windows blocks left rate keep ahead shown all =
    let count : shown.count ≡ all.count = one_count s.rate 0 shown.count all.count octets
    (subst (λ (r : Rate). AreSteps r 0 octets shown.count) (sym rate) shown.steps) all.steps in
    let same = same_from rules rules.starts s.invert (first_start s.start) 0 shown.count octets windows blocks shown.are
    (transport (λ i. AreBlocks (rate i) s.invert (keep i) (ahead i) (first_start s.start) 0 (sym count i) octets blocks)
    all.are) in
    let whole : steps_size s.rate 0 all.count ≡ steps_size rules.rate 0 shown.count
    = λ i. steps_size (rate i) 0 (sym count i) in
    (same.0, same.1, omega (arith, shown.none_left, all.rest))
