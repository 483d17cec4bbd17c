use Rattle.std.proofs.Common.{◌≡◌, ◌-◌, [], length, take, refl, sym, ap, ◌∙◌, arith}
use Rattle.tm_conv.specs.Path.{steps_size}
use Rattle.tm_conv.proofs.Paths.{steps_size-zero}
use Rattle.tm_viterbi.specs.Starts.{first_start}
use Rattle.tm_cert_file.specs.Before.{at_first}
use Rattle.tm_cert_file.specs.Passes.{rules_by}
use Rattle.tm_cert_file.proofs.Looking.{seen_none}
use Rattle.tm_cert_file.proofs.WindowPasses.{IsDue}
use Rattle.tm_cert_file.proofs.AllPass.{all_pass, first_starts}
use Rattle.tm_cert_file.proofs.laws.passes_law.Goals as goal

pub returns : goal.returns
returns c s octets blocks left text keeps small are_octets all certified =
    let rules = rules_by s in
    let due : IsDue rules (at_first rules) (first_start s.start) all.count octets = record {
      begins = first_starts s.start;
      whole = all.steps.whole;
      seen = 0;
      few = omega arith;
      within = omega arith;
      prefix = sym (ap (λ k. take k octets) (steps_size-zero s.rate 0));
      none = λ over. absurd cc;
      enough = λ is. absurd cc;
    } in
    let r = all_pass rules keeps small (at_first rules) (first_start s.start) all.count octets blocks text are_octets
    due all.are certified in
    let size : steps_size s.rate 0 all.count ≡ length octets - left = omega (arith, all.rest) in (
      r.windows,
      (
        record {
          before = r.to;
          rest = [];
          passed = r.passed;
          is_seen = seen_none rules r.to [] refl;
          stops = λ e. absurd (cc);
        },
        r.ended,
      ),
      r.same,
      r.kept ∙ ap (λ k. take k octets) size,
    )
