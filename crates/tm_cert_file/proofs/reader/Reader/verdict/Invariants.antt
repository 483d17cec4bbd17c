use Rattle.std.proofs.Common.{◌≡◌, ◌+◌, ◌*◌, ◌-◌, ◌≤◌, drop}
use Rattle.tm_path_cert.specs.Checking.{CheckStandsFor}
use Rattle.tm_cert_file.specs.Seen.{claim_of}
use Rattle.tm_cert_file.specs.Window.{steps_in, soft_in, soft_end, columns_in}
use Rattle.tm_cert_file.proofs.reader.Reader.verdict.Given as goal

abbrev pub invariant-loop-at : goal.invariant-loop-at
invariant-loop-at l = record {
  claim : l.check.claim ≡ claim_of l.self.rules l.self.before (soft_in l.self.rules.rate l.self.before.t l.self.octets);
  place : l.at ≡ soft_end l.self.rules.rate l.self.before.t (steps_in l.self.octets) + 256 * l.check.count;
  within : l.check.count ≤ steps_in l.self.octets + 1;
  stands : CheckStandsFor l.check (columns_in l.check.count
      (drop (soft_end l.self.rules.rate l.self.before.t (steps_in l.self.octets)) l.self.octets));
}

abbrev pub decreases-loop-at : goal.decreases-loop-at
decreases-loop-at l = l.end - l.at
