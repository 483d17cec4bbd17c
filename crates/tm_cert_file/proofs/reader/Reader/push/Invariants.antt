use Rattle.std.proofs.Common.{◌≡◌, ℕ, ◌++◌, ◌-◌, ◌<◌, ◌≤◌, length, take}
use Rattle.tm_cert_file.specs.declared.seen.Seen.TheVariants.{More}
use Rattle.tm_cert_file.specs.Reading.{IsOpen}
use Rattle.tm_cert_file.specs.Seen.{IsSeen}
use Rattle.tm_cert_file.proofs.reader.Reader.push.Given as goal

abbrev pub invariant-loop-taken : goal.invariant-loop-taken
invariant-loop-taken l = record {
  within : l.taken ≤ length l.piece;
  rules : l.self.rules ≡ l.initial.self.rules;
  before : l.self.before ≡ l.initial.self.before;
  octets : l.self.octets ≡ l.initial.self.octets ++ take l.taken l.piece;
  seen : IsOpen l.self;
  first : (count : ℕ) → count < l.taken → IsSeen l.initial.self.rules l.initial.self.before
      (l.initial.self.octets ++ take count l.piece) More;
}

abbrev pub decreases-loop-taken : goal.decreases-loop-taken
decreases-loop-taken l = length l.piece - l.taken
