use Rattle.std.proofs.Common.{◌++◌, length, suc, sym, ap, ◌∙◌, arith, append-nil}
use Rattle.std.proofs.Math.Path.{transport}
use Rattle.tm_cert_file.specs.Before.{at_first}
use Rattle.tm_cert_file.specs.Seen.{IsSeen}
use Rattle.tm_cert_file.proofs.Passing.{passed-more}
use Rattle.tm_cert_file.proofs.SeenOnce.{one-seen, failed-longer}
use Rattle.tm_cert_file.proofs.ReadFile.{read-within, prefix-of, no-others}
use Rattle.tm_cert_file.proofs.laws.read_law.Goals as goal

pub returns-clause-exists : goal.returns-clause-exists
returns-clause-exists c rules octets =
    let read = read-within c.verdict_law.ensures.exists (suc (length octets)) rules (at_first rules) octets
    (omega arith) in (
      read.windows,
      read.seen,
      record { before = read.to; rest = read.rest; passed = read.passed; is_seen = read.is_seen; stops = read.stops },
    )

pub returns-clause-one : goal.returns-clause-one
returns-clause-one c rules octets windows others seen other read again =
    let one = c.verdict_law.ensures.one in
    let prefix = prefix-of one rules (at_first rules) read.before again.before octets read.rest again.rest windows
    others other read.passed again.passed again.is_seen again.stops in
    let none = no-others one rules read.before again.before read.rest again.rest prefix.0 seen prefix.2
    read.is_seen read.stops in (
      sym (prefix.1 ∙ ap (λ v. windows ++ v) none.0 ∙ append-nil windows),
      one-seen one rules again.before again.rest seen other
          (transport (λ i. IsSeen rules (none.1 i) (none.2 i) seen) read.is_seen) again.is_seen,
      none.1,
      none.2,
    )

pub returns-clause-longer : goal.returns-clause-longer
returns-clause-longer c rules octets more windows all seen last read longer =
    let prefix = prefix-of c.verdict_law.ensures.one rules (at_first rules) read.before longer.before (octets ++ more)
    (read.rest ++ more) longer.rest windows all last
    (passed-more rules (at_first rules) read.before octets read.rest more windows read.passed) longer.passed
    longer.is_seen longer.stops in
    (prefix.0, prefix.1)

pub returns-clause-stays : goal.returns-clause-stays
returns-clause-stays c rules octets more windows reason read = record {
  before = read.before;
  rest = read.rest ++ more;
  passed = passed-more rules (at_first rules) read.before octets read.rest more windows read.passed;
  is_seen = failed-longer rules read.before read.rest more reason read.is_seen;
  stops = read.stops;
}
