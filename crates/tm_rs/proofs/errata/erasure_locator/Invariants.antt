use Rattle.std.proofs.Common.{◌≡◌, ◌+◌, ◌-◌, ◌*◌, drop, length}
use Rattle.tm_gf256.specs.Poly.{entry}
use Rattle.tm_rs_code.specs.Erasures.{count_erased, marks}
use Rattle.tm_rs.proofs.Erasures.{IsProduct}
use Rattle.tm_rs.proofs.errata.erasure_locator.Given as goal

abbrev pub invariant-loop-p : goal.invariant-loop-p
invariant-loop-p g l = record {
  product : IsProduct (entry l.coefs) l.degree (marks (drop (length l.erased - l.p) l.erased));
  counted : l.degree ≡ count_erased (drop (length l.erased - l.p) l.erased);
  room : length l.coefs ≡ 33;
  cost : 2 * l.steps ≡ 2 * l.initial.steps + l.degree * (l.degree + 1);
}
