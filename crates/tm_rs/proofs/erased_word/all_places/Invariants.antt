use Rattle.std.proofs.Common.{◌≡◌, ◌+◌, ◌-◌, ◌*◌, drop, length}
use Rattle.tm_gf256.specs.Poly.{entry, numbers}
use Rattle.tm_rs_code.specs.Erasures.{marks}
use Rattle.tm_rs_code.specs.Pattern.{locator_of}
use Rattle.tm_rs.proofs.Products.{IsListed}
use Rattle.tm_rs.proofs.Named.{roots, with_roots}
use Rattle.tm_rs.proofs.erased_word.all_places.Given as goal

abbrev pub invariant-loop-p : goal.invariant-loop-p
invariant-loop-p g l = record {
  product : IsListed (entry l.coefs) l.degree (with_roots (numbers l.poly) (drop (length l.erased - l.p) l.erased)
      (locator_of (marks l.erased)));
  counted : l.degree ≡ l.count + roots (numbers l.poly) (drop (length l.erased - l.p) l.erased);
  room : length l.coefs ≡ 33;
  cost : 2 * l.steps + l.count * (l.count + 1) ≡ 2 * l.initial.steps + l.degree * (l.degree + 1);
}
