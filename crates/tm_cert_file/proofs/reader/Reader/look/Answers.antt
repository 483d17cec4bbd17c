use Rattle.std.proofs.Common.{◌∙◌, length, sym, ap, subst, arith}
use Rattle.tm_cert_file.specs.Seen.{IsSeen}
use Rattle.tm_cert_file.proofs.SeenOnce.{seen-by_reason, seen-by_verdict}
use Rattle.tm_cert_file.proofs.Stages.{Holds-from_none}
use Rattle.tm_cert_file.proofs.Looking.{Shaped-from_shape}
use Rattle.tm_cert_file.proofs.reader.Reader.look.Goals as goal

pub returns-in-Some : goal.returns-in-Some
returns-in-Some c = seen-by_reason _ _ _ c.in-Some.reason (sym c.reason.ensures ∙ c.in-Some.is)

pub ends-end-requires-clause-few : goal.ends-end-requires-clause-few
ends-end-requires-clause-few c =
    let s = c.args.self.now in
    let long = ap length (c.as_slice-held.ensures.octets ∙ ap (λ v. v.octets) c.self.view_is) in
    (Shaped-from_shape s.rules s.before s.octets
    ((Holds-from_none _ _ _ (sym c.reason.ensures ∙ c.in_default.is)).shape (omega arith))).most

pub returns : goal.returns
returns c =
    let s = c.args.self.now in
    let long = ap length (c.as_slice-held.ensures.octets ∙ ap (λ v. v.octets) c.self.view_is) in
    subst (IsSeen s.rules s.before s.octets) (sym c.seen_by.ensures)
    (seen-by_verdict s.rules s.before s.octets c.verdict.result (record {
      right = sym c.reason.ensures ∙ c.in_default.is;
      whole = omega arith;
      is_verdict = c.verdict.ensures;
    }))
