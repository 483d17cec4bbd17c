use Rattle.std.proofs.Common.{rules, ◌∙◌, length, ap, arith}
use Rattle.std.proofs.lemmas.Bool.Decides.{nat_tests}
use Rattle.tm_cert_file.specs.Seen.{is_over}
use Rattle.tm_cert_file.proofs.Stages.{open-more, Holds-from_none}
use Rattle.tm_cert_file.proofs.Looking.{Shaped-from_shape}
use Rattle.tm_cert_file.proofs.reader.Reader.goal.Goals as goal

pub returns-then-is_over-clause-more : goal.returns-then-is_over-clause-more
returns-then-is_over-clause-more c =
    let s = c.args.self.now in
    let over = ap (λ v. is_over v.before.next) c.self.view_is in
    let due = (Holds-from_none s.rules s.before s.octets c.requires.0).due in
    grind (arith, nat_tests)

pub returns-then-held-lt-HEADER-clause-open : goal.returns-then-held-lt-HEADER-clause-open
returns-then-held-lt-HEADER-clause-open c more less =
    let s = c.args.self.now in
    let long = ap length (c.as_slice-held.ensures.octets ∙ ap (λ v. v.octets) c.self.view_is) in
    let over = ap (λ v. is_over v.before.next) c.self.view_is in
    open-more s.rules s.before s.octets more 17 c.requires (search rules) less

pub ends-bits_end-requires-clause-few : goal.ends-bits_end-requires-clause-few
ends-bits_end-requires-clause-few c =
    let s = c.args.self.now in
    let long = ap length (c.as_slice-held.ensures.octets ∙ ap (λ v. v.octets) c.self.view_is) in
    (Shaped-from_shape s.rules s.before s.octets
    ((Holds-from_none s.rules s.before s.octets c.requires.0).shape (omega arith))).most

pub returns-then-held-bits_end-clause-open : goal.returns-then-held-bits_end-clause-open
returns-then-held-bits_end-clause-open c more less =
    let s = c.args.self.now in
    let long = ap length (c.as_slice-held.ensures.octets ∙ ap (λ v. v.octets) c.self.view_is) in
    let over = ap (λ v. is_over v.before.next) c.self.view_is in
    open-more s.rules s.before s.octets more c.ends-bits_end.result.0 c.requires (search rules) less

pub returns-then-held-soft_end-clause-open : goal.returns-then-held-soft_end-clause-open
returns-then-held-soft_end-clause-open c more less =
    let s = c.args.self.now in
    let long = ap length (c.as_slice-held.ensures.octets ∙ ap (λ v. v.octets) c.self.view_is) in
    let over = ap (λ v. is_over v.before.next) c.self.view_is in
    open-more s.rules s.before s.octets more c.ends-bits_end.result.1 c.requires (search rules) less

pub returns-clause-open : goal.returns-clause-open
returns-clause-open c more less =
    let s = c.args.self.now in
    let long = ap length (c.as_slice-held.ensures.octets ∙ ap (λ v. v.octets) c.self.view_is) in
    let over = ap (λ v. is_over v.before.next) c.self.view_is in
    open-more s.rules s.before s.octets more c.ends-bits_end.result.2 c.requires (search rules) less
