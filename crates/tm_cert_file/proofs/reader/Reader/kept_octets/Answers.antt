use Rattle.std.proofs.Common.{rules, ◌≡◌, ◌+◌, ◌≤◌, length, sym, ap, ◌∙◌, arith, drop}
use Rattle.std.proofs.lemmas.List.{take-take}
use Rattle.tm_conv.specs.Path.{steps_size}
use Rattle.tm_cert_file.specs.Window.{steps_in, kept_in, bits_end}
use Rattle.tm_cert_file.proofs.Looking.{passed_shape, passed_kept, same_part}
use Rattle.tm_cert_file.proofs.reader.Reader.kept_octets.Goals as goal
use Rattle.tm_cert_file.proofs.reader.Reader.kept_octets.Goals.{After-span-size}

pub ends-first-requires-clause-few : goal.ends-first-requires-clause-few
ends-first-requires-clause-few c = (passed_shape c.args.self.now c.requires).most

size_is : (c : After-span-size) → c.span-size.result ≡ steps_size c.args.self.now.rules.rate c.args.self.now.before.t
    (kept_in c.args.self.now.octets)
size_is c = c.span-size.ensures
    ∙ (λ i. steps_size (c.self.view_is i).rules.rate (c.self.view_is i).before.t ((c.from.ensures ∙ c.kept.ensures) i))

pub overflow_add-result : goal.overflow_add-result
overflow_add-result c =
    let s = c.args.self.now in
    let size = size_is (goal.at.overflow_add-result c).After-span-size in
    record {
      fits = omega (
        arith,
        size,
        passed_kept s c.requires,
        c.self.invariant,
        ap (λ v. v.rules.keep) c.self.view_is,
        ap (λ v. v.rules.ahead) c.self.view_is,
      );
    }

pub slice_bounds-result-end : goal.slice_bounds-result-end
slice_bounds-result-end c =
    let s = c.args.self.now in
    let long = ap length (c.as_slice.ensures.octets ∙ ap (λ v. v.octets) c.self.view_is) in
    let size = size_is (goal.at.slice_bounds-result-end c).After-span-size in
    let fits : c.ends-first.result.0 + c.span-size.result ≤ length c.as_slice.result.now =
    omega (arith, long, c.requires.just, size, passed_kept s c.requires) in
    search rules

pub returns : goal.returns
returns c =
    let s = c.args.self.now in
    let same = c.as_slice.ensures.octets ∙ ap (λ v. v.octets) c.self.view_is in
    let size = size_is (goal.at.returns c).After-span-size in
    same_part c.as_slice.result.now s.octets _ _ _ (steps_size s.rules.rate s.before.t (kept_in s.octets)) same
    c.ends-first.ensures.bits (omega (arith, size))
    ∙ sym (take-take (steps_size s.rules.rate s.before.t (kept_in s.octets))
    (steps_size s.rules.rate s.before.t (steps_in s.octets)) (drop (bits_end (steps_in s.octets)) s.octets)
    (passed_kept s c.requires))
