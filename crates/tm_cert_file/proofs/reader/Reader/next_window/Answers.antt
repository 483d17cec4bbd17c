use Rattle.std.proofs.Common.{rules, ◌≡◌, ◌+◌, ◌-◌, ◌≤◌, ◌++◌, length, get_or, take, drop, refl, sym, ap, subst, ◌∙◌, arith}
use Rattle.std.proofs.lemmas.List.{take-take, take_all, length-take-le, length-drop}
use Rattle.tm_conv.specs.Path.{AreBits, steps_size, register_after}
use Rattle.tm_path_cert.specs.declared.verdicts.Starts.TheVariants.{One}
use Rattle.tm_cert_file.specs.Window.{steps_in, kept_in, bits_in, soft_in}
use Rattle.tm_cert_file.specs.Before.{next_after}
use Rattle.tm_cert_file.proofs.Spans.{steps_size-rest}
use Rattle.tm_cert_file.proofs.Looking.{passed_shape, passed_kept, passed_bits, same_part, seen_none}
use Rattle.tm_cert_file.proofs.Pushing.{rest_of, stands_advanced}
use Rattle.tm_cert_file.proofs.reader.Reader.next_window.Goals as goal
use Rattle.tm_cert_file.proofs.reader.Reader.next_window.Goals.{After-as_slice-held}
use Rattle.tm_conv.proofs.Sizes.{steps_size-most}

pub ends-bits_end-requires-clause-few : goal.ends-bits_end-requires-clause-few
ends-bits_end-requires-clause-few c = (passed_shape c.args.self.now c.requires).most

pub overflow_add-first : goal.overflow_add-first
overflow_add-first c =
    let size = steps_size-most c.self.inside.rate c.self.inside.t c.from.result in
    record { fits = omega (arith, c.self.invariant, ap (λ v. v.rules.keep) c.self.view_is, ap (λ v. v.rules.ahead) c.self.view_is) }

-- ---- what is known once all was read

module _ (c : After-as_slice-held) where
  same : c.as_slice-held.result.now ≡ c.args.self.now.octets
  same = c.as_slice-held.ensures.octets ∙ ap (λ v. v.octets) c.self.view_is

  -- the kept soft octets end here
  first : 17 + steps_in c.args.self.now.octets + steps_size c.args.self.now.rules.rate c.args.self.now.before.t (kept_in c.args.self.now.octets) ≡ c.ends-bits_end.result.0 + c.span.result
  first = sym (λ i. c.ends-bits_end.ensures.bits i + (c.span.ensures ∙ (λ i. steps_size (c.self.view_is i).rules.rate (c.self.view_is i).before.t ((c.from.ensures ∙ c.kept-kept.ensures) i))) i)

  within : c.ends-bits_end.result.0 + c.span.result ≤ c.ends-bits_end.result.1
  within = omega (arith, first, passed_kept c.args.self.now c.requires)

  there : c.ends-bits_end.result.1 ≤ length c.as_slice-held.result.now
  there = omega (arith, ap length same, c.requires.just)

  kept_bits : take (17 + c.kept-kept.result - 17) (drop 17 c.as_slice-held.result.now)
      ≡ take (kept_in c.args.self.now.octets) (bits_in c.args.self.now.octets)
  kept_bits =
      same_part c.as_slice-held.result.now _ 17 17 _ (kept_in c.args.self.now.octets) same refl
      (omega (arith, c.kept-kept.ensures))
      ∙ sym (take-take (kept_in c.args.self.now.octets) (steps_in c.args.self.now.octets) (drop 17 c.args.self.now.octets)
      (passed_shape c.args.self.now c.requires).kept_within)

pub slice_bounds-fill-count : goal.slice_bounds-fill-count
slice_bounds-fill-count c = within (goal.at.slice_bounds-fill-count c).After-as_slice-held

pub overflow_sub-soft_end : goal.overflow_sub-soft_end
overflow_sub-soft_end c = within (goal.at.overflow_sub-soft_end c).After-as_slice-held

pub slice_bounds-fill-start : goal.slice_bounds-fill-start
slice_bounds-fill-start c =
    let at = (goal.at.slice_bounds-fill-start c).After-as_slice-held in
    let starts = within at in
    let fits = there at in
    search rules

pub slice_bounds-register_after-end : goal.slice_bounds-register_after-end
slice_bounds-register_after-end c =
    let s = c.args.self.now in
    let at = (goal.at.slice_bounds-register_after-end c).After-as_slice-held in
    let fits : 17 + c.kept-kept.result ≤ length c.as_slice-held.result.now
    = omega (arith, there at, (passed_shape s c.requires).kept_within, c.kept-kept.ensures) in
    search rules

pub register_after-register-requires-clause-register : goal.register_after-register-requires-clause-register
register_after-register-requires-clause-register c =
    let at = (goal.at.register_after-register-requires-clause-register c).After-as_slice-held in
    omega (arith, ap (λ v. get_or v 8 0) (same at), (passed_shape c.args.self.now c.requires).register)

pub register_after-register-requires-clause-bits : goal.register_after-register-requires-clause-bits
register_after-register-requires-clause-bits c =
    subst AreBits (sym (kept_bits (goal.at.register_after-register-requires-clause-bits c).After-as_slice-held))
    (passed_bits c.args.self.now c.requires)

pub returns-clause-open : goal.returns-clause-open
returns-clause-open c =
    seen_none _ _ c.clear-2.new.self.octets c.clear-2.ensures.octets

pub returns-clause-before : goal.returns-clause-before
returns-clause-before c few =
    let s = c.args.self.now in
    let at = (goal.at.returns-clause-before c).After-as_slice-held in
    let shaped = passed_shape s c.requires in
    let kept = steps_size s.rules.rate s.before.t (kept_in s.octets) in
    let part = take (c.ends-bits_end.result.1 - (c.ends-bits_end.result.0 + c.span.result))
    (drop (c.ends-bits_end.result.0 + c.span.result) c.as_slice-held.result.now) in
    let tail_is : part ≡ drop kept (soft_in s.rules.rate s.before.t s.octets) =
    same_part c.as_slice-held.result.now s.octets _ _ _ _ (same at) (sym (first at)) refl
    ∙ rest_of (17 + steps_in s.octets) kept (steps_size s.rules.rate s.before.t (steps_in s.octets)) _ s.octets
    (passed_kept s c.requires) (omega (arith, first at)) in
    let long = length-take-le (c.ends-bits_end.result.1 - (c.ends-bits_end.result.0 + c.span.result))
    (drop (c.ends-bits_end.result.0 + c.span.result) c.as_slice-held.result.now)
    (omega (arith, there at, length-drop (c.ends-bits_end.result.0 + c.span.result) c.as_slice-held.result.now)) in
    let all : length part ≤ c.fill.result = omega (
      arith,
      long,
      first at,
      steps_size-rest s.rules.rate s.before.t (kept_in s.octets) (steps_in s.octets) shaped.kept_within,
      steps_size-most s.rules.rate (s.before.t + kept_in s.octets) (steps_in s.octets - kept_in s.octets),
      shaped.rest,
      ap (λ v. v.rules.ahead) c.self.view_is,
      ap length c.clear.ensures.octets,
    ) in
    let tail = c.fill.ensures.octets ∙ (λ i. c.clear.ensures.octets i ++ take_all c.fill.result part all i) ∙ tail_is in
    let register = c.register_after-register.ensures.value ∙ (λ i. register_after (get_or (same at i) 8 0) (kept_bits at i)) in
    let next = c.next_after-self-inside.ensures s.rules (sym (ap (λ v. v.rules.keep) c.self.view_is))
    (sym (ap (λ v. v.rules.ahead) c.self.view_is))
    ∙ (λ i. next_after s.rules (c.steps-steps.ensures i) (c.kept-kept.ensures i)) in
    let later : c.min-self-inside.result ≡ s.before.t + kept_in s.octets =
    omega (arith, ap (λ v. v.before.t) c.self.view_is, few) in
    λ i. record { t = later i; starts = One (register i); octets = tail i; next = next i }

pub returns-clause-stands : goal.returns-clause-stands
returns-clause-stands c given windows few are =
    let s = c.args.self.now in
    stands_advanced s.rules _ s.before _ s.octets c.clear-2.new.self.octets (ap (λ v. v.rules) c.self.view_is)
    (returns-clause-before c few) c.clear-2.ensures.octets
    c.requires.just c.requires.passed given windows are
