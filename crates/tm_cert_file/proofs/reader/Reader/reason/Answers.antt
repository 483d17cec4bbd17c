use Rattle.std.proofs.Common.{◌≡◌, ◌-◌, ◌∙◌, length, drop, get_or, sym, refl, ap, arith}
use Rattle.std.proofs.lemmas.Bool.Decides.{nat_tests}
use Rattle.std.proofs.lemmas.List.{take_rest}
use Rattle.std.specs.Int.{w32, from_be_bytes}
use Rattle.tm_conv.specs.Path.{steps_size}
use Rattle.tm_cert_file.specs.Window.{steps_in, kept_in, bits_in}
use Rattle.tm_cert_file.specs.Seen.{reason_in, is_over, has_shape, are_bits, is_joined}
use Rattle.tm_cert_file.proofs.Stages.{shape_of, joined_of, first_of, in_turn, no_octets}
use Rattle.tm_cert_file.proofs.Looking.{Shaped-from_shape, same_part}
use Rattle.tm_cert_file.proofs.reader.Reader.reason.Goals as goal
use Rattle.tm_cert_file.proofs.reader.Reader.reason.Goals.{After-has_shape, After-are_bits, After-is_joined}

-- ---- what is known of the octets

-- of the numbers of the window
shape : (c : After-has_shape) → c.has_shape.result ≡ shape_of c.args.self.now.rules c.args.self.now.before
    c.args.self.now.octets
unfolding shape_of
shape c =
    let s = c.args.self.now in
    let same = c.as_slice-held.ensures.octets ∙ ap (λ v. v.octets) c.self.view_is in
    let next = ap (λ v. v.before.next) c.self.view_is in
    let steps : c.read_u32-steps.result ≡ steps_in s.octets = c.read_u32-steps.ensures ∙ ap steps_in same in
    let kept : c.read_u32.result ≡ kept_in s.octets = c.read_u32.ensures ∙ ap (from_be_bytes w32)
    (take_rest c.as_slice-held.result.now 4 ∙ ap (drop 4) same) in
    c.has_shape.ensures s.rules (sym (ap (λ v. v.rules.keep) c.self.view_is))
    (sym (ap (λ v. v.rules.ahead) c.self.view_is))
    ∙ (λ i. has_shape s.rules (next i) (steps i) (kept i) (get_or (same i) 8 0))

-- and all of it
record Told (c : After-has_shape) : Type 0 where
  number : length c.as_slice-held.result.now ≡ length c.args.self.now.octets
  over : c.is_over.result ≡ is_over c.args.self.now.before.next
  shape_is : c.has_shape.result ≡ shape_of c.args.self.now.rules c.args.self.now.before c.args.self.now.octets
  turn : reason_in c.args.self.now.rules c.args.self.now.before c.args.self.now.octets
      ≡ first_of c.args.self.now.rules c.args.self.now.before c.args.self.now.octets

told : (c : After-has_shape) → Told c
told c =
    let long = ap length (c.as_slice-held.ensures.octets ∙ ap (λ v. v.octets) c.self.view_is) in
    record {
      number = long;
      over = c.is_over.ensures ∙ ap (λ v. is_over v.before.next) c.self.view_is;
      shape_is = shape c;
      turn = in_turn _ _ c.args.self.now.octets (omega arith);
    }

-- of its bits
bits : (c : After-are_bits) → c.are_bits.result ≡ are_bits (bits_in c.args.self.now.octets)
bits c =
    let same = c.as_slice-held.ensures.octets ∙ ap (λ v. v.octets) c.self.view_is in
    c.are_bits.ensures ∙ ap are_bits (same_part c.as_slice-held.result.now c.args.self.now.octets 17 17
    (c.ends-bits_end.result.0 - 17) (steps_in c.args.self.now.octets) same refl (omega arith))

-- of its joint
joint : (c : After-is_joined) → c.is_joined.result ≡ joined_of c.args.self.now.rules c.args.self.now.before
    c.args.self.now.octets
unfolding joined_of
joint c =
    let s = c.args.self.now in
    let same = c.as_slice-held.ensures.octets ∙ ap (λ v. v.octets) c.self.view_is in
    let tail = c.as_slice-tail.ensures.octets ∙ ap (λ v. v.before.octets) c.self.view_is in
    let soft = same_part c.as_slice-held.result.now s.octets _ _ _ (steps_size s.rules.rate s.before.t (steps_in s.octets)) same c.ends-bits_end.ensures.bits (omega arith) in
    c.is_joined.ensures s.before (sym (ap (λ v. v.before.starts) c.self.view_is)) (sym tail)
    ∙ (λ i. is_joined s.before (get_or (same i) 8 0) (soft i))

-- ---- the answers

pub returns-then-is_empty : goal.returns-then-is_empty
returns-then-is_empty c =
    let long = ap length (c.as_slice-held.ensures.octets ∙ ap (λ v. v.octets) c.self.view_is) in
    sym (no_octets _ _ c.args.self.now.octets (grind (arith, nat_tests)))

pub returns-then-is_over : goal.returns-then-is_over
returns-then-is_over c =
    let long = ap length (c.as_slice-held.ensures.octets ∙ ap (λ v. v.octets) c.self.view_is) in
    let over = ap (λ v. is_over v.before.next) c.self.view_is in
    let e = in_turn c.args.self.now.rules c.args.self.now.before c.args.self.now.octets (grind (arith, nat_tests)) in
    grind (arith, nat_tests)

pub returns-then-held-lt-HEADER : goal.returns-then-held-lt-HEADER
returns-then-held-lt-HEADER c =
    let long = ap length (c.as_slice-held.ensures.octets ∙ ap (λ v. v.octets) c.self.view_is) in
    let over = ap (λ v. is_over v.before.next) c.self.view_is in
    let e = in_turn c.args.self.now.rules c.args.self.now.before c.args.self.now.octets (grind (arith, nat_tests)) in
    grind (arith, nat_tests)

pub ends-bits_end-requires-clause-few : goal.ends-bits_end-requires-clause-few
ends-bits_end-requires-clause-few c =
    (Shaped-from_shape _ _ c.args.self.now.octets
    (sym (shape (goal.at.ends-bits_end-requires-clause-few c).After-has_shape) ∙ c.if-not-has_shape.false)).most

pub returns-then-not-has_shape : goal.returns-then-not-has_shape
returns-then-not-has_shape c =
    let known = told (goal.at.returns-then-not-has_shape c).After-has_shape in
    grind (arith, nat_tests)

pub returns-then-held-bits_end : goal.returns-then-held-bits_end
returns-then-held-bits_end c =
    let known = told (goal.at.returns-then-held-bits_end c).After-has_shape in
    grind (arith, nat_tests)

pub returns-then-not-are_bits : goal.returns-then-not-are_bits
returns-then-not-are_bits c =
    let known = told (goal.at.returns-then-not-are_bits c).After-has_shape in
    let its_bits = bits (goal.at.returns-then-not-are_bits c).After-are_bits in
    grind (arith, nat_tests)

pub returns-then-held-soft_end : goal.returns-then-held-soft_end
returns-then-held-soft_end c =
    let known = told (goal.at.returns-then-held-soft_end c).After-has_shape in
    let its_bits = bits (goal.at.returns-then-held-soft_end c).After-are_bits in
    grind (arith, nat_tests)

pub returns-then-not-is_joined : goal.returns-then-not-is_joined
returns-then-not-is_joined c =
    let known = told (goal.at.returns-then-not-is_joined c).After-has_shape in
    let its_bits = bits (goal.at.returns-then-not-is_joined c).After-are_bits in
    let its_joint = joint (goal.at.returns-then-not-is_joined c).After-is_joined in
    grind (arith, nat_tests)

pub returns : goal.returns
returns c =
    let known = told (goal.at.returns c).After-has_shape in
    let its_bits = bits (goal.at.returns c).After-are_bits in
    let its_joint = joint (goal.at.returns c).After-is_joined in
    grind (arith, nat_tests)
