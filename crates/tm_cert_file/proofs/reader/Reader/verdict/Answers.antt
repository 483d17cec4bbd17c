use Rattle.std.proofs.Common.{◌≡◌, ◌+◌, ◌-◌, ◌≤◌, ◌∙◌, length, take, drop, get_or, sym, refl, ap, subst, arith}
use Rattle.std.proofs.Math.Path.{transport}
use Rattle.std.proofs.lemmas.Bool.{and_parts}
use Rattle.std.proofs.lemmas.List.{length-take-le, length-drop, take_rest}
use Rattle.std.specs.Int.{w64, from_be_bytes}
use Rattle.std.specs.List.{starts_with}
use Rattle.std.specs.Prelude.{nat_eq}
use Rattle.tm_conv.specs.Path.{AreBits, steps_size}
use Rattle.tm_conv.proofs.Sizes.{steps_size-le}
use Rattle.tm_path_cert.specs.Claim.{Claim, is_start}
use Rattle.tm_path_cert.specs.Checking.{IsVerdict, CheckStandsFor}
use Rattle.tm_cert_file.specs.Window.{steps_in, start_in, metric_in, bits_in, soft_in, parts_in, numbers_in, columns_in, soft_end}
use Rattle.tm_cert_file.specs.Seen.{claim_of}
use Rattle.tm_cert_file.proofs.BigEndian.{columns_more}
use Rattle.tm_cert_file.proofs.Stages.{Holds-from_none, joined_of}
use Rattle.tm_cert_file.proofs.Looking.{Shaped-from_shape, are_bits-decides, same_part}
use Rattle.tm_cert_file.proofs.reader.Reader.verdict.Goals as goal
use Rattle.tm_cert_file.proofs.reader.Reader.verdict.Goals.{After-as_slice-held}

pub ends-bits_end-requires-clause-few : goal.ends-bits_end-requires-clause-few
ends-bits_end-requires-clause-few c =
    let s = c.args.self.now in
    (Shaped-from_shape s.rules s.before s.octets ((Holds-from_none _ _ _ c.requires.right).shape (omega arith))).most

-- ---- the parts of the window

module _ (c : After-as_slice-held) where
  same : c.as_slice-held.result.now ≡ c.args.self.now.octets
  same = c.as_slice-held.ensures.octets ∙ ap (λ v. v.octets) c.self.view_is

  bits : take (c.ends-bits_end.result.0 - 17) (drop 17 c.as_slice-held.result.now) ≡ bits_in c.args.self.now.octets
  bits = same_part c.as_slice-held.result.now _ 17 17 _ (steps_in c.args.self.now.octets) same refl (omega arith)

  count : length (bits_in c.args.self.now.octets) ≡ steps_in c.args.self.now.octets
  count =
      length-take-le (steps_in c.args.self.now.octets) (drop 17 c.args.self.now.octets)
      (omega (arith, length-drop 17 c.args.self.now.octets))

  soft : take (c.ends-bits_end.result.1 - c.ends-bits_end.result.0)
      (drop c.ends-bits_end.result.0 c.as_slice-held.result.now)
      ≡ soft_in c.args.self.now.rules.rate c.args.self.now.before.t c.args.self.now.octets
  soft =
      same_part c.as_slice-held.result.now _ _ _ _
      (steps_size c.args.self.now.rules.rate c.args.self.now.before.t (steps_in c.args.self.now.octets)) same
      c.ends-bits_end.ensures.bits (omega arith)

  size : length (soft_in c.args.self.now.rules.rate c.args.self.now.before.t c.args.self.now.octets)
      ≡ steps_size c.args.self.now.rules.rate c.args.self.now.before.t (steps_in c.args.self.now.octets)
  size =
      length-take-le _ (drop (17 + steps_in c.args.self.now.octets) c.args.self.now.octets)
      (omega (arith, length-drop (17 + steps_in c.args.self.now.octets) c.args.self.now.octets))

pub new-check-requires-clause-steps : goal.new-check-requires-clause-steps
new-check-requires-clause-steps c =
    let s = c.args.self.now in
    let k = (goal.at.new-check-requires-clause-steps c).After-as_slice-held in
    let shaped = Shaped-from_shape s.rules s.before s.octets ((Holds-from_none _ _ _ c.requires.right).shape (omega arith)) in
    let rate = ap (λ v. v.rules.rate) c.self.view_is in
    let t = ap (λ v. v.before.t) c.self.view_is in (
      steps_in s.octets,
      omega (arith, shaped.most, ap (λ v. v.rules.keep) c.self.view_is, ap (λ v. v.rules.ahead) c.self.view_is),
      ap length (soft k) ∙ size k ∙ sym (λ i. steps_size (rate i) (t i) (steps_in s.octets)),
    )

pub loop-at-init : goal.loop-at-init
unfolding parts_in
loop-at-init c =
    let s = c.args.self.now in
    let k = (goal.at.loop-at-init c).After-as_slice-held in
    let none : c.new-check.result.count ≡ 0 = c.new-check.ensures.count in
    record {
      claim = c.new-check.ensures.claim ∙ (λ i. claim_of (c.self.view_is i).rules (c.self.view_is i).before (soft k i));
      place = omega (arith, none);
      within = omega (arith, none);
      stands = subst (CheckStandsFor c.new-check.result) (ap (λ n. columns_in n (drop (soft_end s.rules.rate s.before.t (steps_in s.octets)) s.octets)) (sym none))
          c.new-check.ensures.stands;
    }

pub column-requires : goal.column-requires
column-requires c =
    let s = c.args.self.now in
    let k = (goal.at.column-requires c).After-as_slice-held in
    let count = c.loop-at.check.count in
    record {
      more = subst (λ (v : Claim). steps_size v.rate v.first count ≤ length v.soft) (sym c.loop-at.invariant.claim)
          (omega (arith, size k, steps_size-le s.rules.rate s.before.t count (steps_in s.octets) (omega arith)));
    }

pub loop-at-preserved : goal.loop-at-preserved
loop-at-preserved c =
    let s = c.args.self.now in
    let k = (goal.at.loop-at-preserved c).After-as_slice-held in
    let count = c.loop-at.check.count in
    let rest = drop (soft_end s.rules.rate s.before.t (steps_in s.octets)) s.octets in
    let more = columns_more (soft_end s.rules.rate s.before.t (steps_in s.octets)) c.loop-at.at
    (c.loop-at.at + 256 - c.loop-at.at) count c.read_column.result s.octets c.loop-at.invariant.place (omega arith)
    (omega arith) (c.read_column.ensures
    ∙ ap (λ v. numbers_in 64 (take (c.loop-at.at + 256 - c.loop-at.at) (drop c.loop-at.at v))) (same k)) in
    record {
      claim = c.column.ensures.claim ∙ c.loop-at.invariant.claim;
      place = omega (arith, c.column.ensures.count);
      within = omega (arith, c.column.ensures.count);
      stands = subst (CheckStandsFor c.column.new.self) (more ∙ ap (λ n. columns_in n rest) (sym c.column.ensures.count))
          (c.column.ensures.stands (columns_in count rest) c.loop-at.invariant.stands);
    }

pub finish-requires : goal.finish-requires
unfolding joined_of
finish-requires c =
    let s = c.args.self.now in
    let k = (goal.at.finish-requires c).After-as_slice-held in
    let claim = c.loop-at.invariant.claim in
    let holds = Holds-from_none _ _ _ c.requires.right in
    let shaped = Shaped-from_shape s.rules s.before s.octets (holds.shape (omega arith)) in
    let starts = and_parts (is_start s.before.starts (start_in s.octets))
    (starts_with nat_eq (soft_in s.rules.rate s.before.t s.octets) s.before.octets) (holds.joined (omega arith)) in
    let its_count = ap length (bits k) ∙ count k in
    record {
      steps = (λ i. length (claim i).soft) ∙ size k ∙ sym (λ i. steps_size (claim i).rate (claim i).first (its_count i));
      bits = subst AreBits (sym (bits k)) ((are_bits-decides (bits_in s.octets)).0 (holds.bits (omega arith)));
      columns = omega (arith, its_count);
      register = omega (arith, shaped.register, ap (λ v. get_or v 8 0) (same k));
      start = (λ i. is_start (claim i).starts (get_or (same k i) 8 0)) ∙ starts.0;
    }

pub returns : goal.returns
returns c =
    let s = c.args.self.now in
    let k = (goal.at.returns c).After-as_slice-held in
    let rest = drop (soft_end s.rules.rate s.before.t (steps_in s.octets)) s.octets in
    let all : c.loop-at.check.count ≡ steps_in s.octets + 1 = omega arith in
    let metric : c.read_u64.result ≡ metric_in s.octets = c.read_u64.ensures
    ∙ ap (from_be_bytes w64) (take_rest c.as_slice-held.result.now 9 ∙ ap (drop 9) (same k)) in
    transport (λ i. IsVerdict (c.loop-at.invariant.claim i) (columns_in (all i) rest) (get_or (same k i) 8 0) (bits k i)
    (metric i) c.finish.result) (c.finish.ensures.verdict _ c.loop-at.invariant.stands)
