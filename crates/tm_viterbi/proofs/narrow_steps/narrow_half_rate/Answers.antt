use Rattle.std.proofs.Common.{refl, sym, ap, subst, ◌≡◌, ◌+◌, ◌*◌, ◌≤◌, ◌-◌, ◌^◌, ◌++◌, ◌∙◌, arith, rules, length, length-drop, take, drop, ℕ, List}
use Rattle.std.proofs.lemmas.List.{take_all, length-take-le}
use borrow.Rule.Slice.PartMut.{put_mid}
use Rattle.tm_conv.specs.declared.rates.Rate.TheVariants.{R12}
use Rattle.tm_conv.specs.Path.{steps_size}
use Rattle.tm_viterbi.specs.Carries.{Carries, lifted}
use Rattle.tm_viterbi.proofs.Carrying.{Carries-none, blocks_on, half_steps, length-mid}
use Rattle.tm_viterbi.proofs.narrow_steps.narrow_half_rate.Goals as goal

pub loop-i-init : goal.loop-i-init
loop-i-init c = record {
  within = omega arith;
  bounded = λ m h s lt. omega (arith, h s lt);
  long_low = c.fits-first_low.0;
  long_high = c.fits-first_high.0;
  carries = λ base. Carries-none R12 c.args.invert c.args.t (lifted base (c.args.first_low ++ c.args.first_high));
}

pub slice_bounds-octets-end : goal.slice_bounds-octets-end
slice_bounds-octets-end c =
    let fits : 2 * c.loop-i.i + 8 ≤ length c.args.soft.now =
    omega (arith, c.requires.size, half_steps c.args.t (length c.args.survivors.now)) in
    search rules

pub half_rate_four-requires-clause-room : goal.half_rate_four-requires-clause-room
half_rate_four-requires-clause-room c s lt =
    omega (arith, c.loop-i.invariant.bounded (2 ^ 16 - 1 - 510 * length c.args.survivors.now) c.requires.room s lt)

-- the octets of four steps, out of all that are left
four_of : (i : ℕ) (soft : List ℕ) → 2 * i + 8 ≤ length soft
    → take (2 * i + 8 - 2 * i) (drop (2 * i) soft) ≡ take 8 (take (length soft - 2 * i) (drop (2 * i) soft))
four_of i soft fits =
    let same : 2 * i + 8 - 2 * i ≡ 8 = omega arith in
    let rest = take_all (length soft - 2 * i) (drop (2 * i) soft) (omega (arith, length-drop (2 * i) soft)) in
    ap (λ (v : ℕ). take v (drop (2 * i) soft)) same ∙ ap (λ (v : List ℕ). take 8 v) (sym rest)

pub loop-i-preserved : goal.loop-i-preserved
loop-i-preserved c =
    let i = c.loop-i.i in
    let soft = c.args.soft.now in
    let survivors = c.loop-i.survivors in
    let piece = c.half_rate_four.new.survivors in
    let fits : 2 * i + 8 ≤ length soft =
    omega (arith, c.requires.size, half_steps c.args.t (length c.args.survivors.now)) in
    let le : i + 4 ≤ length survivors = omega arith in
    let long : length piece ≡ 4 = c.half_rate_four.auto.survivors
    ∙ length-take-le (i + 4 - i) (drop i survivors) (omega (arith, length-drop i survivors)) ∙ omega arith in
    let next_low = c.half_rate_four.result.0 in
    let next_high = c.half_rate_four.result.1 in
    let place : 2 * i + 8 ≡ 2 * (i + 4) = omega arith in
    record {
      within = omega (arith, length-mid i (i + 4 - i) survivors piece (omega arith) (omega arith));
      bounded = λ m h s lt. omega
          (arith, c.half_rate_four.ensures.bounded (m + 510 * i) (c.loop-i.invariant.bounded m h) s lt);
      long_low = c.half_rate_four.ensures.long.0;
      long_high = c.half_rate_four.ensures.long.1;
      carries = λ base.
          let first = lifted base (c.args.first_low ++ c.args.first_high) in
          let before = lifted base (c.loop-i.low ++ c.loop-i.high) in
          let next = lifted base (next_low ++ next_high) in
          let four = c.half_rate_four.ensures.carries c.args.invert (c.args.t + i) base c.two_step_masks-masks.ensures in
          let block : Carries R12 c.args.invert (c.args.t + i)
          (take 8 (take (length soft - 2 * i) (drop (2 * i) soft))) before next piece =
          subst (λ (v : List ℕ). Carries R12 c.args.invert (c.args.t + i) v before next piece)
          (four_of i soft fits) four in
          subst (λ (n : ℕ). Carries R12 c.args.invert c.args.t (take n soft) first next
          (take (i + 4) (put_mid i (i + 4 - i) survivors piece))) place
          (blocks_on R12 c.args.invert c.args.t (2 * i) 8 i 4 (i + 4) soft first before next survivors piece
          (sym (half_steps c.args.t i)) (omega arith) (omega arith) le long refl
          (c.loop-i.invariant.carries base) block);
    }

-- the octets and the survivors that are left
pub slice_bounds-narrow_run-count : goal.slice_bounds-narrow_run-count
slice_bounds-narrow_run-count c =
    let fits : 2 * c.loop-i.i ≤ length c.args.soft.now =
    omega (arith, c.requires.size, half_steps c.args.t (length c.args.survivors.now)) in
    search rules

pub slice_bounds-narrow_run-start : goal.slice_bounds-narrow_run-start
slice_bounds-narrow_run-start c =
    let fits : 2 * c.loop-i.i ≤ length c.args.soft.now =
    omega (arith, c.requires.size, half_steps c.args.t (length c.args.survivors.now)) in
    search rules

length-rest : (n : ℕ) (xs : List ℕ) → length (take (length xs - n) (drop n xs)) ≡ length xs - n
length-rest n xs = length-take-le (length xs - n) (drop n xs) (omega (arith, length-drop n xs))

pub narrow_run-taken-requires-clause-size : goal.narrow_run-taken-requires-clause-size
narrow_run-taken-requires-clause-size c =
    let i = c.loop-i.i in
    let survivors = c.loop-i.survivors in
    omega (
      arith,
      c.requires.size,
      half_steps c.args.t (length c.args.survivors.now),
      half_steps (c.args.t + i) (length (take (length survivors - i) (drop i survivors))),
      length-rest i survivors,
      length-rest (2 * i) c.args.soft.now,
    )

pub narrow_run-taken-requires-clause-room : goal.narrow_run-taken-requires-clause-room
narrow_run-taken-requires-clause-room c s lt =
    omega (
      arith,
      c.loop-i.invariant.bounded (2 ^ 16 - 1 - 510 * length c.args.survivors.now) c.requires.room s lt,
      length-rest c.loop-i.i c.loop-i.survivors,
    )

-- how many they are
taken_is : (t i n taken : ℕ) → taken ≡ steps_size R12 (t + i) n → taken ≡ 2 * n
taken_is t i n taken e = e ∙ half_steps (t + i) n

pub overflow_add-result : goal.overflow_add-result
overflow_add-result c =
    let i = c.loop-i.i in
    let piece = c.narrow_run-taken.new.survivors in
    let long : length piece ≡ length c.loop-i.survivors - i = c.narrow_run-taken.auto.survivors
    ∙ length-rest i c.loop-i.survivors in
    let taken = taken_is c.args.t i (length piece) c.narrow_run-taken.result.2 c.narrow_run-taken.ensures.taken in
    let fits : 2 * i + c.narrow_run-taken.result.2 ≤ length c.args.soft.now =
    omega (arith, c.requires.size, half_steps c.args.t (length c.args.survivors.now)) in
    search rules

pub returns-clause-taken : goal.returns-clause-taken
returns-clause-taken c =
    let i = c.loop-i.i in
    let survivors = c.loop-i.survivors in
    let piece = c.narrow_run-taken.new.survivors in
    let long : length piece ≡ length survivors - i = c.narrow_run-taken.auto.survivors ∙ length-rest i survivors in
    let after = length-mid i (length survivors - i) survivors piece (omega arith) long in
    omega (
      arith,
      taken_is c.args.t i (length piece) c.narrow_run-taken.result.2 c.narrow_run-taken.ensures.taken,
      half_steps c.args.t (length (put_mid i (length survivors - i) survivors piece)),
    )

pub returns-clause-carries : goal.returns-clause-carries
returns-clause-carries c base =
    let i = c.loop-i.i in
    let soft = c.args.soft.now in
    let survivors = c.loop-i.survivors in
    let piece = c.narrow_run-taken.new.survivors in
    let taken = c.narrow_run-taken.result.2 in
    let first = lifted base (c.args.first_low ++ c.args.first_high) in
    let before = lifted base (c.loop-i.low ++ c.loop-i.high) in
    let last = lifted base (c.narrow_run-taken.result.0 ++ c.narrow_run-taken.result.1) in
    let long : length piece ≡ length survivors - i = c.narrow_run-taken.auto.survivors ∙ length-rest i survivors in
    let after : length (put_mid i (length survivors - i) survivors piece) ≡ length survivors =
    length-mid i (length survivors - i) survivors piece (omega arith) long in
    let count = taken_is c.args.t i (length piece) taken c.narrow_run-taken.ensures.taken in
    let whole = half_steps c.args.t (length c.args.survivors.now) in
    subst (λ (w : List ℕ). Carries R12 c.args.invert c.args.t (take (2 * i + taken) soft) first last w)
    (take_all (length survivors) (put_mid i (length survivors - i) survivors piece) (omega arith))
    (blocks_on R12 c.args.invert c.args.t (2 * i) taken i (length survivors - i)
    (length survivors) soft first before last survivors piece
    (sym (half_steps c.args.t i)) (omega (arith, c.requires.size)) (omega (arith, c.requires.size)) (omega arith) long
    (omega arith)
    (c.loop-i.invariant.carries base) (c.narrow_run-taken.ensures.carries base))

pub returns-clause-bounded : goal.returns-clause-bounded
returns-clause-bounded c m h s lt =
    let i = c.loop-i.i in
    let survivors = c.loop-i.survivors in
    let piece = c.narrow_run-taken.new.survivors in
    let long : length piece ≡ length survivors - i = c.narrow_run-taken.auto.survivors ∙ length-rest i survivors in
    let after = length-mid i (length survivors - i) survivors piece (omega arith) long in
    omega (arith, c.narrow_run-taken.ensures.bounded (m + 510 * i) (c.loop-i.invariant.bounded m h) s lt)
