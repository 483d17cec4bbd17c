use Rattle.std.proofs.Common.{refl, sym, ap, subst, ◌≡◌, ◌+◌, ◌*◌, ◌≤◌, ◌-◌, ◌%◌, ◌^◌, ◌++◌, ◌∙◌, arith, rules, length, length-drop, take, drop, ℕ, List}
use Rattle.std.proofs.lemmas.List.{take_all, take-take, length-take-le}
use borrow.Rule.Slice.PartMut.{put_mid}
use Rattle.tm_conv.specs.declared.rates.Rate.{Rate}
use Rattle.tm_conv.specs.Path.{period, steps_size}
use Rattle.tm_conv.proofs.Paths.{steps_size-zero}
use Rattle.tm_conv.proofs.Sizes.{steps_size-add, steps_size-most}
use Rattle.tm_viterbi.specs.Carries.{Carries, lifted}
use Rattle.tm_viterbi.proofs.Carrying.{Carries-none, blocks_on, length-mid}
use Rattle.tm_viterbi.proofs.StepPairs.{same_later, same_position, position_small}
use Rattle.tm_viterbi.proofs.narrow_steps.narrow_fours.Goals as goal

first_position : (rate : Rate) (t n : ℕ) → n ≡ period rate → t % n ≡ (t + 0) % period rate
first_position rate t n e =
    let none : t ≡ t + 0 = omega arith in
    ap (λ (v : ℕ). t % v) e ∙ ap (λ (v : ℕ). v % period rate) none

pub loop-i-init : goal.loop-i-init
loop-i-init c = record {
  within = omega arith;
  place = sym (steps_size-zero c.args.rate c.args.t);
  position = first_position c.args.rate c.args.t _ (c.from.ensures ∙ c.period.ensures.period);
  small = omega (
    arith,
    first_position c.args.rate c.args.t _ (c.from.ensures ∙ c.period.ensures.period),
    (position_small c.args.rate (c.args.t + 0)).1,
  );
  bounded = λ m h s lt. omega (arith, h s lt);
  long_low = c.fits-first_low.0;
  long_high = c.fits-first_high.0;
  carries = λ base. Carries-none c.args.rate c.args.invert c.args.t
      (lifted base (c.args.first_low ++ c.args.first_high));
}

pub four_steps-taken-requires-clause-room : goal.four_steps-taken-requires-clause-room
four_steps-taken-requires-clause-room c s lt =
    omega (arith, c.loop-i.invariant.bounded (2 ^ 16 - 1 - 510 * length c.args.survivors.now) c.requires.room s lt)

pub next_position-position-requires : goal.next_position-position-requires
next_position-position-requires c =
    omega (arith, c.loop-i.invariant.position, (position_small c.args.rate (c.args.t + c.loop-i.i)).0)

-- the octets of the next four steps, out of eight and out of all that are left
four_of : (n at : ℕ) (soft : List ℕ) → n ≤ 8 → at + 8 ≤ length soft
    → take n (take (at + 8 - at) (drop at soft)) ≡ take n (take (length soft - at) (drop at soft))
four_of n at soft le fits =
    let rest = take_all (length soft - at) (drop at soft) (omega (arith, length-drop at soft)) in
    take-take n (at + 8 - at) (drop at soft) (omega arith) ∙ ap (λ (v : List ℕ). take n v) (sym rest)

pub loop-i-preserved : goal.loop-i-preserved
loop-i-preserved c =
    let rate = c.args.rate in
    let t = c.args.t in
    let i = c.loop-i.i in
    let at = c.loop-i.at in
    let soft = c.args.soft.now in
    let survivors = c.loop-i.survivors in
    let piece = c.four_steps-taken.new.survivors in
    let taken = c.four_steps-taken.result.2 in
    let few : taken ≤ 8 = omega (arith, c.four_steps-taken.ensures.taken, steps_size-most rate (t + i) 4) in
    let le : i + 4 ≤ length survivors = omega arith in
    let fits : at + 8 ≤ length soft = omega arith in
    let long : length piece ≡ 4 = c.four_steps-taken.auto.survivors
    ∙ length-take-le (i + 4 - i) (drop i survivors) (omega (arith, length-drop i survivors)) ∙ omega arith in
    let next_low = c.four_steps-taken.result.0 in
    let next_high = c.four_steps-taken.result.1 in
    let later : t + i + 4 ≡ t + (i + 4) = omega arith in
    let same : c.loop-i.position % period rate ≡ (t + i) % period rate =
    ap (λ (v : ℕ). v % period rate) c.loop-i.invariant.position ∙ same_position rate (t + i) in
    record {
      position = c.next_position-position.ensures.next ∙ same_later rate c.loop-i.position (t + i) 4 same
          ∙ ap (λ (v : ℕ). v % period rate) later;
      small = c.next_position-position.ensures.small;
      within = omega (arith, length-mid i (i + 4 - i) survivors piece (omega arith) (omega arith));
      place = omega (
        arith,
        c.loop-i.invariant.place,
        c.four_steps-taken.ensures.taken,
        steps_size-add rate t i 4,
      );
      bounded = λ m h s lt. omega
          (arith, c.four_steps-taken.ensures.bounded (m + 510 * i) (c.loop-i.invariant.bounded m h) s lt);
      long_low = c.four_steps-taken.ensures.long.0;
      long_high = c.four_steps-taken.ensures.long.1;
      carries = λ base.
          let first = lifted base (c.args.first_low ++ c.args.first_high) in
          let before = lifted base (c.loop-i.low ++ c.loop-i.high) in
          let next = lifted base (next_low ++ next_high) in
          let block : Carries rate c.args.invert (t + i)
          (take taken (take (length soft - at) (drop at soft))) before next piece =
          subst (λ (v : List ℕ). Carries rate c.args.invert (t + i) v before next piece)
          (four_of taken at soft few fits) (c.four_steps-taken.ensures.carries base) in
          blocks_on rate c.args.invert t at taken i 4 (i + 4) soft first before next survivors piece
          c.loop-i.invariant.place (omega arith) (omega arith) le long refl
          (c.loop-i.invariant.carries base) block;
    }

-- at most two octets a step of at most 120
pub overflow_add-at : goal.overflow_add-at
overflow_add-at c =
    let few : c.loop-i.at ≤ 240 =
    omega (
      arith,
      c.loop-i.invariant.place,
      c.loop-i.invariant.within,
      c.loop-i.auto.survivors,
      c.requires.few,
      steps_size-most c.args.rate c.args.t c.loop-i.i,
    ) in
    search rules

pub overflow_add-at-in-loop-i-2 : goal.overflow_add-at-in-loop-i-2
overflow_add-at-in-loop-i-2 c =
    let few : c.loop-i.at ≤ 240 =
    omega (
      arith,
      c.loop-i.invariant.place,
      c.loop-i.invariant.within,
      c.loop-i.auto.survivors,
      c.requires.few,
      steps_size-most c.args.rate c.args.t c.loop-i.i,
    ) in
    let taken : c.four_steps-taken.result.2 ≤ 8 =
    omega (arith, c.four_steps-taken.ensures.taken, steps_size-most c.args.rate (c.args.t + c.loop-i.i) 4) in
    search rules

-- the octets that are left hold the steps that are left
length-rest : (n : ℕ) (xs : List ℕ) → length (take (length xs - n) (drop n xs)) ≡ length xs - n
length-rest n xs = length-take-le (length xs - n) (drop n xs) (omega (arith, length-drop n xs))

rest_holds : (rate : Rate) (t i n at size : ℕ) → i ≤ n → at ≡ steps_size rate t i → steps_size rate t n ≤ size
    → at + steps_size rate (t + i) (n - i) ≤ size
rest_holds rate t i n at size le place fits =
    let whole : i + (n - i) ≡ n = omega arith in
    omega (arith, steps_size-add rate t i (n - i), ap (steps_size rate t) whole)

pub slice_bounds-narrow_run-count : goal.slice_bounds-narrow_run-count
slice_bounds-narrow_run-count c =
    let fits : c.loop-i.at ≤ length c.args.soft.now =
    omega (
      arith,
      rest_holds c.args.rate c.args.t c.loop-i.i (length c.args.survivors.now) c.loop-i.at
          (length c.args.soft.now) (omega (arith, c.loop-i.invariant.within)) c.loop-i.invariant.place c.requires.size,
    ) in
    search rules

pub slice_bounds-narrow_run-start : goal.slice_bounds-narrow_run-start
slice_bounds-narrow_run-start c =
    let fits : c.loop-i.at ≤ length c.args.soft.now =
    omega (
      arith,
      rest_holds c.args.rate c.args.t c.loop-i.i (length c.args.survivors.now) c.loop-i.at
          (length c.args.soft.now) (omega (arith, c.loop-i.invariant.within)) c.loop-i.invariant.place c.requires.size,
    ) in
    search rules

pub narrow_run-taken-requires-clause-size : goal.narrow_run-taken-requires-clause-size
narrow_run-taken-requires-clause-size c =
    let i = c.loop-i.i in
    let survivors = c.loop-i.survivors in
    omega (
      arith,
      rest_holds c.args.rate c.args.t i (length c.args.survivors.now) c.loop-i.at
          (length c.args.soft.now) (omega (arith, c.loop-i.invariant.within)) c.loop-i.invariant.place c.requires.size,
      ap (steps_size c.args.rate (c.args.t + i)) (length-rest i survivors),
      ap (λ (n : ℕ). steps_size c.args.rate (c.args.t + i) (n - i)) c.loop-i.auto.survivors,
      length-rest c.loop-i.at c.args.soft.now,
    )

pub narrow_run-taken-requires-clause-room : goal.narrow_run-taken-requires-clause-room
narrow_run-taken-requires-clause-room c s lt =
    omega (
      arith,
      c.loop-i.invariant.bounded (2 ^ 16 - 1 - 510 * length c.args.survivors.now) c.requires.room s lt,
      length-rest c.loop-i.i c.loop-i.survivors,
    )

pub overflow_add-result : goal.overflow_add-result
overflow_add-result c =
    let i = c.loop-i.i in
    let piece = c.narrow_run-taken.new.survivors in
    let rate = c.args.rate in
    let t = c.args.t in
    let n = length c.args.survivors.now in
    let long : length piece ≡ n - i = c.narrow_run-taken.auto.survivors
    ∙ length-rest i c.loop-i.survivors ∙ ap (λ (k : ℕ). k - i) c.loop-i.auto.survivors in
    let fits : c.loop-i.at + c.narrow_run-taken.result.2 ≤ length c.args.soft.now =
    omega (
      arith,
      rest_holds rate t i n c.loop-i.at (length c.args.soft.now) (omega (arith, c.loop-i.invariant.within))
          c.loop-i.invariant.place c.requires.size,
      c.narrow_run-taken.ensures.taken,
      ap (steps_size rate (t + i)) long,
    ) in
    search rules

pub returns-clause-taken : goal.returns-clause-taken
returns-clause-taken c =
    let i = c.loop-i.i in
    let rate = c.args.rate in
    let t = c.args.t in
    let survivors = c.loop-i.survivors in
    let piece = c.narrow_run-taken.new.survivors in
    let long : length piece ≡ length survivors - i = c.narrow_run-taken.auto.survivors ∙ length-rest i survivors in
    let after : length (put_mid i (length survivors - i) survivors piece) ≡ length survivors =
    length-mid i (length survivors - i) survivors piece (omega arith) long in
    let whole : i + (length survivors - i) ≡ length survivors = omega (arith, c.loop-i.invariant.within) in
    omega (
      arith,
      c.loop-i.invariant.place,
      c.narrow_run-taken.ensures.taken,
      ap (steps_size rate (t + i)) long,
      steps_size-add rate t i (length survivors - i),
      ap (steps_size rate t) whole,
      ap (steps_size rate t) after,
    )

pub returns-clause-carries : goal.returns-clause-carries
returns-clause-carries c base =
    let i = c.loop-i.i in
    let at = c.loop-i.at in
    let rate = c.args.rate in
    let t = c.args.t in
    let soft = c.args.soft.now in
    let survivors = c.loop-i.survivors in
    let piece = c.narrow_run-taken.new.survivors in
    let taken = c.narrow_run-taken.result.2 in
    let first = lifted base (c.args.first_low ++ c.args.first_high) in
    let before = lifted base (c.loop-i.low ++ c.loop-i.high) in
    let last = lifted base (c.narrow_run-taken.result.0 ++ c.narrow_run-taken.result.1) in
    let long : length piece ≡ length survivors - i = c.narrow_run-taken.auto.survivors ∙ length-rest i survivors in
    let after : length (put_mid i (length survivors - i) survivors piece) ≡ length survivors =
    length-mid i (length survivors - i) survivors piece (omega arith) long in
    let same : length piece ≡ length c.args.survivors.now - i =
    long ∙ ap (λ (k : ℕ). k - i) c.loop-i.auto.survivors in
    let fits : at + taken ≤ length soft =
    omega (
      arith,
      rest_holds rate t i (length c.args.survivors.now) at (length soft) (omega (arith, c.loop-i.invariant.within))
          c.loop-i.invariant.place c.requires.size,
      c.narrow_run-taken.ensures.taken,
      ap (steps_size rate (t + i)) same,
    ) in
    subst (λ (w : List ℕ). Carries rate c.args.invert t (take (at + taken) soft) first last w)
    (take_all (length survivors) (put_mid i (length survivors - i) survivors piece) (omega arith))
    (blocks_on rate c.args.invert t at taken i (length survivors - i)
    (length survivors) soft first before last survivors piece
    c.loop-i.invariant.place (omega arith) (omega arith) (omega arith) long
    (omega arith)
    (c.loop-i.invariant.carries base) (c.narrow_run-taken.ensures.carries base))

pub returns-clause-bounded : goal.returns-clause-bounded
returns-clause-bounded c m h s lt =
    let i = c.loop-i.i in
    let survivors = c.loop-i.survivors in
    let piece = c.narrow_run-taken.new.survivors in
    let long : length piece ≡ length survivors - i = c.narrow_run-taken.auto.survivors ∙ length-rest i survivors in
    let after : length (put_mid i (length survivors - i) survivors piece) ≡ length survivors =
    length-mid i (length survivors - i) survivors piece (omega arith) long in
    omega (arith, c.narrow_run-taken.ensures.bounded (m + 510 * i) (c.loop-i.invariant.bounded m h) s lt)
