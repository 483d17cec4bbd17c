use Rattle.std.proofs.Common.{◌≡◌, ◌≤◌, ◌+◌, ◌-◌, ◌*◌, ◌∙◌, sym, ap, subst, refl, arith, length, take, drop, ℕ, List, length-drop}
use Rattle.std.proofs.lemmas.List.{length-take-le, take_all}
use Rattle.tm_conv.specs.Path.{steps_size}
use Rattle.tm_conv.proofs.Paths.{steps_size-zero}
use Rattle.tm_viterbi.specs.Carries.{Carries}
use Rattle.tm_viterbi.proofs.Carrying.{Carries-none, rest_fits, blocks_on, length-mid}
use Rattle.tm_viterbi.proofs.forward_pass.run.Goals as goal
use Rattle.tm_conv.proofs.Sizes.{steps_size-add, steps_size-le}

pub loop-done-init : goal.loop-done-init
loop-done-init c = record {
  within = omega arith;
  place = sym (steps_size-zero c.args.rate c.args.t);
  bounded = λ s lt. omega (arith, c.requires.bounded s lt);
  carries = Carries-none c.args.rate c.args.invert c.args.t c.args.sums.now;
}

-- as many survivors are lent as there are steps in the block
lent : (n done : ℕ) (survivors : List ℕ) → done + n ≤ length survivors
    → length (take (n + done - done) (drop done survivors)) ≡ n
lent n done survivors le =
    length-take-le (n + done - done) (drop done survivors) (omega (arith, length-drop done survivors)) ∙ omega arith

pub narrow_block-at-requires-clause-size : goal.narrow_block-at-requires-clause-size
narrow_block-at-requires-clause-size c =
    let n = c.min.result in
    let done = c.loop-done.done in
    let le : done + n ≤ length c.loop-done.survivors = omega (arith, c.min.ensures, c.loop-done.invariant.within) in
    let h = rest_fits c.args.rate c.args.t c.loop-done.at done n
    (length c.args.survivors.now) c.args.soft.now c.requires.size c.loop-done.invariant.place
    (omega (arith, c.loop-done.auto.survivors)) in
    omega (arith, h, ap (steps_size c.args.rate (c.args.t + done)) (lent n done c.loop-done.survivors le))

pub loop-done-preserved-then-are_close : goal.loop-done-preserved-then-are_close
loop-done-preserved-then-are_close c =
    let n = c.min.result in
    let done = c.loop-done.done in
    let at = c.loop-done.at in
    let soft = c.args.soft.now in
    let le : done + n ≤ length c.loop-done.survivors = omega (arith, c.min.ensures, c.loop-done.invariant.within) in
    let len : length c.narrow_block-at.new.survivors ≡ n = c.narrow_block-at.auto.survivors
    ∙ lent n done c.loop-done.survivors le in
    let r : c.narrow_block-at.result ≡ steps_size c.args.rate (c.args.t + done) n = c.narrow_block-at.ensures.taken
    ∙ ap (steps_size c.args.rate (c.args.t + done)) len in
    let room : at ≤ length soft = omega (
      arith,
      c.requires.size,
      c.loop-done.invariant.place,
      steps_size-le c.args.rate c.args.t done (length c.args.survivors.now)
          (omega (arith, c.loop-done.auto.survivors)),
    ) in
    let fits = rest_fits c.args.rate c.args.t at done n (length c.args.survivors.now) soft c.requires.size
    c.loop-done.invariant.place (omega (arith, c.loop-done.auto.survivors)) in
    let few : c.narrow_block-at.result ≤ length soft - at =
    omega (arith, fits, r, length-take-le (length soft - at) (drop at soft) (omega (arith, length-drop at soft)))
    in
    let swap : n + done ≡ done + n = omega arith in
    record {
      within =
          omega (
            arith,
            length-mid done (n + done - done) c.loop-done.survivors c.narrow_block-at.new.survivors
                (omega arith) (omega arith),
          );
      place =
          omega (
            arith,
            c.loop-done.invariant.place,
            r,
            steps_size-add c.args.rate c.args.t done n,
            ap (steps_size c.args.rate c.args.t) swap,
          );
      bounded =
          λ s lt. omega (
            arith,
            c.narrow_block-at.ensures.bounded
                (c.args.most + 510 * done) c.loop-done.invariant.bounded s lt,
            len,
          );
      carries =
          blocks_on c.args.rate c.args.invert c.args.t at c.narrow_block-at.result done n
          (n + done) soft c.args.sums.now c.loop-done.sums c.narrow_block-at.new.sums c.loop-done.survivors
          c.narrow_block-at.new.survivors
          c.loop-done.invariant.place room few le len swap c.loop-done.invariant.carries
          c.narrow_block-at.ensures.carries;
    }

pub wide_step-at-requires-clause-size : goal.wide_step-at-requires-clause-size
wide_step-at-requires-clause-size c =
    rest_fits c.args.rate c.args.t c.loop-done.at c.loop-done.done 1
    (length c.args.survivors.now) c.args.soft.now c.requires.size c.loop-done.invariant.place
    (omega (arith, c.loop-done.auto.survivors))

pub loop-done-preserved : goal.loop-done-preserved
loop-done-preserved c =
    let done = c.loop-done.done in
    let at = c.loop-done.at in
    let soft = c.args.soft.now in
    let one : done + 1 - done ≡ 1 = omega arith in
    let len : length c.wide_step-at.new.survivors ≡ 1 =
    c.wide_step-at.auto.survivors ∙ length-take-le (done + 1 - done) (drop done c.loop-done.survivors)
    (omega (arith, length-drop done c.loop-done.survivors)) ∙ one in
    let r : c.wide_step-at.result ≡ steps_size c.args.rate (c.args.t + done) 1 = c.wide_step-at.ensures.taken
    ∙ ap (steps_size c.args.rate (c.args.t + done)) len in
    let room : at ≤ length soft = omega (
      arith,
      c.requires.size,
      c.loop-done.invariant.place,
      steps_size-le c.args.rate c.args.t done (length c.args.survivors.now)
          (omega (arith, c.loop-done.auto.survivors)),
    ) in
    let fits = rest_fits c.args.rate c.args.t at done 1 (length c.args.survivors.now) soft c.requires.size
    c.loop-done.invariant.place (omega (arith, c.loop-done.auto.survivors)) in
    let few : c.wide_step-at.result ≤ length soft - at = omega
    (arith, fits, r, length-take-le (length soft - at) (drop at soft) (omega (arith, length-drop at soft))) in
    record {
      within =
          omega (
            arith,
            length-mid done (done + 1 - done) c.loop-done.survivors c.wide_step-at.new.survivors
                (omega arith) (omega arith),
          );
      place = omega (arith, c.loop-done.invariant.place, r, steps_size-add c.args.rate c.args.t done 1);
      bounded = λ s lt. omega (arith, c.wide_step-at.ensures.bounded s lt);
      carries =
          blocks_on c.args.rate c.args.invert c.args.t at c.wide_step-at.result done 1
          (done + 1) soft c.args.sums.now c.loop-done.sums c.wide_step-at.new.sums c.loop-done.survivors
          c.wide_step-at.new.survivors
          c.loop-done.invariant.place room few (omega arith) len refl c.loop-done.invariant.carries
          c.wide_step-at.ensures.carries;
    }

pub returns-clause-carries : goal.returns-clause-carries
returns-clause-carries c =
    let whole : c.loop-done.done ≡ length c.loop-done.survivors = omega (arith, c.loop-done.invariant.within) in
    let all : c.loop-done.at ≡ length c.args.soft.now =
    c.loop-done.invariant.place ∙ ap (steps_size c.args.rate c.args.t) (whole ∙ c.loop-done.auto.survivors)
    ∙ sym c.requires.size in
    let P : List ℕ → List ℕ → Type 0 = λ v w. Carries c.args.rate c.args.invert c.args.t v c.args.sums.now
    c.loop-done.sums w in
    subst (λ (w : List ℕ). P c.args.soft.now w) (take_all c.loop-done.done c.loop-done.survivors (omega arith))
    (subst (λ (v : List ℕ). P v (take c.loop-done.done c.loop-done.survivors))
    (take_all c.loop-done.at c.args.soft.now (omega arith)) c.loop-done.invariant.carries)
