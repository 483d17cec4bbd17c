use Rattle.std.proofs.Common.{◌≡◌, ◌≤◌, ◌<◌, ◌+◌, ◌^◌, ◌∙◌, ◌++◌, ℕ, List, [], sym, subst, refl, arith, length, length-append, length-drop, take, drop, reverse, min, ap, ◌-◌, IsTrue, Bool, true, false, cond, Option}
use Rattle.std.specs.Option.{ForSome}
use Rattle.tm_conv.specs.Best.{IsBest}
use Rattle.std.specs.List.{All}
use Rattle.std.proofs.lemmas.List.{length-take-le, take_all}
use Rattle.std.proofs.lemmas.List.Elements.{All-from_get_or}
use Rattle.tm_conv.specs.Path.{steps_size, path}
use Rattle.tm_conv.specs.Cost.{cost}
use Rattle.tm_conv.proofs.Paths.{steps_size-zero}
use Rattle.tm_viterbi.specs.Starts.{starts_from, first_start}
use Rattle.tm_viterbi.specs.Walk.{AreBest, past_of, start_of}
use Rattle.tm_viterbi.specs.Totals.{total_of}
use Rattle.tm_viterbi.specs.declared.block.Start.{Start}
use Rattle.tm_viterbi.specs.declared.block.Start.TheVariants.{Zero, Any}
use Rattle.tm_viterbi.proofs.Walk.{AreBest-none}
use Rattle.tm_viterbi.proofs.LeastCost.{few_octets, steps_le, step_left, prefix_and_piece}
use Rattle.tm_viterbi.proofs.Final.{cost_le, some_start, IsBest-from_columns}
use Rattle.tm_viterbi.proofs.Distances.{settled, left_after}
use Rattle.tm_viterbi.proofs.path_cost.cost_below.Goals as goal
use Rattle.tm_viterbi.proofs.path_cost.cost_below.Goals.{then-left-gt0, else-left-gt0}
use Rattle.tm_conv.proofs.Sizes.{steps_size-add, steps_size-least}

small : (b : Bool) → cond b 0 (2 ^ 30) ≤ 2 ^ 30
small true = omega arith
small false = omega arith

register_small : (start : Start) → ForSome (first_start start) (λ register. register < 64)
register_small Zero = λ register is. (let e : 0 ≡ register = cc in omega (arith, e))
register_small Any = λ register is. absurd (cc)

pub loop-at-smaller : goal.loop-at-smaller
loop-at-smaller c =
    let found = c.whole_steps-count.ensures in
    omega (
      arith,
      found.some,
      found.size,
      c.loop-at-test.true,
      steps_size-least c.args.rate (c.args.t + c.loop-at.done) c.whole_steps-count.result.0,
    )

pub loop-at-init : goal.loop-at-init
loop-at-init c = record {
  within = omega arith;
  place = sym (steps_size-zero c.args.rate c.args.t);
  few = omega arith;
  left = c.requires.least;
  long = refl;
  sums = omega arith;
  bounded = λ s lt. omega (arith, small (starts_from c.first_start.result s), c.first_sums-sums.ensures s lt);
  best = ([], AreBest-none _ c.first_sums-sums.result (λ register below. omega arith));
}

pub whole_steps-count-requires-clause-step : goal.whole_steps-count-requires-clause-step
whole_steps-count-requires-clause-step c =
    step_left c.args.rate c.args.t c.loop-at.done c.requires.steps.0 c.loop-at.at
    (length c.args.soft.now) c.requires.steps.2 c.loop-at.invariant.place c.loop-at-test.true

pub loop-at-preserved : goal.loop-at-preserved
loop-at-preserved c =
    let i = c.loop-at.invariant in
    let soft = c.args.soft.now in
    let done = c.loop-at.done in
    let at = c.loop-at.at in
    let count = c.whole_steps-count.result.0 in
    let size = c.whole_steps-count.result.1 in
    let found = c.whole_steps-count.ensures in
    let len : length c.run.new.survivors ≡ count = c.run.auto.survivors
    ∙ length-take-le count c.loop-at.survivors (omega (arith, found.some, i.long)) in
    let within : at + size ≤ length soft = omega (arith, i.within, found.fits) in
    let place : at + size ≡ steps_size c.args.rate c.args.t (done + count) =
    omega (arith, i.place, found.size, steps_size-add c.args.rate c.args.t done count) in
    let sum : done + length c.run.new.survivors ≡ done + count = omega (arith, len) in
    let firsts = c.first_sums-sums.result in
    let next = reverse c.run.new.survivors ++ i.best.0 in
    let P : List ℕ → ℕ → Type 0 = λ v n. AreBest (total_of c.args.rate c.args.invert c.args.t firsts v) n
    c.run.new.sums next in
    record {
      within = within;
      place = place;
      few =
          omega (
            arith,
            c.requires.steps.1,
            steps_le c.args.rate c.args.t (done + count) c.requires.steps.0
                (omega (arith, place, within, c.requires.steps.2)),
          );
      left = elim c.if-left-gt0.branch [
        | then-left-gt0 w ↦ (
          omega (
            arith,
            i.left.0,
            left_after at size soft,
            w.least_distances.ensures.value,
            w.saturating_sub-left.ensures,
            w.left-is,
          ),
          omega (arith, i.left.1, w.saturating_sub-left.ensures, w.left-is),
        )
        | else-left-gt0 w ↦ (
          omega (arith, w.if-left-gt0.false, w.left-is),
          omega (arith, i.left.1, w.left-is),
        )
      ];
      long =
          omega (
            arith,
            length-append c.run.new.survivors (drop count c.loop-at.survivors),
            length-drop count c.loop-at.survivors,
            len,
            i.long,
            found.some,
          );
      sums = c.run.array_long;
      bounded = λ s lt. omega (arith, c.run.ensures.bounded s lt, len);
      best = (
        next,
        subst (λ (n : ℕ). P (take (at + size) soft) n) sum
            (subst (λ (v : List ℕ). P v (done + length c.run.new.survivors)) (prefix_and_piece at size soft)
            (c.run.ensures.carries.carries c.args.t done firsts (take at soft) i.best.0 refl
            (length-take-le at soft i.within ∙ i.place) i.best.1)),
      );
    }

pub overflow_add-from : goal.overflow_add-from
overflow_add-from c = omega (arith, c.loop-at.invariant.left.1)

-- a register from which paths may start
started : (starts : Option ℕ) (start : Start) → starts ≡ first_start start
    → (register : ℕ) × (register < 64) × IsTrue (starts_from starts register)
started starts start is =
    some_start starts (subst (λ (o : Option ℕ). ForSome o (λ register. register < 64)) (sym is) (register_small start))

pub returns-then-from-left : goal.returns-then-from-left
returns-then-from-left c =
    let i = c.loop-at.invariant in
    let soft = c.args.soft.now in
    let starts = starts_from c.first_start.result in
    let steps = c.requires.steps in
    let some = started c.first_start.result c.args.start c.first_start.ensures.value in
    let found = c.best_path_law.ensures.exists starts c.args.rate c.args.invert c.args.t steps.0 some.0 soft some.2
    some.1 steps.2 in
    let bytes : All (λ y. y < 256) soft = All-from_get_or (λ y. y < 256) soft 0
    (λ j lt. omega (arith, c.type_inv.soft j)) in
    let costs = cost (path c.args.rate c.args.invert c.args.t found.0 found.1) soft in
    let low = settled starts c.args.rate c.args.invert c.args.t c.loop-at.done c.loop-at.at c.least_sum.result
    c.first_sums-sums.result soft c.loop-at.sums i.best.0 c.first_sums-sums.ensures i.place i.within i.best.1
    c.least_sum.ensures found.0 found.1 found.2.candidate in
    let few = few_octets c.args.rate c.args.t steps.0 (length soft) steps.1 steps.2 in
    let small : costs < 2 ^ 32 =
    omega (arith, cost_le (path c.args.rate c.args.invert c.args.t found.0 found.1) soft bytes, few) in
    let least : c.args.limit ≡ min costs c.args.limit =
    omega (arith, c.if-from-left.true, c.from.ensures, i.left.0, low) in
    record {
      cost = (
        found.0,
        found.1,
        subst (λ (o : Option ℕ). IsBest (starts_from o) c.args.rate c.args.invert c.args.t soft found.0 found.1)
            c.first_start.ensures.value found.2,
        small,
        least,
      );
    }

pub least_distances-requires : goal.least_distances-requires
least_distances-requires c =
    let at = c.loop-at.at in
    let soft = c.args.soft.now in
    let steps = c.requires.steps in
    omega (
      arith,
      length-take-le (at + c.whole_steps-count.result.1 - at) (drop at soft)
          (omega (arith, length-drop at soft, c.whole_steps-count.ensures.fits)),
      c.whole_steps-count.ensures.fits,
      few_octets c.args.rate c.args.t steps.0 (length soft) steps.1 steps.2,
    )

pub returns : goal.returns
returns c =
    let i = c.loop-at.invariant in
    let soft = c.args.soft.now in
    let s = c.least_register.result in
    let starts = starts_from c.first_start.result in
    let some = started c.first_start.result c.args.start c.first_start.ensures.value in
    let bytes : All (λ y. y < 256) soft = All-from_get_or (λ y. y < 256) soft 0
    (λ j lt. omega (arith, c.type_inv.soft j)) in
    let size : length soft ≡ steps_size c.args.rate c.args.t c.loop-at.done =
    omega (arith, i.place, i.within, c.loop-at-test.false) in
    let best = subst (λ (v : List ℕ). AreBest (total_of c.args.rate c.args.invert c.args.t c.first_sums-sums.result v)
    c.loop-at.done c.loop-at.sums i.best.0)
    (take_all c.loop-at.at soft c.loop-at-test.false) i.best.1 in
    let few : length soft ≤ 139264 = few_octets c.args.rate c.args.t c.loop-at.done (length soft) i.few size in
    let h = IsBest-from_columns starts c.args.rate c.args.invert c.args.t c.loop-at.done s c.first_sums-sums.result
    soft c.loop-at.sums i.best.0
    c.first_sums-sums.ensures some.0 some.1 some.2 size bytes
    (omega (arith, few)) best
    c.least_register.ensures in
    let first = start_of i.best.0 s in
    let bits = reverse (past_of i.best.0 s) in
    let costs = cost (path c.args.rate c.args.invert c.args.t first bits) soft in
    record {
      cost = (
        first,
        bits,
        subst (λ (o : Option ℕ). IsBest (starts_from o) c.args.rate c.args.invert c.args.t soft first bits)
            c.first_start.ensures.value h.0,
        omega (arith, cost_le (path c.args.rate c.args.invert c.args.t first bits) soft bytes, few),
        c.min.ensures ∙ ap (λ (n : ℕ). min n c.args.limit) (c.from-2.ensures ∙ h.1),
      );
    }
