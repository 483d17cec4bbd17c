use Rattle.std.proofs.Common.{rules, ◌≡◌, ◌≤◌, ◌<◌, ◌∙◌, ℕ, length, ◌+◌, ◌-◌, ◌*◌, ◌%◌, arith, get_or, take, drop, ap, sym, subst, length-drop}
use Rattle.std.proofs.lemmas.List.{length-take-le}
use Rattle.std.proofs.lemmas.List.Elements.{All-get_or}
use Rattle.tm_conv.specs.Path.{path, period, step_symbols, steps_size}
use Rattle.tm_conv.specs.Counts.{AreFew, added, counts_of, distances}
use Rattle.tm_conv.specs.Encoding.{symbol_list}
use Rattle.tm_conv.proofs.Counted.{bit-of, counted-step, kept-symbols, none-added, step-fits, step-place}
use Rattle.tm_conv.proofs.Paths.{length-step_symbols, steps_size-zero}
use Rattle.tm_conv.proofs.Sizes.{steps_size-most}
use Rattle.tm_conv.proofs.counts.symbol_counts.Goals as goal
use Rattle.tm_conv.proofs.counts.symbol_counts.Goals.{After-step_len, After-add_step-arg-1, at-After-add_step-arg-1}

fits : (c : After-step_len)
    → c.loop-i.place + c.step_len.result ≤ steps_size c.args.rate c.args.t (length c.args.bits.now)
fits c =
    step-fits c.args.rate c.args.t c.loop-i.i c.loop-i.place c.step_len.result (length c.args.bits.now)
    (omega arith) c.loop-i.invariant.place c.step_len.ensures

bit : (c : After-add_step-arg-1) → get_or c.args.bits.now c.loop-i.i 0 < 2
bit c = All-get_or (λ bit. bit < 2) c.args.bits.now c.loop-i.i 0 (omega arith) c.requires.bits

symbols : (c : After-add_step-arg-1) → symbol_list c.symbols_kept-symbols.result
    ≡ step_symbols c.args.rate c.args.invert (c.args.t + c.loop-i.i) c.loop-i.now (get_or c.args.bits.now c.loop-i.i 0)
symbols c =
    let b = get_or c.args.bits.now c.loop-i.i 0 in
    kept-symbols c.args.rate c.args.invert (c.args.t + c.loop-i.i) _ c.loop-i.now b _ _ _ c.symbols_kept-symbols.result
    (bit-of b (bit c))
    (ap (λ n. (c.args.t + c.loop-i.i) % n) (c.from.ensures ∙ c.period.ensures.period))
    c.sums-first.ensures.first c.sums-first.ensures.second c.symbols_kept-symbols.ensures

long : (c : After-add_step-arg-1)
    → length (take (c.loop-i.place + c.step_len.result - c.loop-i.place) (drop c.loop-i.place c.args.octets.now))
    ≡ c.step_len.result
long c =
    let place = c.loop-i.place in
    let octets = c.args.octets.now in
    length-take-le (place + c.step_len.result - place) (drop place octets)
    (omega (arith, length-drop place octets, fits (at-After-add_step-arg-1 c).After-step_len, c.requires.octets))
    ∙ omega arith

pub loop-i-init : goal.loop-i-init
loop-i-init c =
    let octets = c.args.octets.now in
    let here = λ (t : ℕ). path c.args.rate c.args.invert t c.args.register c.args.bits.now in
    let same : c.args.t + 0 ≡ c.args.t = omega arith in
    record {
      register = c.requires.register;
      place = sym (steps_size-zero c.args.rate c.args.t);
      few = (omega arith, omega arith, omega arith, omega arith);
      sum =
          none-added (distances (here (c.args.t + 0)) octets)
          ∙ ap (λ t. counts_of (here t) octets) same;
    }

pub overflow_add-end : goal.overflow_add-end
overflow_add-end c =
    record {
      fits =
          omega (
            arith,
            fits (goal.at.overflow_add-end c).After-step_len,
            steps_size-most c.args.rate c.args.t (length c.args.bits.now),
            c.requires.few,
          );
    }

pub slice_bounds-add_step-end : goal.slice_bounds-add_step-end
slice_bounds-add_step-end c =
    let inside : c.loop-i.place + c.step_len.result ≤ length c.args.octets.now =
    omega (arith, fits (goal.at.slice_bounds-add_step-end c).After-step_len, c.requires.octets) in
    search rules

pub add_step-requires-clause-octets : goal.add_step-requires-clause-octets
add_step-requires-clause-octets c =
    let k = c in
    long k ∙ c.step_len.ensures
    ∙ sym (length-step_symbols c.args.rate c.args.invert (c.args.t + c.loop-i.i) c.loop-i.now
    (get_or c.args.bits.now c.loop-i.i 0))
    ∙ ap length (sym (symbols k))

pub add_step-requires-clause-few : goal.add_step-requires-clause-few
add_step-requires-clause-few c =
    let k = c in
    let few = c.loop-i.invariant.few in
    let most : c.loop-i.place ≤ 2 * 4294967296 =
    omega (
      arith,
      fits (at-After-add_step-arg-1 k).After-step_len,
      steps_size-most c.args.rate c.args.t (length c.args.bits.now),
      c.requires.few,
    ) in (
      omega (arith, few.0, most),
      omega (arith, few.1, most),
      omega (arith, few.2, most),
      omega (arith, few.3, most),
    )

pub loop-i-preserved : goal.loop-i-preserved
loop-i-preserved c =
    let k = (goal.at.loop-i-preserved c).After-add_step-arg-1 in
    let now = c.loop-i.invariant in
    let t = c.args.t + c.loop-i.i in
    let later : c.args.t + (c.loop-i.i + 1) ≡ t + 1 = omega arith in
    let end = c.loop-i.place + c.step_len.result in
    let part = take (end - c.loop-i.place) (drop c.loop-i.place c.args.octets.now) in
    record {
      register = omega (arith, bit k, now.register);
      place = step-place c.args.rate c.args.t c.loop-i.i c.loop-i.place c.step_len.result now.place c.step_len.ensures;
      few =
          subst (λ (n : ℕ). AreFew (c.loop-i.place + n) c.add_step.new.counts) (long k)
          (c.add_step.ensures.few c.loop-i.place now.few);
      sum =
          counted-step c.args.rate c.args.invert t _ c.loop-i.now c.loop-i.place end c.loop-i.i c.args.bits.now
          c.args.octets.now c.loop-i.counts c.add_step.new.counts _ later (omega arith)
          (ap (λ n. c.loop-i.place + n) c.step_len.ensures)
          (omega (arith, fits (at-After-add_step-arg-1 k).After-step_len, c.requires.octets))
          (c.add_step.ensures.added ∙ ap (λ l. added c.loop-i.counts (distances l part)) (symbols k)) now.sum;
    }
