use Rattle.std.proofs.Common.{rules, ℕ, List, [], ◌≡◌, ◌+◌, ◌-◌, ◌++◌, ◌∙◌, refl, sym, ap, subst, arith, take, drop}
use Rattle.std.proofs.Math.Path.{transport}
use Rattle.tm_conv.specs.Path.{steps_size}
use Rattle.tm_conv.specs.Columns.{IsColumn}
use Rattle.tm_conv.proofs.Sizes.{step_size_pos, same_from_steps_size}
use Rattle.tm_conv.proofs.Paths.{steps_size-zero}
use Rattle.tm_driver.specs.Writing.{Out}
use Rattle.tm_viterbi.specs.Starts.{starts_from}
use Rattle.tm_viterbi.specs.Summing.{SumsFor}
use Rattle.tm_cert_file.proofs.Spans.{next_step}
use Rattle.tm_cert_file.proofs.Pushing.{taken_more}
use Rattle.tm_cert_file.proofs.ColumnLists.{TookColumns, took-first, took-push}
use Rattle.tm_cert_file.proofs.writing.write_columns.Goals as goal

pub loop-at-init : goal.loop-at-init
loop-at-init g c =
    let began = c.new-sums.ensures.began in
    record {
      at = sym (ap (steps_size c.args.rate c.args.first) began.4 ∙ steps_size-zero c.args.rate c.args.first);
      within = omega arith;
      t = omega (arith, began.4);
      began = (began.0, began.1, began.2, began.3);
      stands = c.new-sums.ensures.stands;
      took =
          took-first g.W.TextTaker.took c.args.rate c.args.invert c.args.start c.args.first c.new-sums.result.steps
          c.args.octets.now c.column.result.now _ _ began.4
          (transport (λ i. IsColumn (starts_from (began.3 i)) (began.0 i) (began.1 i) (began.2 i) [] c.column.result.now)
          (c.column.ensures.least [] c.new-sums.ensures.stands))
          (subst (λ (o : List ℕ). g.W.TextTaker.took c.args.texts.now (Out o) c.out.new.self) c.column_octets.ensures
          c.out.ensures);
    }

-- ---- the next step

pub slice_bounds-step-end : goal.slice_bounds-step-end
slice_bounds-step-end g c =
    let next = next_step c.args.rate c.args.first c.loop-at.at c.loop-at.sums.steps c.requires.steps.0 _ _
    c.loop-at.invariant.at c.loop-at.invariant.t c.requires.steps.2 c.step_len.ensures c.loop-at-test.true in
    let fits = next.fits in
    search rules

pub step-requires-clause-few : goal.step-requires-clause-few
step-requires-clause-few g c =
    let next = next_step c.args.rate c.args.first c.loop-at.at c.loop-at.sums.steps c.requires.steps.0 _ _
    c.loop-at.invariant.at c.loop-at.invariant.t c.requires.steps.2 c.step_len.ensures c.loop-at-test.true in
    omega (arith, next.few, c.requires.steps.1)

pub overflow_add-t : goal.overflow_add-t
overflow_add-t g c =
    let next = next_step c.args.rate c.args.first c.loop-at.at c.loop-at.sums.steps c.requires.steps.0 _ _
    c.loop-at.invariant.at c.loop-at.invariant.t c.requires.steps.2 c.step_len.ensures c.loop-at-test.true in
    record { fits = omega (arith, next.few) }

pub loop-at-preserved : goal.loop-at-preserved
loop-at-preserved g c =
    let here = c.loop-at in
    let next = next_step c.args.rate c.args.first here.at here.sums.steps c.requires.steps.0 _ _
    here.invariant.at here.invariant.t c.requires.steps.2 c.step_len.ensures c.loop-at-test.true in
    let began = here.invariant.began in
    let now = c.step.ensures.began in
    let read : take here.at c.args.octets.now ++ take (here.at + c.step_len.result - here.at)
    (drop here.at c.args.octets.now) ≡ take (here.at + c.step_len.result) c.args.octets.now =
    taken_more here.at (here.at + c.step_len.result - here.at) (here.at + c.step_len.result) [] _ c.args.octets.now refl
    (omega arith) in
    let size = next.end ∙ ap (steps_size c.args.rate c.args.first) (sym c.step.ensures.steps) in
    let stands = subst (SumsFor c.step.new.self) read
    (c.step.ensures.stands (take here.at c.args.octets.now) here.invariant.stands) in
    let rate = now.0 ∙ began.0 in
    let invert = now.1 ∙ began.1 in
    let first = now.2 ∙ began.2 in
    let start = now.3 ∙ began.3 in
    record {
      at = size;
      within = next.fits;
      t = omega (arith, c.step.ensures.steps, here.invariant.t);
      began = (rate, invert, first, start);
      stands = stands;
      took =
          took-push g.W.TextTaker.took c.args.rate c.args.invert c.args.start c.args.first here.sums.steps
          c.step.new.self.steps c.args.octets.now c.column-in-loop-at.result.now _ _ _ c.step.ensures.steps
          here.invariant.took
          (transport (λ i. IsColumn (starts_from (start i)) (rate i) (invert i) (first i) (take (size i) c.args.octets.now)
          c.column-in-loop-at.result.now) (c.column-in-loop-at.ensures.least _ stands))
          (subst (λ (o : List ℕ). g.W.TextTaker.took here.texts (Out o) c.out-in-loop-at.new.self)
          c.column_octets-in-loop-at.ensures c.out-in-loop-at.ensures);
    }

pub loop-at-smaller : goal.loop-at-smaller
loop-at-smaller g c =
    omega (arith, step_size_pos c.args.rate c.loop-at.t, c.step_len.ensures, c.loop-at-test.true)

pub returns : goal.returns
returns g c steps size =
    let here = c.loop-at in
    let end : steps_size c.args.rate c.args.first here.sums.steps ≡ steps_size c.args.rate c.args.first steps =
    omega (arith, size, here.invariant.at, here.invariant.within, c.loop-at-test.false) in
    let gave = subst (λ n. TookColumns g.W.TextTaker.took c.args.rate c.args.invert c.args.start c.args.first n
    c.args.octets.now c.args.texts.now here.texts) (same_from_steps_size c.args.rate c.args.first here.sums.steps steps
    end) here.invariant.took in
    (gave.columns, gave.are, gave.gave)
