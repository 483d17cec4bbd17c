use Rattle.std.proofs.Common.{◌<◌, ◌∙◌, [], ◌∷◌, Option, length, refl, sym, ap, arith, take}
use Rattle.std.proofs.lemmas.List.{take_more}
use Rattle.tm_windows.specs.Queue.{Queueing}
use Rattle.tm_inner.specs.InnerDecoding.{ready_in}
use Rattle.tm_inner.specs.InnerWindows.{block_in, no_block}
use Rattle.tm_path_commands.specs.Certifying.{starts_after}
use Rattle.tm_path_commands.proofs.CertifiedWindows.{part-none, part-push, queue-of, ready-gave, ready-none, starts-on}
use Rattle.tm_path_commands.proofs.certify_command.certify_ready.Goals as goal

pub returns-in_default-clause-gave : goal.returns-in_default-clause-gave
returns-in_default-clause-gave g c =
    ready-none g.W.TextTaker.took c.args.inner.now c.args.start.now c.args.texts.now c.shape.ensures.of
    (sym c.shape.ensures.shape ∙ c.in_default.is)

pub loop-index-init : goal.loop-index-init
loop-index-init g c =
    let took = g.W.TextTaker.took in
    let q = queue-of c.args.inner.now.queue c.in-Some.shape (sym c.shape.ensures.shape ∙ c.in-Some.is) in record {
      small = c.requires.start;
      next = refl;
      gave = (q.0, q.1, part-none took q.0 c.args.start.now c.args.texts.now);
    }

pub loop-index-preserved : goal.loop-index-preserved
loop-index-preserved g c =
    let took = g.W.TextTaker.took in
    let l = c.loop-index in
    let e = c.certify_window.ensures in
    let ready = ready_in c.args.inner.now.queue in
    let start = c.args.start.now in
    let q = l.invariant.gave.0 in
    let is = l.invariant.gave.1 in
    let long : l.index < length ready = omega (arith, c.loop-index-test.true, c.ready-index-end.ensures) in
    let block = block_in c.args.inner.now l.index in
    record {
      small = e.start;
      next =
          e.next no_block ∙ sym (ap (starts_after start) (take_more ready l.index no_block long)
          ∙ starts-on start (take l.index ready) (block ∷ []));
      gave = (
        q,
        is,
        part-push took q start l.start l.index no_block c.args.texts.now l.texts c.certify_window.new.texts
            (omega (arith, long, ap (λ (o : Option Queueing). length (ready_in o)) is))
            (l.invariant.next ∙ ap (λ (o : Option Queueing). starts_after start (take l.index (ready_in o))) is)
            l.invariant.gave.2 (e.gave q no_block is),
      );
    }

pub returns-clause-gave : goal.returns-clause-gave
returns-clause-gave g c =
    let l = c.loop-index in
    let q = l.invariant.gave.0 in
    let is = l.invariant.gave.1 in
    ready-gave g.W.TextTaker.took c.args.inner.now q c.args.start.now l.start l.index c.args.texts.now l.texts is
    (omega (
      arith,
      c.loop-index-test.false,
      c.ready-index-end.ensures,
      ap (λ (o : Option Queueing). length (ready_in o)) is,
    )) c.shape.ensures.of l.invariant.next l.invariant.gave.2
