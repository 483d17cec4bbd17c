use Rattle.std.proofs.Common.{◌≡◌, ◌∙◌, ◌+◌, ◌<◌, ◌∷◌, [], suc, List, length, map, take, ap, refl, sym, subst, arith}
use Rattle.std.proofs.lemmas.List.{map-append, take_all, take_more}
use Rattle.tm_base.specs.Handed.{Handed, Item}
use Rattle.tm_base.specs.Takers.{HandedOver}
use Rattle.tm_base.proofs.Handing.{HandedOver-push}
use Rattle.tm_viterbi.specs.WindowBlock.{WindowBlock}
use Rattle.tm_inner.specs.InnerDecoding.{ready_in}
use Rattle.tm_inner.specs.InnerWindows.{block_in, no_block, window_in, windows_from}
use Rattle.tm_inner.specs.declared.window.Window.{Window}
use Rattle.tm_inner.proofs.WatchedWindows.{windows-next}
use Rattle.tm_inner.proofs.watch.watch_ready.Goals as goal

pub loop-index-init : goal.loop-index-init
loop-index-init g c = record { windows = refl; blocks = refl }

pub loop-index-preserved : goal.loop-index-preserved
loop-index-preserved g c =
    let l = c.loop-index in
    let d = c.args.inner.now in
    let ready = ready_in d.queue in
    let next : l.index + 1 ≡ suc l.index = omega arith in
    let long : l.index < length ready = omega (arith, c.loop-index-test.true, c.ready-index-end.ensures) in
    let now = c.window.new.self in
    record {
      windows = subst (λ (windows : List Window). HandedOver g.W.WindowWatch.took c.args.watch.now windows now)
          (sym (ap (windows_from d 0) next ∙ windows-next d 0 l.index l.index (omega arith)))
          (HandedOver-push _ c.args.watch.now l.watch now (windows_from d 0 l.index) (window_in d l.index)
          l.invariant.windows c.window.ensures.window);
      blocks = subst (λ (items : List (Handed WindowBlock)). HandedOver g.W.WindowWatch.told c.args.watch.now items now)
          (sym (ap (map Item) (take_more ready l.index no_block long)
          ∙ map-append Item (take l.index ready) (block_in d l.index ∷ [])))
          (HandedOver-push _ c.args.watch.now l.watch now (map Item (take l.index ready)) (Item (block_in d l.index))
          l.invariant.blocks c.window.ensures.block);
    }

pub returns-clause-windows : goal.returns-clause-windows
returns-clause-windows g c =
    let l = c.loop-index in
    let all : l.index ≡ length (ready_in c.args.inner.now.queue) =
    omega (arith, c.loop-index-test.false, c.ready-index-end.ensures) in
    subst (λ n. HandedOver g.W.WindowWatch.took c.args.watch.now (windows_from c.args.inner.now 0 n) l.watch) all
    l.invariant.windows

pub returns-clause-blocks : goal.returns-clause-blocks
returns-clause-blocks g c =
    let l = c.loop-index in
    let ready = ready_in c.args.inner.now.queue in
    subst (λ (blocks : List WindowBlock). HandedOver g.W.WindowWatch.told c.args.watch.now (map Item blocks) l.watch)
    (take_all l.index ready (omega (arith, c.loop-index-test.false, c.ready-index-end.ensures))) l.invariant.blocks
