use Rattle.std.proofs.Common.{◌≡◌, ◌+◌, ◌<◌, ◌∙◌, ◌++◌, ◌∷◌, [], ◌≤◌, ℕ, List, Err, ap, sym, subst, arith, length, take, drop, take-append-drop}
use Rattle.std.proofs.lemmas.List.{drop_more, length-map, length-take-le, take_all, take_more}
use Rattle.tm_base.specs.Outside.{HasCause}
use Rattle.tm_base.specs.Takers.{HandedOver, HandedPart}
use Rattle.tm_base.specs.declared.outside.Failed.{Failed}
use Rattle.tm_base.proofs.Handing.{HandedOver-push, HandedPart-first, HandedPart-after}
use Rattle.tm_viterbi.specs.WindowBlock.{WindowBlock}
use Rattle.tm_windows.specs.Candidates.{block_of}
use Rattle.tm_windows.specs.Queue.{Queueing}
use Rattle.tm_windows.specs.contracts.queue.WindowQueue.{the_view}
use Rattle.tm_windows.specs.declared.queue.WindowQueue.TheInside.{Inside}
use Rattle.tm_windows.proofs.queue.WindowQueue.hand.Goals as goal

-- as many blocks are ready as the queue says
count : (v : Inside) (q : Queueing) → the_view v ≡ q → v.ready ≤ v.candidates.len → length q.ready ≡ v.ready
count v q is le =
    ap (λ (u : Queueing). length u.ready) (sym is) ∙ length-map (take v.ready v.candidates.items) block_of
    ∙ length-take-le v.ready v.candidates.items (omega (arith, le, v.candidates.ok.0))

pub loop-index-preserved : goal.loop-index-preserved
loop-index-preserved g c =
    let l = c.loop-index in
    let ready = c.args.self.now.ready in
    let many = count c.self.inside c.args.self.now c.self.view_is c.self.invariant.10 in
    let long : l.index < length ready = omega (arith, many, c.loop-index-test.true) in
    let block : WindowBlock = c.block.result in
    let next = take_more ready l.index block long
    ∙ ap (λ (b : WindowBlock). take l.index ready ++ b ∷ []) (sym (c.block.ensures block)) in
    record {
      faults = c.in-Ok.ensures.cause.same ∙ l.invariant.faults;
      handed = subst (λ (bs : List WindowBlock). HandedOver g.B.BlockTaker.took c.args.blocks.now bs
          c.block-in-loop-index.new.self) (sym next)
          (HandedOver-push _ c.args.blocks.now l.blocks c.block-in-loop-index.new.self (take l.index ready) block
          l.invariant.handed c.in-Ok.ensures.ok);
    }

pub returns-in-Err-clause-err : goal.returns-in-Err-clause-err
returns-in-Err-clause-err g c =
    let l = c.loop-index in
    let ready = c.args.self.now.ready in
    let many = count c.self.inside c.args.self.now c.self.view_is c.self.invariant.10 in
    let long : l.index < length ready = omega (arith, many, c.loop-index-test.true) in
    let block : WindowBlock = c.block.result in
    let rest = drop (l.index + 1) ready in
    let whole : take l.index ready ++ block ∷ rest ≡ ready =
    ap (λ (bs : List WindowBlock). take l.index ready ++ bs)
    (ap (λ (b : WindowBlock). b ∷ rest) (c.block.ensures block) ∙ sym (drop_more ready l.index block long))
    ∙ take-append-drop l.index ready in
    subst (λ (bs : List WindowBlock). HandedPart g.B.BlockTaker.took g.B.BlockTaker.broke c.args.blocks.now bs
    c.block-in-loop-index.new.self) whole
    (HandedPart-after _ _ c.args.blocks.now l.blocks c.block-in-loop-index.new.self (take l.index ready) (block ∷ rest)
    l.invariant.handed (HandedPart-first _ _ l.blocks c.block-in-loop-index.new.self block rest c.in-Err.ensures.err))

pub returns-in-Err-clause-cause : goal.returns-in-Err-clause-cause
returns-in-Err-clause-cause g c =
    let new = c.block-in-loop-index.new.self in
    subst (λ (n : ℕ). HasCause {T = Unit {0}} {E = Failed} n (g.B.BlockTaker.faults new) (g.B.BlockTaker.is_last new)
    (Err c.in-Err.field-0)) c.loop-index.invariant.faults c.in-Err.ensures.cause

pub returns-clause-ok : goal.returns-clause-ok
returns-clause-ok g c =
    let l = c.loop-index in
    let ready = c.args.self.now.ready in
    let many = count c.self.inside c.args.self.now c.self.view_is c.self.invariant.10 in
    subst (λ (bs : List WindowBlock). HandedOver g.B.BlockTaker.took c.args.blocks.now bs l.blocks)
    (take_all l.index ready (omega (arith, many, c.loop-index-test.false))) l.invariant.handed
