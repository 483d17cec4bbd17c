use Rattle.std.proofs.Common.{arith}
use Rattle.tm_windows.proofs.FirstDrops.{fewer_looks, fewer_steps, none_in_both}
use Rattle.tm_windows.proofs.looks.next_drop.Goals as goal

pub first_drop-found-requires-clause-room : goal.first_drop-found-requires-clause-room
first_drop-found-requires-clause-room g c =
    fewer_looks c.args.looks.now _ c.args.last (omega arith) c.requires.room

pub first_drop-found-requires-clause-few : goal.first_drop-found-requires-clause-few
first_drop-found-requires-clause-few g c =
    fewer_steps c.args.looks.now.t c.args.looks.now.shape.keep _ c.args.last _ (omega arith) c.requires.few

pub returns-then-found-end : goal.returns-then-found-end
returns-then-found-end g c =
    let found = c.first_drop-found.ensures in
    record {
      within = omega (arith, c.loop-looked.invariant.some, found.within.0, found.within.1);
      none = none_in_both c.args.looks.now 1 c.loop-looked.looked _ c.loop-looked.invariant.none found.none;
      dropped = λ below. found.dropped c.if-found-end.true;
    }

pub loop-looked-preserved : goal.loop-looked-preserved
loop-looked-preserved g c =
    let found = c.first_drop-found.ensures in
    record {
      some = omega arith;
      most = omega arith;
      none = λ k from less. none_in_both c.args.looks.now 1 c.loop-looked.looked _ c.loop-looked.invariant.none
          found.none k from (omega (arith, less, c.if-found-end.false));
    }

pub returns : goal.returns
returns g c = record {
  within = omega arith;
  none = λ k from less. c.loop-looked.invariant.none k from (omega (arith, less, c.loop-looked-test.false));
  dropped = λ below. absurd (omega (arith, below));
}
