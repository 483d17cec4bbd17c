use Rattle.std.proofs.Common.{◌≡◌, inl, inr, ◌-◌, ◌≤◌, ℕ, List, [], length, take, ◌++◌, drop, arith, subst, sym, ◌∙◌, refl, rules}
use Rattle.std.proofs.lemmas.Grind.{common_steps}
use Rattle.std.proofs.lemmas.List.{length-take-le, take_all}
use Rattle.tm_base.proofs.Handing.{HandedOver-append}
use Rattle.tm_base.proofs.Known.{append_known-nil, prepend_known-nil}
use Rattle.tm_driver.specs.Staged.{StagedTo}
use Rattle.tm_driver.specs.Writing.{Writes}
use Rattle.tm_driver.specs.declared.ending.Ending.{Ending}
use Rattle.tm_driver.proofs.OneTurn.{gave-more, turn-is, going-on}
use Rattle.tm_driver.proofs.FedStage.{fed-either, fed-end, fed-turn, staged-end}
use Rattle.tm_driver.proofs.Turns.{asked-are, asked-last, asked-more, asked-none}
use Rattle.tm_driver.proofs.Writing.{writes-same}
use Rattle.tm_driver.proofs.stage.drive_into.Goals as goal
use Rattle.tm_driver.proofs.stage.drive_into.Goals.{then-room-eq0, else-room-eq0}

pub loop-room-init : goal.loop-room-init
loop-room-init g c = record {
  ready = c.requires.ready;
  read = (
    [],
    [],
    record { given = sym (append_known-nil _); consumed = sym (prepend_known-nil _) },
    omega arith,
    subst (λ o. g.T.Stage.stands c.args.stage.now c.args.stage.now o []) (sym (take_all c.args.limit [] (omega arith)))
        c.requires.fresh,
    refl,
  );
  going = c.requires.going;
  ended = refl;
  asked = asked-none c.args.limit _;
  source = refl;
}

pub loop-room-preserved : goal.loop-room-preserved
loop-room-preserved g c =
    let was = c.loop-room.invariant.read in
    let kept : c.if-room-eq0.kept ≡ c.in-Ok.count - (1 - (c.loop-room.room - c.in-Ok.count)) =
    elim c.if-room-eq0.branch [ then-room-eq0 w ↦ omega arith | else-room-eq0 w ↦ omega arith ] in
    let turn = turn-is c.args.limit was.0 c.read.new.buf (drop c.min-most.result c.loop-room.buffer) was.3 kept
    (omega arith) (grind (arith, common_steps, c.in-Ok.ensures.bound, c.read.auto.buf)) c.in-Ok.ensures.bound.0 in
    let t = c.feed-goes_on.ensures.goes_on c.if-not-goes_on.false in
    record {
      ready = c.feed-goes_on.ensures.ready c.if-not-goes_on.false;
      read = (
        was.0 ++ take c.in-Ok.count c.read.new.buf,
        was.1 ++ t.texts,
        gave-more _ _ _ _ _ _ _ _ was.2 c.in-Ok.ensures.given c.in-Ok.ensures.left,
        omega (arith, turn.1),
        fed-turn (Writes g.O.Sink g.N.Sink) g.T.Stage.stands c.args.stage.now c.loop-room.stage c.feed-goes_on.new.self
            c.loop-room.texts c.feed-goes_on.new.texts c.args.limit was.0 was.1 was.4 c.requires.limit
            g.T.Stage.stands (take c.in-Ok.count c.read.new.buf) _ turn.0 t,
        HandedOver-append (Writes g.O.Sink g.N.Sink) c.args.texts.now c.loop-room.texts c.feed-goes_on.new.texts was.1
            t.texts was.5 t.handed,
      );
      going = c.if-texts-2.false;
      ended =
          going-on _ _ c.in-Ok.count (length c.read.new.buf) (omega arith) c.in-Ok.ensures.ended
          ∙ c.loop-room.invariant.ended;
      asked = asked-more c.args.limit _ _ _ _ _ c.loop-room.invariant.asked c.loop-room-test.true
          c.in-Ok.ensures.asked (grind (arith, common_steps, c.read.auto.buf)) c.in-Ok.count
          (length-take-le c.in-Ok.count c.read.new.buf c.in-Ok.ensures.bound.0) (omega arith);
      source = grind (arith, common_steps);
    }

pub returns-then-texts-2-clause-staged : goal.returns-then-texts-2-clause-staged
returns-then-texts-2-clause-staged g c =
    let was = c.loop-room.invariant.read in
    let kept : c.if-room-eq0.kept ≡ c.in-Ok.count - (1 - (c.loop-room.room - c.in-Ok.count)) =
    elim c.if-room-eq0.branch [ then-room-eq0 w ↦ omega arith | else-room-eq0 w ↦ omega arith ] in
    let turn = turn-is c.args.limit was.0 c.read.new.buf (drop c.min-most.result c.loop-room.buffer) was.3 kept
    (omega arith) (grind (arith, common_steps, c.in-Ok.ensures.bound, c.read.auto.buf)) c.in-Ok.ensures.bound.0 in
    let f = fed-either (Writes g.O.Sink g.N.Sink) g.T.Stage.stands c.args.stage.now c.loop-room.stage
    c.feed-goes_on.new.self c.loop-room.texts c.feed-goes_on.new.texts c.args.limit was.0 was.1 was.4 c.requires.limit
    g.T.Stage.stopped c.feed-goes_on.result (take c.in-Ok.count c.read.new.buf) _ turn.0
    c.feed-goes_on.ensures.goes_on c.feed-goes_on.ensures.stops in (
      was.0 ++ take c.in-Ok.count c.read.new.buf,
      was.1 ++ f.0,
      gave-more _ _ _ _ _ _ _ _ was.2 c.in-Ok.ensures.given c.in-Ok.ensures.left,
      omega (arith, turn.1),
      elim f.1 [ inl stands ↦ inl stands | inr stops ↦ inr (inl stops) ],
      HandedOver-append (Writes g.O.Sink g.N.Sink) c.args.texts.now c.loop-room.texts c.feed-goes_on.new.texts was.1
          f.0 was.5 f.2,
    )

pub returns-then-texts-2-clause-halts : goal.returns-then-texts-2-clause-halts
returns-then-texts-2-clause-halts g c is =
    let was = c.loop-room.invariant.read in
    let kept : c.if-room-eq0.kept ≡ c.in-Ok.count - (1 - (c.loop-room.room - c.in-Ok.count)) =
    elim c.if-room-eq0.branch [ then-room-eq0 w ↦ omega arith | else-room-eq0 w ↦ omega arith ] in
    let turn = turn-is c.args.limit was.0 c.read.new.buf (drop c.min-most.result c.loop-room.buffer) was.3 kept
    (omega arith) (grind (arith, common_steps, c.in-Ok.ensures.bound, c.read.auto.buf)) c.in-Ok.ensures.bound.0 in
    let f = fed-either (Writes g.O.Sink g.N.Sink) g.T.Stage.stands c.args.stage.now c.loop-room.stage
    c.feed-goes_on.new.self c.loop-room.texts c.feed-goes_on.new.texts c.args.limit was.0 was.1 was.4 c.requires.limit
    g.T.Stage.stopped c.feed-goes_on.result (take c.in-Ok.count c.read.new.buf) _ turn.0
    c.feed-goes_on.ensures.goes_on c.feed-goes_on.ensures.stops in
    let unended = going-on _ _ c.in-Ok.count (length c.read.new.buf) (omega arith) c.in-Ok.ensures.ended
    ∙ c.loop-room.invariant.ended in
    record {
      fed = was.1;
      last = f.0;
      fails = (c.loop-room.texts, was.5, c.loop-room.invariant.going, f.2);
      when = inl (unended, take c.args.limit (was.0 ++ take c.in-Ok.count c.read.new.buf), f.1);
    }

pub returns-then-not-goes_on-clause-staged : goal.returns-then-not-goes_on-clause-staged
returns-then-not-goes_on-clause-staged g c =
    let was = c.loop-room.invariant.read in
    let kept : c.if-room-eq0.kept ≡ c.in-Ok.count - (1 - (c.loop-room.room - c.in-Ok.count)) =
    elim c.if-room-eq0.branch [ then-room-eq0 w ↦ omega arith | else-room-eq0 w ↦ omega arith ] in
    let turn = turn-is c.args.limit was.0 c.read.new.buf (drop c.min-most.result c.loop-room.buffer) was.3 kept
    (omega arith) (grind (arith, common_steps, c.in-Ok.ensures.bound, c.read.auto.buf)) c.in-Ok.ensures.bound.0 in
    let t = c.feed-goes_on.ensures.stops c.if-not-goes_on.true in (
      was.0 ++ take c.in-Ok.count c.read.new.buf,
      was.1 ++ t.texts,
      gave-more _ _ _ _ _ _ _ _ was.2 c.in-Ok.ensures.given c.in-Ok.ensures.left,
      omega (arith, turn.1),
      fed-turn (Writes g.O.Sink g.N.Sink) g.T.Stage.stands c.args.stage.now c.loop-room.stage c.feed-goes_on.new.self
          c.loop-room.texts c.feed-goes_on.new.texts c.args.limit was.0 was.1 was.4 c.requires.limit
          g.T.Stage.stopped (take c.in-Ok.count c.read.new.buf) _ turn.0 t,
      HandedOver-append (Writes g.O.Sink g.N.Sink) c.args.texts.now c.loop-room.texts c.feed-goes_on.new.texts was.1
          t.texts was.5 t.handed,
    )

pub returns-then-texts-clause-staged : goal.returns-then-texts-clause-staged
returns-then-texts-clause-staged g c =
    let was = c.loop-room.invariant.read in
    let t = c.finish-outcome.ensures in
    let f = fed-end (Writes g.O.Sink g.N.Sink) g.T.Stage.stands c.args.stage.now c.loop-room.stage
    c.finish-outcome.new.self c.loop-room.texts c.finish-outcome.new.texts c.args.limit was.0 was.1 was.4
    c.requires.limit g.T.Stage.finished c.finish-outcome.result t in (
      was.0,
      was.1 ++ t.texts,
      grind (arith, common_steps),
      omega (arith, was.3),
      inr (inr (c.finish-outcome.result, f)),
      HandedOver-append (Writes g.O.Sink g.N.Sink) c.args.texts.now c.loop-room.texts c.finish-outcome.new.texts was.1
          t.texts was.5 t.handed,
    )

pub returns-then-texts-clause-halts : goal.returns-then-texts-clause-halts
returns-then-texts-clause-halts g c is =
    let was = c.loop-room.invariant.read in
    let t = c.finish-outcome.ensures in
    let f = fed-end (Writes g.O.Sink g.N.Sink) g.T.Stage.stands c.args.stage.now c.loop-room.stage
    c.finish-outcome.new.self c.loop-room.texts c.finish-outcome.new.texts c.args.limit was.0 was.1 was.4
    c.requires.limit g.T.Stage.finished c.finish-outcome.result t in
    record {
      fed = was.1;
      last = t.texts;
      fails = (c.loop-room.texts, was.5, c.loop-room.invariant.going, t.handed);
      when = inr (
        search rules,
        record {
          octets = take c.args.limit was.0;
          before = c.loop-room.stage;
          stood = was.4;
          outcome = c.finish-outcome.result;
          ends = f;
        },
      );
    }

pub returns-in-Ok-eq0-clause-staged : goal.returns-in-Ok-eq0-clause-staged
returns-in-Ok-eq0-clause-staged g c =
    let was = c.loop-room.invariant.read in
    let within : length was.0 ≤ c.args.limit = omega (arith, was.3, c.loop-room-test.true) in
    let t = c.finish-outcome.ensures in
    let f = fed-end (Writes g.O.Sink g.N.Sink) g.T.Stage.stands c.args.stage.now c.loop-room.stage
    c.finish-outcome.new.self c.loop-room.texts c.finish-outcome.new.texts c.args.limit was.0 was.1 was.4
    c.requires.limit g.T.Stage.finished c.finish-outcome.result t in (
      was.0,
      was.1 ++ t.texts,
      grind (arith, common_steps),
      omega (arith, within),
      subst (λ (ending : Ending). StagedTo (g.T.Stage.stands c.args.stage.now) (g.T.Stage.stopped c.args.stage.now)
          (g.T.Stage.finished c.args.stage.now) c.args.limit c.finish-outcome.new.self ending was.0 (was.1 ++ t.texts))
          (sym c.ending.ensures)
          (staged-end (g.T.Stage.stands c.args.stage.now) (g.T.Stage.stopped c.args.stage.now)
          (g.T.Stage.finished c.args.stage.now) c.args.limit c.finish-outcome.new.self c.finish-outcome.result was.0
          (was.1 ++ t.texts) within
          (subst (λ (o : List ℕ). g.T.Stage.finished c.args.stage.now c.finish-outcome.new.self o (was.1 ++ t.texts)
          c.finish-outcome.result) (take_all c.args.limit was.0 within) f)),
      HandedOver-append (Writes g.O.Sink g.N.Sink) c.args.texts.now c.loop-room.texts c.finish-outcome.new.texts was.1
          t.texts was.5 t.handed,
    )

pub returns-then-texts-2-clause-same : goal.returns-then-texts-2-clause-same
returns-then-texts-2-clause-same g c =
    let d = returns-then-texts-2-clause-staged g c in writes-same g.O.Sink g.N.Sink d.1 _ _ d.5

pub returns-then-not-goes_on-clause-same : goal.returns-then-not-goes_on-clause-same
returns-then-not-goes_on-clause-same g c =
    let d = returns-then-not-goes_on-clause-staged g c in writes-same g.O.Sink g.N.Sink d.1 _ _ d.5

pub returns-then-texts-clause-same : goal.returns-then-texts-clause-same
returns-then-texts-clause-same g c =
    let d = returns-then-texts-clause-staged g c in writes-same g.O.Sink g.N.Sink d.1 _ _ d.5

pub returns-in-Ok-eq0-clause-same : goal.returns-in-Ok-eq0-clause-same
returns-in-Ok-eq0-clause-same g c =
    let d = returns-in-Ok-eq0-clause-staged g c in writes-same g.O.Sink g.N.Sink d.1 _ _ d.5

pub returns-in-Err-clause-same : goal.returns-in-Err-clause-same
returns-in-Err-clause-same g c = writes-same g.O.Sink g.N.Sink _ _ _ c.loop-room.invariant.read.5

pub returns-clause-same : goal.returns-clause-same
returns-clause-same g c = writes-same g.O.Sink g.N.Sink _ _ _ c.loop-room.invariant.read.5

pub returns-then-texts-clause-source : goal.returns-then-texts-clause-source
returns-then-texts-clause-source g c =
    let turns = asked-last c.args.limit _ _ _ _ _ c.loop-room.invariant.asked c.loop-room-test.true
    c.in-Ok-eq0.ensures.asked (grind (arith, common_steps, c.read.auto.buf)) in search (rules, turns)

pub returns-in-Ok-eq0-clause-source : goal.returns-in-Ok-eq0-clause-source
returns-in-Ok-eq0-clause-source g c =
    let turns = asked-last c.args.limit _ _ _ _ _ c.loop-room.invariant.asked c.loop-room-test.true
    c.in-Ok-eq0.ensures.asked (grind (arith, common_steps, c.read.auto.buf)) in search (rules, turns)

pub returns-then-texts-2-clause-source : goal.returns-then-texts-2-clause-source
returns-then-texts-2-clause-source g c =
    let turns = asked-last c.args.limit _ _ _ _ _ c.loop-room.invariant.asked c.loop-room-test.true
    c.in-Ok.ensures.asked (grind (arith, common_steps, c.read.auto.buf)) in search (rules, turns)

pub returns-then-not-goes_on-clause-source : goal.returns-then-not-goes_on-clause-source
returns-then-not-goes_on-clause-source g c =
    let turns = asked-last c.args.limit _ _ _ _ _ c.loop-room.invariant.asked c.loop-room-test.true
    c.in-Ok.ensures.asked (grind (arith, common_steps, c.read.auto.buf)) in search (rules, turns)

pub returns-in-Err-clause-source : goal.returns-in-Err-clause-source
returns-in-Err-clause-source g c =
    let turns = asked-last c.args.limit _ _ _ _ _ c.loop-room.invariant.asked c.loop-room-test.true
    c.in-Err.ensures.asked (grind (arith, common_steps, c.read.auto.buf)) in search (rules, turns)

pub returns-clause-source : goal.returns-clause-source
returns-clause-source g c =
    let turns = asked-are c.args.limit _ _ _ c.loop-room.invariant.asked in search (rules, turns)
