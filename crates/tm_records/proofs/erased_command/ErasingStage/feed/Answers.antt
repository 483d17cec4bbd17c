use Rattle.std.proofs.Common.{ℕ, ◌+◌, ◌-◌, List, drop, length, subst, take, arith}
use Rattle.std.proofs.lemmas.Grind.{common_steps}
use Rattle.std.proofs.lemmas.List.{take_all}
use Rattle.tm_driver.specs.Staged.{Takes}
use Rattle.tm_driver.proofs.FedStage.{takes-none, takes-step, takes-then}
use Rattle.tm_records.specs.Erasing.{Erases}
use Rattle.tm_records.specs.declared.erased_command.Erasing.{Erasing}
use Rattle.tm_records.proofs.Erasing.{held-more}
use Rattle.tm_records.proofs.erased_command.ErasingStage.feed.Goals as goal

pub loop-at-init : goal.loop-at-init
loop-at-init g c = record {
  space = c.requires.ready.1;
  within = omega arith;
  takes = takes-none g.W.TextTaker.took Erases c.args.self.now c.args.texts.now;
}

pub loop-at-preserved : goal.loop-at-preserved
loop-at-preserved g c =
    let took = g.W.TextTaker.took in
    let l = c.loop-at in
    let r = c.take-at in
    let n = c.end_full in
    let piece = c.args.piece.now in
    let rest : List ℕ = take (length piece - l.at) (drop l.at piece) in
    let middle : Erasing g.row.R.Denot =
    record { rt = l.self.rt; records = r.new.self; beyond = l.self.beyond } in
    record {
      space = n.ensures.space;
      within = grind (arith, common_steps, r.ensures.count);
      takes =
          takes-then took Erases Erases Erases c.args.self.now middle n.new.self c.args.texts.now l.texts n.new.texts
          (take (l.at + r.result) piece)
          (takes-step took Erases Erases Erases c.args.self.now l.self middle c.args.texts.now l.texts piece l.at
          r.result
          (λ new given done h. held-more new.records.coding l.self.records r.new.self l.self.beyond given
          (take r.result rest) done r.ensures.coding r.ensures.octets h) l.invariant.takes) n.ensures.given;
    }

pub returns-clause-goes_on : goal.returns-clause-goes_on
returns-clause-goes_on g c = λ _.
    let l = c.loop-at in
    let piece = c.args.piece.now in
    let t = subst (Takes g.W.TextTaker.took Erases Erases c.args.self.now l.self c.args.texts.now l.texts)
    (take_all l.at piece (omega (arith, c.loop-at-test.false))) l.invariant.takes in
    record {
      texts = t.texts;
      handed = t.handed;
      stands = λ new given done few h. (l.invariant.space, t.stands new given done few h.1);
    }
