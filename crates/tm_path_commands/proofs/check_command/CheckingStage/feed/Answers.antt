use Rattle.std.proofs.Common.{◌∙◌, ℕ, ◌+◌, ◌-◌, List, drop, length, length-take, refl, subst, take, arith}
use Rattle.std.proofs.lemmas.List.{take_all}
use Rattle.tm_cert_file.specs.Reading.{IsOpen}
use Rattle.tm_cert_file.specs.declared.seen.Seen.TheVariants.{More, Failed}
use Rattle.tm_driver.specs.Staged.{Takes}
use Rattle.tm_driver.specs.Writing.{Note}
use Rattle.tm_driver.proofs.FedStage.{takes-none, takes-step, takes-then}
use Rattle.tm_path_commands.specs.Checking.{Checks, Passes}
use Rattle.tm_path_commands.specs.declared.check_command.Checking.{Checking}
use Rattle.tm_path_commands.proofs.CheckedWindows.{passes-more, seen-now, takes-failing}
use Rattle.tm_path_commands.proofs.check_command.CheckingStage.feed.Goals as goal

pub loop-at-init : goal.loop-at-init
loop-at-init g c = record {
  is_open = c.requires.ready;
  within = omega arith;
  takes = takes-none g.W.TextTaker.took Checks c.args.self.now c.args.texts.now;
}

pub loop-at-preserved-in-More : goal.loop-at-preserved-in-More
loop-at-preserved-in-More g c =
    let l = c.loop-at in
    let r = c.push-taken in
    let piece = c.args.piece.now in
    let rest : List ℕ = take (length piece - l.at) (drop l.at piece) in
    let now : Checking = record { reader = r.new.self; tally = l.self.tally } in
    let is_open : IsOpen now.reader =
    seen-now l.self.reader r.new.self r.result.1 More r.ensures.rules r.ensures.before c.in-More.is r.ensures.seen in
    record {
      is_open = is_open;
      within = omega (arith, r.ensures.taken, length-take (length piece - l.at) (drop l.at piece));
      takes =
          takes-step g.W.TextTaker.took Checks Checks Checks c.args.self.now l.self now c.args.texts.now l.texts piece
          l.at r.result.0
          (λ new given done p. (
            is_open,
            passes-more new l.self now given (take r.result.0 rest) done r.ensures.rules refl (r.ensures.stands given)
                p.1,
          )) l.invariant.takes;
    }

pub loop-at-preserved : goal.loop-at-preserved
loop-at-preserved g c =
    let took = g.W.TextTaker.took in
    let l = c.loop-at in
    let r = c.push-taken in
    let n = c.give_window in
    let piece = c.args.piece.now in
    let rest : List ℕ = take (length piece - l.at) (drop l.at piece) in
    let middle : Checking = record { reader = r.new.self; tally = l.self.tally } in
    record {
      is_open = n.ensures.open;
      within = omega (arith, r.ensures.taken, length-take (length piece - l.at) (drop l.at piece));
      takes =
          takes-then took Checks Passes Checks c.args.self.now middle n.new.self c.args.texts.now l.texts n.new.texts
          (take (l.at + r.result.0) piece)
          (takes-step took Checks Checks Passes c.args.self.now l.self middle c.args.texts.now l.texts piece l.at
          r.result.0
          (λ new given done p. passes-more new l.self middle given (take r.result.0 rest) done r.ensures.rules refl
          (r.ensures.stands given) p.1) l.invariant.takes) n.ensures.given;
    }

pub returns-clause-goes_on : goal.returns-clause-goes_on
returns-clause-goes_on g c = λ _.
    let l = c.loop-at in
    let piece = c.args.piece.now in
    subst (Takes g.W.TextTaker.took Checks Checks c.args.self.now l.self c.args.texts.now l.texts)
    (take_all l.at piece (omega (arith, c.loop-at-test.false))) l.invariant.takes

pub returns-in-Failed-clause-stops : goal.returns-in-Failed-clause-stops
returns-in-Failed-clause-stops g c = λ _.
    let took = g.W.TextTaker.took in
    let l = c.loop-at in
    let r = c.push-taken in
    let piece = c.args.piece.now in
    let reason = c.in-Failed.reason in
    let now : Checking = record { reader = r.new.self; tally = l.self.tally } in
    takes-failing took c.read_law.ensures.stays c.read_law.ensures.one c.args.self.now now c.args.texts.now l.texts
    c.note.new.self piece (l.at + r.result.0) reason c.requires.few
    (seen-now l.self.reader r.new.self r.result.1 (Failed reason) r.ensures.rules r.ensures.before c.in-Failed.is
    r.ensures.seen)
    (subst (λ line. took l.texts (Note line) c.note.new.self) (c.octets.ensures ∙ c.bad_text.ensures) c.note.ensures)
    (takes-step took Checks Checks Passes c.args.self.now l.self now c.args.texts.now l.texts piece l.at r.result.0
    (λ new given done p. passes-more new l.self now given
    (take r.result.0 (take (length piece - l.at) (drop l.at piece))) done r.ensures.rules refl (r.ensures.stands given)
    p.1) l.invariant.takes)
