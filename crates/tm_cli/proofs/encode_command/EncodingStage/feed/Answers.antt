use Rattle.std.proofs.Common.{ℕ, ◌-◌, List, [], drop, length, rules, subst, sym, take, arith}
use Rattle.std.proofs.lemmas.Grind.{common_steps}
use Rattle.tm_config.specs.Accepted.{IsAccepted}
use Rattle.tm_config.proofs.Lengths.{codeblock_length-le}
use Rattle.tm_driver.specs.Staged.{Takes}
use Rattle.tm_driver.proofs.FedStage.{takes-more}
use Rattle.tm_driver.proofs.Pieces.{piece-more}
use Rattle.tm_cli.specs.Encoding.{Encodes}
use Rattle.tm_cli.specs.declared.encode_command.Encoding.{Encoding}
use Rattle.tm_cli.proofs.Encoded.{encodes-more}
use Rattle.tm_cli.proofs.encode_command.EncodingStage.feed.Goals as goal

pub loop-at-init : goal.loop-at-init
loop-at-init g c = record { ready = c.requires.ready; within = omega arith; takes = search rules }

pub symbols-taken-requires : goal.symbols-taken-requires
symbols-taken-requires g c =
    let short = codeblock_length-le c.loop-at.self.sender.config c.loop-at.invariant.ready in
    record { room = λ _. grind (arith, short) }

pub loop-at-preserved : goal.loop-at-preserved
loop-at-preserved g c =
    let took = g.W.TextTaker.took in
    let l = c.loop-at in
    let s = c.symbols-taken in
    let piece = c.args.piece.now in
    let octets : List ℕ = take s.result.0 (take (length piece - l.at) (drop l.at piece)) in
    let now : Encoding = record { sender = s.new.self; room = s.new.room } in
    record {
      ready = subst IsAccepted (sym s.ensures.made.config) l.invariant.ready;
      within = grind (arith, common_steps, s.ensures.most);
      takes =
          subst (Takes took Encodes Encodes c.args.self.now now c.args.texts.now c.out.new.self)
          (piece-more [] piece l.at s.result.0)
          (takes-more took Encodes Encodes Encodes c.args.self.now l.self now c.args.texts.now l.texts c.out.new.self
          (take l.at piece) octets l.invariant.takes
          (encodes-more took l.self now l.texts c.out.new.self octets _ (omega (arith, l.invariant.ready.some_data))
          s.ensures.made c.out.ensures));
    }
