use Rattle.std.proofs.Common.{◌≡◌, ◌-◌, ◌*◌, ◌∙◌, ◌++◌, [], drop, min, take, get_or, sym, ap, subst, arith}
use Rattle.std.proofs.lemmas.List.{append-nil, drop_all}
use Rattle.tm_base.specs.Bits.{bits_of, low_bits}
use Rattle.tm_path_commands.specs.Packing.{Packs}
use Rattle.tm_path_commands.proofs.PackedBits.{octet-after, packs-more, packs-none}
use Rattle.tm_path_commands.proofs.bits_command.Packer.add_octets.Goals as goal

pub loop-k-init : goal.loop-k-init
loop-k-init g c =
    let packer = c.args.self.now in record {
      left = omega arith;
      packs = packs-none g.W.TextTaker.took packer (drop c.args.skip []) packer c.args.texts.now
          (sym (ap (λ l. packer ++ l) (drop_all c.args.skip [] (omega arith)) ∙ append-nil packer));
    }

pub loop-k-preserved : goal.loop-k-preserved
loop-k-preserved g c =
    let took = g.W.TextTaker.took in
    let octets = c.args.octets.now in
    let skip = c.args.skip in
    let l = c.loop-k in
    let skipped = c.min-skipped.result in
    let is : skipped ≡ min (skip - 8 * l.k) 8 = c.min-skipped.ensures ∙ ap (λ n. min n 8) l.invariant.left in record {
      left = omega (arith, l.invariant.left, is);
      packs = subst (λ bits. Packs took c.args.self.now c.args.texts.now bits c.add.new.self c.add.new.texts)
          (octet-after skip l.k skipped octets is (omega arith))
          (packs-more took c.args.self.now l.self c.add.new.self (drop skip (bits_of (take l.k octets)))
          (low_bits (8 - skipped) (get_or octets l.k 0)) c.args.texts.now l.texts c.add.new.texts l.invariant.packs
          c.add.ensures);
    }
