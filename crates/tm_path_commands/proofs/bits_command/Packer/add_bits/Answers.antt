use Rattle.std.proofs.Common.{◌≡◌, ◌==◌, ◌+◌, ◌++◌, ◌∷◌, ◌∙◌, [], take, map, get_or, sym, ap, subst, arith}
use Rattle.std.proofs.lemmas.List.{append-nil, map-append, take_more}
use Rattle.tm_base.specs.Bits.{low_bits}
use Rattle.tm_path_commands.specs.Packing.{Packs}
use Rattle.tm_path_commands.proofs.PackedBits.{one-bit, packs-more, packs-none}
use Rattle.tm_path_commands.proofs.bits_command.Packer.add_bits.Goals as goal

pub loop-k-init : goal.loop-k-init
loop-k-init g c =
    packs-none g.W.TextTaker.took c.args.self.now [] c.args.self.now c.args.texts.now (sym (append-nil c.args.self.now))

pub loop-k-preserved : goal.loop-k-preserved
loop-k-preserved g c =
    let took = g.W.TextTaker.took in
    let bits = c.args.bits.now in
    let l = c.loop-k in
    let x = get_or bits l.k 0 in
    let prefix = map (λ bit. bit == 1) (take l.k bits) in
    let more : map (λ bit. bit == 1) (take (l.k + 1) bits) ≡ prefix ++ (x == 1) ∷ [] =
    ap (map (λ bit. bit == 1)) (take_more bits l.k 0 (omega arith))
    ∙ map-append (λ bit. bit == 1) (take l.k bits) (x ∷ []) in
    subst (λ l. Packs took c.args.self.now c.args.texts.now l c.add.new.self c.add.new.texts)
    (ap (λ l. prefix ++ l) (one-bit c.from.result (x == 1) c.from.ensures) ∙ sym more)
    (packs-more took c.args.self.now l.self c.add.new.self prefix (low_bits 1 c.from.result) c.args.texts.now l.texts
    c.add.new.texts l.invariant c.add.ensures)
