use Rattle.std.proofs.Common.{◌≡◌, ◌==◌, ◌++◌, ◌∷◌, ◌+◌, ◌-◌, ◌*◌, ◌∙◌, [], take, drop, map, sym, ap, arith}
use Rattle.std.proofs.lemmas.List.{take_all, map-append, append-nil}
use Rattle.std.proofs.lemmas.Grind.{take-set_at}
use Rattle.std.proofs.Math.Seq.{take-add}
use Rattle.tm_base.specs.Bits.{bits_of, bits_of_octet}
use Rattle.tm_base.proofs.Packing.{bits_of-append}
use Rattle.tm_codeblock.proofs.packing.pack.Goals as goal

pub loop-k-preserved : goal.loop-k-preserved
loop-k-preserved c =
    let bits = c.args.bits.now in
    let octets = c.loop-k.octets in
    let k = c.loop-k.k in
    let x = c.octet_of.result in
    let prefix = take (8 * k) bits in
    let next = take (8 * k + 8 - 8 * k) (drop (8 * k) bits) in
    let long : 8 * (k + 1) ≡ 8 * k + (8 * k + 8 - 8 * k) = omega arith in
    let more : take (8 * (k + 1)) bits ≡ prefix ++ next = ap (λ n. take n bits) long
    ∙ take-add (8 * k) (8 * k + 8 - 8 * k) bits in
    ap bits_of (take-set_at octets k (k + 1) x (omega arith) (omega arith))
    ∙ bits_of-append (take k octets) (x ∷ []) ∙ ap (λ l. bits_of (take k octets) ++ l) (append-nil (bits_of_octet x))
    ∙ ap (λ l. l ++ bits_of_octet x) c.loop-k.invariant
    ∙ ap (λ l. map (λ bit. bit == 1) prefix ++ l) c.octet_of.ensures
    ∙ sym (ap (map (λ bit. bit == 1)) more ∙ map-append (λ bit. bit == 1) prefix next)

pub returns-clause-bits : goal.returns-clause-bits
returns-clause-bits c =
    ap bits_of (sym (take_all c.loop-k.k c.loop-k.octets (omega arith))) ∙ c.loop-k.invariant
    ∙ ap (map (λ bit. bit == 1)) (take_all (8 * c.loop-k.k) c.args.bits.now (omega arith))
