use Rattle.std.proofs.Common.{rules, ◌≡◌, ◌∙◌, ◌<◌, ◌+◌, ◌*◌, sym, ap, arith, length, get_or, bit_xor}
use Rattle.std.proofs.lemmas.List.{ext_get_or}
use Rattle.std.proofs.lemmas.List.Elements.{All-from_get_or}
use Rattle.tm_base.specs.Bits.{AreOctets}
use Rattle.tm_codeblock.proofs.Masks.{with_octets, masked-with_octets, length-with_octets, get_or-with_octets, sequence_octet}
use Rattle.tm_codeblock.proofs.SequenceTable.{table}
use Rattle.tm_codeblock.proofs.randomizer.mask_piece.Goals as goal

pub returns : goal.returns
returns c =
    let before = c.args.piece.now in
    let are : AreOctets before = All-from_get_or (λ octet. octet < 256) before 0 (λ n within. search rules) in
    ext_get_or 0 c.loop-k.piece (with_octets 0 before) (c.loop-k.auto.piece ∙ sym (length-with_octets 0 before))
    (λ n within.
    let inside : n < length before = omega (arith, c.loop-k.auto.piece) in
    let place : 8 * n ≡ 0 + 8 * n = omega arith in
    c.loop-k.invariant.done n (omega arith)
    ∙ ap (bit_xor (get_or before n 0)) (table n (omega arith) ∙ ap sequence_octet place)
    ∙ sym (get_or-with_octets 0 before n inside))
    ∙ sym (masked-with_octets 0 before are)
