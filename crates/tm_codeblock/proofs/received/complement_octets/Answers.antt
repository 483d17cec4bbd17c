use Rattle.std.proofs.Common.{rules, ◌∙◌, ◌<◌, sym, arith, length}
use Rattle.std.proofs.lemmas.List.{ext_get_or}
use Rattle.std.proofs.lemmas.List.Elements.{All-from_get_or}
use Rattle.tm_base.specs.Bits.{AreOctets}
use Rattle.tm_codeblock.proofs.Complemented.{all_complemented, complemented-is, length-complemented, get_or-complemented}
use Rattle.tm_codeblock.proofs.received.complement_octets.Goals as goal

pub returns : goal.returns
returns c =
    let before = c.args.octets.now in
    let are : AreOctets before = All-from_get_or (λ octet. octet < 256) before 0 (λ n within. search rules) in
    ext_get_or 0 c.loop-k.octets (all_complemented before) (c.loop-k.auto.octets ∙ sym (length-complemented before))
    (λ n within.
    let inside : n < length before = omega (arith, c.loop-k.auto.octets) in
    c.loop-k.invariant.done n (omega arith) ∙ sym (get_or-complemented before n inside))
    ∙ complemented-is before are
