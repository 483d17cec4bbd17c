use Rattle.std.proofs.Common.{List, Bool, ℕ, [], ◌++◌, take, get_or, ap, sym, ◌∙◌, arith, append_assoc, length-set}
use Rattle.std.proofs.lemmas.List.{take_more, take_more_set}
use Rattle.tm_base.specs.Bits.{bits_of, bits_of_octet, low_bits}
use Rattle.tm_sync.proofs.Sliding.{bits-more}
use Rattle.tm_sync.proofs.recent_bits.join.Goals as goal

pub loop-k-preserved : goal.loop-k-preserved
loop-k-preserved c =
    let octets = c.args.octets.now in
    let joint = c.loop-k.joint in
    let k = c.loop-k.k in
    let octet : ℕ = get_or octets k 0 in
    let before : List Bool = low_bits c.args.count c.args.begun in
    let last : List Bool = low_bits c.args.count c.loop-k.last in
    let written : List Bool = bits_of (take k joint) in
    record {
      length = length-set joint k c.joined.result ∙ c.loop-k.invariant.length;
      bits =
          ap (λ l. before ++ bits_of l) (take_more octets k 0 (omega arith))
          ∙ sym (bits-more before (take k octets) octet)
          ∙ ap (λ l. l ++ bits_of_octet octet) c.loop-k.invariant.bits
          ∙ append_assoc written last (bits_of_octet octet)
          ∙ ap (λ l. written ++ l) c.joined.ensures
          ∙ sym (append_assoc written (bits_of_octet c.joined.result) (low_bits c.args.count octet))
          ∙ ap (λ l. l ++ low_bits c.args.count octet) (bits-more [] (take k joint) c.joined.result
          ∙ ap bits_of (sym (take_more_set joint k c.joined.result (omega arith))));
    }
