use Rattle.std.proofs.Common.{◌≡◌, ◌∙◌, ◌*◌, ◌%◌, ◌^◌, ◌+◌, ◌∷◌, ◌++◌, [], List, Bool, ap, sym, arith, take, get_or, bit_or}
use Rattle.std.proofs.lemmas.List.{take_more}
use Rattle.tm_base.specs.Bits.{number_of, bits_of}
use Rattle.tm_sync.proofs.Sliding.{received-octet, bits-more}
use Rattle.tm_sync.proofs.search.last_bits.Goals as goal

pub loop-octet-preserved : goal.loop-octet-preserved
loop-octet-preserved c = λ bits is.
    let octets = c.args.octets.now in
    let i = c.loop-octet.octet-index in
    let x = get_or octets i 0 in
    let grows : take (i + 1) octets ≡ take i octets ++ x ∷ [] = take_more octets i 0 (omega arith) in
    ap (bit_or (c.loop-octet.last * 256 % 2 ^ 32)) c.from.ensures
    ∙ received-octet c.loop-octet.last x (bits ++ bits_of (take i octets)) (omega arith)
    (c.loop-octet.invariant bits is)
    ∙ ap (λ (l : List Bool). number_of l % 2 ^ 32) (bits-more bits (take i octets) x
    ∙ ap (λ l. bits ++ bits_of l) (sym grows))
