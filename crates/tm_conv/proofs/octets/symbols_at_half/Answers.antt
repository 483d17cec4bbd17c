use Rattle.std.proofs.Common.{◌∙◌, ap, sym, get_or, [], ◌∷◌, ◌≡◌}
use Rattle.std.specs.Prelude.{bit_xor}
use lib.Lanes.{zip2}
use Rattle.tm_conv.specs.declared.octets.tables.TheConstants.{FROM_REGISTER, FROM_OCTET}
use Rattle.tm_conv.proofs.OctetTables.{symbols_from_octets, flips, second}
use Rattle.tm_conv.proofs.octets.symbols_at_half.Goals.{then-invert, else-invert}
use Rattle.tm_conv.proofs.octets.symbols_at_half.Goals as goal

pub returns : goal.returns
unfolding flips second
returns c =
    let same : c.if-invert.second ≡ second c.args.invert c.args.low = elim c.if-invert.branch [
      | then-invert w ↦ w.second-is ∙ ap (λ b. second b c.args.low) (sym w.if-invert.true)
      | else-invert w ↦ w.second-is ∙ ap (λ b. second b c.args.low) (sym w.if-invert.false)
    ] in
    let rows : zip2 bit_xor (get_or FROM_REGISTER c.from.result []) (get_or FROM_OCTET c.from-2.result [])
    ≡ zip2 bit_xor (get_or FROM_REGISTER c.args.register []) (get_or FROM_OCTET c.args.octet [])
    = (λ i. zip2 bit_xor (get_or FROM_REGISTER (c.from.ensures i) []) (get_or FROM_OCTET (c.from-2.ensures i) [])) in
    (λ i. zip2 bit_xor (rows i) (c.args.low ∷ same i ∷ c.args.low ∷ same i ∷ c.args.low ∷ same i ∷ c.args.low ∷ same i
    ∷ c.args.low ∷ same i ∷ c.args.low ∷ same i ∷ c.args.low ∷ same i ∷ c.args.low ∷ same i ∷ []))
    ∙ symbols_from_octets c.args.invert c.args.low c.args.register c.args.octet c.ranges.low.fits c.requires
    c.ranges.octet.fits
