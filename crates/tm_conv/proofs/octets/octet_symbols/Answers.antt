use Rattle.std.proofs.Common.{◌+◌, ◌∙◌, ap, get_or, ℕ, List, [], take, w8}
use Rattle.std.proofs.lemmas.Simd.{swz_l}
use Rattle.tm_base.specs.Bits.{low_bits}
use Rattle.tm_conv.specs.declared.octets.TheConstants.{KEPT, COUNTS}
use Rattle.tm_conv.specs.Encoding.{level}
use Rattle.tm_conv.specs.Octets.{AreKept, elements_at}
use Rattle.tm_conv.proofs.LanesTaken.{lanes_taken}
use Rattle.tm_conv.proofs.octets.octet_symbols.Goals as goal

pub returns-clause-kept : goal.returns-clause-kept
unfolding low_bits
returns-clause-kept c =
    let first = c.first_row.result in
    let position = c.args.position in
    let lanes = c.symbols_at_half-symbols.result in
    let places = get_or KEPT (first + position) [] in
    let count = get_or COUNTS (first + position) 0 in
    let row : AreKept c.args.rate position places count = c.first_row.ensures.rows position c.requires.position in
    ap (λ (k : ℕ). take (get_or COUNTS (first + k) 0) (swz_l w8 16 lanes 0 (get_or KEPT (first + k) []))) c.from.ensures
    ∙ ap (take count) (lanes_taken lanes places row.long row.small)
    ∙ ap (λ (l : List ℕ). take count (elements_at places l)) c.symbols_at_half-symbols.ensures
    ∙ row.kept (level c.args.low) c.args.invert c.args.register _ _ _ _ _ _ _ _
