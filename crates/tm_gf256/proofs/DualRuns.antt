-- What a run over all elements shows of the two tables.
use Rattle.std.proofs.Common.{◌≡◌, true, eqb, ltb, refl, get_or}
use Rattle.tm_gf256.specs.Field.{times, remainder, bit_product}
use Rattle.tm_gf256.proofs.Below.{all_below}
use Rattle.tm_gf256.specs.declared.dual.TheConstants.{OCTETS, ELEMENTS}
use Rattle.tm_gf256.proofs.Traces.{squares, alphas, bits_by_squares}

pub octets_pass : all_below 256 (λ u. eqb (get_or OCTETS u 0) (bits_by_squares 8 u)) ≡ true
unfolding bits_by_squares alphas squares times bit_product remainder
octets_pass = refl

pub octets_small : all_below 256 (λ u. ltb (get_or OCTETS u 0) 256) ≡ true
octets_small = refl

pub elements_small : all_below 256 (λ z. ltb (get_or ELEMENTS z 0) 256) ≡ true
elements_small = refl

pub elements_undo : all_below 256 (λ u. eqb (get_or ELEMENTS (get_or OCTETS u 0) 0) u) ≡ true
elements_undo = refl

pub octets_undo : all_below 256 (λ z. eqb (get_or OCTETS (get_or ELEMENTS z 0) 0) z) ≡ true
octets_undo = refl
