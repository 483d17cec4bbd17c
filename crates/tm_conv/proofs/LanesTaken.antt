-- A vector's lanes at the places of another.
use Rattle.std.proofs.Common.{◌≡◌, ◌<◌, ◌+◌, ◌*◌, ◌/◌, ◌∙◌, ℕ, List, get_or, sym, ap, arith, length, w8}
use Rattle.std.specs.Prelude.{All}
use Rattle.std.proofs.lemmas.List.{ext_get_or, get_or-map, length-map}
use Rattle.std.proofs.lemmas.Simd.{swz_l, length-swz_l, get_or-swz_l_below}
use lib.Lanes.{Each1}
use Rattle.tm_conv.specs.Octets.{elements_at}

pub lanes_taken : (lanes places : List ℕ) → length places ≡ 16 → All (λ place. place < 16) places
    → swz_l w8 16 lanes 0 places ≡ elements_at places lanes
lanes_taken lanes places long small =
    let other : length (elements_at places lanes) ≡ 16 = length-map places (λ place. get_or lanes place 0) ∙ long in
    ext_get_or 0 (swz_l w8 16 lanes 0 places) (elements_at places lanes)
    (length-swz_l w8 16 lanes 0 places ∙ long ∙ sym other) (λ i within.
    let lt : i < length places = omega (arith, length-swz_l w8 16 lanes 0 places) in
    let at : 16 * ((0 + i) / 16) + get_or places i 0 ≡ get_or places i 0 = omega (arith, long, lt) in
    get_or-swz_l_below w8 16 lanes 0 places i lt (small i 0 lt)
    ∙ ap (λ k. get_or lanes k 0) at
    ∙ sym (get_or-map (λ place. get_or lanes place 0) places i 0 0 lt))
