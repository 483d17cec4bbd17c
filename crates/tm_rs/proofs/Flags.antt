-- The octets that say which symbols are erased.
use Rattle.std.proofs.Common.{◌≡◌, ◌<◌, ◌==◌, ℕ, List, Bool, true, not, length, get_or, map, arith, sym, ◌∙◌}
use Rattle.std.proofs.lemmas.List.{ext_get_or, get_or-map, length-map}

pub flags-read : (flags : List ℕ) (erased : List Bool) → length erased ≡ length flags
    → ((i : ℕ) (b : Bool) → i < length flags → get_or erased i b ≡ not (get_or flags i 0 == 0))
    → erased ≡ map (λ flag. not (flag == 0)) flags
flags-read flags erased size reads =
    ext_get_or true erased (map (λ flag. not (flag == 0)) flags)
    (size ∙ sym (length-map flags (λ flag. not (flag == 0))))
    (λ i below. reads i true (omega (arith, size))
    ∙ sym (get_or-map (λ flag. not (flag == 0)) flags i 0 true (omega (arith, size))))
