-- Bits that are octets 0 and 1.
use Rattle.std.proofs.Common.{◌≡◌, ℕ, ◌+◌, ◌-◌, ◌==◌, Bool, List, ◌++◌, take, drop, map, ap, ◌∙◌, arith}
use Rattle.std.proofs.lemmas.List.{map-append}
use Rattle.std.proofs.Math.Seq.{take-add}

-- the next ones, where `done` were taken
abbrev pub next_octets : ℕ → ℕ → List ℕ → List ℕ
next_octets done count octets = take ((done + count) - done) (drop done octets)

abbrev pub ones : List ℕ → List Bool
ones bits = map (λ bit. bit == 1) bits

pub next-ones : (bits : List ℕ) (done count : ℕ) → ones (take (done + count) bits) ≡ ones (take done bits)
    ++ ones (next_octets done count bits)
next-ones bits done count =
    let same : count ≡ (done + count) - done = omega arith in
    ap ones (take-add done count bits ∙ ap (λ n. take done bits ++ take n (drop done bits)) same)
    ∙ map-append (λ bit. bit == 1) (take done bits) (next_octets done count bits)
